-- Expressions are read exactly, and their words are those of nested blocks.
use Rattle.std.proofs.Common.{◌≡◌, ℕ, zero, suc, ◌+◌, ◌-◌, ◌≤◌, Bool, true, false, List, [], ◌∷◌, ◌++◌, length, Option, Some, None, refl, sym, ap, subst, ◌∙◌, append_assoc, inl, inr, ◌⊎◌, arith, length-append}
use Rattle.std.proofs.lemmas.List.{append-nil}
use Rattle.ic_base.specs.Reader.{◌>>=◌}
use Rattle.ic_base.specs.Spelling.{SpellsMany}
use Rattle.ic_base.specs.Exact.{Exact}
use Rattle.ic_base.proofs.Steps.{bind_some}
use Rattle.ic_base.proofs.Loops.{with_front}
use Rattle.ic_base.proofs.Exact.{exact_of, taken}
use Rattle.wm_tree.specs.declared.types.ValType.{ValType}
use Rattle.wm_tree.specs.declared.class.Class.{Class}
use Rattle.wm_tree.specs.declared.class.Class.TheVariants.{Opens, Turns, Closes, Fixed, Memory, Access, Special}
use Rattle.wm_tree.specs.declared.class.Shape.{Shape}
use Rattle.wm_tree.specs.declared.class.Shape.TheVariants as shape
use Rattle.wm_tree.specs.declared.instr.Instr.{Instr}
use Rattle.wm_tree.specs.declared.instr.Instr.TheVariants as op
use Rattle.wm_tree.specs.Row.{row_of}
use Rattle.wm_tree.specs.Seq.{Seq, Empty, Plain, BlockOf, LoopOf, IfOf, IfElseOf, flatten, is_structural, IsProper, IsFlat}
use Rattle.wm_decode.specs.Instructions.{SpellsWord, SpellsExpr}
use Rattle.wm_decode.specs.Readers.{word_at, Follow, done, on, wrong, follow, onward, words_at, expr_at}
use Rattle.wm_decode.proofs.ExactWords.{word_exact}

-- ---- open blocks, by the words alone

-- what the blocks go on to
abbrev ran : (List Bool → Option (List Bool)) → Follow → Option (List Bool)
ran more done = None
ran more (on blocks) = more blocks
ran more wrong = None

-- the blocks that are open after the words; none where the words may not stand so
abbrev run : List Bool → List Instr → Option (List Bool)
run blocks [] = Some blocks
run blocks (w ∷ words) = ran (λ b. run b words) (follow (row_of w).class blocks)

-- a plain word leaves the blocks
plain_follows : (c : Class) (blocks : List Bool) → is_structural c ≡ false → follow c blocks ≡ on blocks
plain_follows (Opens s t) blocks e = cc
plain_follows Turns blocks e = cc
plain_follows Closes blocks e = cc
plain_follows (Fixed s) blocks e = refl
plain_follows (Memory s) blocks e = refl
plain_follows (Access s arg natural) blocks e = refl
plain_follows Special blocks e = refl

-- a whole sequence leaves the blocks
run-flatten : (t : Seq) (blocks : List Bool) (more : List Instr) → IsProper t → run blocks (flatten t ++ more) ≡ run blocks more
run-flatten Empty blocks more h = refl
run-flatten (Plain i rest) blocks more h = rw (plain_follows (row_of i).class blocks h.0) (run-flatten rest blocks more h.1)
run-flatten (BlockOf t body rest) blocks more h =
    rw (append_assoc (flatten body) (op.End ∷ flatten rest) more)
    (run-flatten body (false ∷ blocks) (op.End ∷ (flatten rest ++ more)) h.0 ∙ run-flatten rest blocks more h.1)
run-flatten (LoopOf t body rest) blocks more h =
    rw (append_assoc (flatten body) (op.End ∷ flatten rest) more)
    (run-flatten body (false ∷ blocks) (op.End ∷ (flatten rest ++ more)) h.0 ∙ run-flatten rest blocks more h.1)
run-flatten (IfOf t body rest) blocks more h =
    rw (append_assoc (flatten body) (op.End ∷ flatten rest) more)
    (run-flatten body (true ∷ blocks) (op.End ∷ (flatten rest ++ more)) h.0 ∙ run-flatten rest blocks more h.1)
run-flatten (IfElseOf t body other rest) blocks more h =
    rw (append_assoc (flatten body) (op.Else ∷ (flatten other ++ (op.End ∷ flatten rest))) more, append_assoc (flatten other) (op.End ∷ flatten rest) more)
    (run-flatten body (true ∷ blocks) (op.Else ∷ (flatten other ++ (op.End ∷ (flatten rest ++ more)))) h.0
    ∙ run-flatten other (false ∷ blocks) (op.End ∷ (flatten rest ++ more)) h.1 ∙ run-flatten rest blocks more h.2)

-- ---- words that leave no block open are those of a sequence

-- a sequence, and after it what Tail says
record Begins (Tail : List Instr → Type 0) (words : List Instr) : Type 0 where
  tree : Seq
  proper : IsProper tree
  more : List Instr
  whole : words ≡ flatten tree ++ more
  tail : Tail more

-- an `end` or an `else`, and what follows it
record Closing (Tail : List Instr → Type 0) (words : List Instr) : Type 0 where
  more : List Instr
  whole : words ≡ op.End ∷ more
  begins : Begins Tail more

record Turning (Tail : List Instr → Type 0) (words : List Instr) : Type 0 where
  more : List Instr
  whole : words ≡ op.Else ∷ more
  begins : Begins (Closing Tail) more

-- what comes after the sequence in the innermost block
abbrev Tail : List Bool → List Instr → Type 0
Tail [] words = words ≡ []
Tail (false ∷ blocks) words = Closing (Tail blocks) words
Tail (true ∷ blocks) words = Closing (Tail blocks) words ⊎ Turning (Tail blocks) words

before_plain : (T : List Instr → Type 0) (i : Instr) (words : List Instr) → is_structural (row_of i).class ≡ false → Begins T words → Begins T (i ∷ words)
before_plain T i words e b =
    record { tree = Plain i b.tree; proper = (e, b.proper); more = b.more; whole = ap (λ (ws : List Instr). i ∷ ws) b.whole; tail = b.tail }

-- the words of a block, and of what follows it
regrouped : (i : Instr) (body rest : Seq) (more words after behind : List Instr) → words ≡ flatten body ++ after → after ≡ op.End ∷ behind → behind ≡ flatten rest ++ more
    → i ∷ words ≡ i ∷ ((flatten body ++ (op.End ∷ flatten rest)) ++ more)
regrouped i body rest more words after behind e f g = rw (e, f, g, append_assoc (flatten body) (op.End ∷ flatten rest) more) refl

before_block : (T : List Instr → Type 0) (i : Instr) (open_with : Seq → Seq → Seq) (words : List Instr)
    → ((body rest : Seq) → flatten (open_with body rest) ≡ i ∷ (flatten body ++ (op.End ∷ flatten rest)))
    → ((body rest : Seq) → IsProper body → IsProper rest → IsProper (open_with body rest))
    → Begins (Closing T) words → Begins T (i ∷ words)
before_block T i open_with words words_are is_proper b =
    let c = b.tail in
    let r = c.begins in
    record {
      tree = open_with b.tree r.tree;
      proper = is_proper b.tree r.tree b.proper r.proper;
      more = r.more;
      whole = regrouped i b.tree r.tree r.more words b.more c.more b.whole c.whole r.whole ∙ ap (λ (ws : List Instr). ws ++ r.more) (sym (words_are b.tree r.tree));
      tail = r.tail;
    }

before_if : (T : List Instr → Type 0) (t : Option ValType) (words : List Instr) → Begins (λ ws. Closing T ws ⊎ Turning T ws) words → Begins T (op.If t ∷ words)
before_if T t words b =
    elim b.tail [
      | inl c ↦ before_block T (op.If t) (IfOf t) words (λ _ _. refl) (λ _ _ p q. (p, q))
          (record { tree = b.tree; proper = b.proper; more = b.more; whole = b.whole; tail = c })
      | inr u ↦
          let o = u.begins in
          let c = o.tail in
          let r = c.begins in
          record {
            tree = IfElseOf t b.tree o.tree r.tree;
            proper = (b.proper, o.proper, r.proper);
            more = r.more;
            whole = rw (
              b.whole,
              u.whole,
              o.whole,
              c.whole,
              r.whole,
              append_assoc (flatten b.tree) (op.Else ∷ (flatten o.tree ++ (op.End ∷ flatten r.tree))) r.more,
              append_assoc (flatten o.tree) (op.End ∷ flatten r.tree) r.more,
            ) refl;
            tail = r.tail;
          }
    ]

-- nothing, and what comes after it
at_once : (T : List Instr → Type 0) (words : List Instr) → T words → Begins T words
at_once T words p = record { tree = Empty; proper = tt; more = words; whole = refl; tail = p }

-- the words of each class that opens, turns or closes a block
abbrev opener : Shape → Option ValType → Instr
opener shape.Block t = op.Block t
opener shape.Loop t = op.Loop t
opener shape.If t = op.If t

opens : (i : Instr) (s : Shape) (t : Option ValType) → (row_of i).class ≡ Opens s t → i ≡ opener s t
opens (op.Block u) s t e = let same : shape.Block ≡ s = cc in let kind : u ≡ t = cc in ap op.Block kind ∙ ap (λ z. opener z t) same
opens (op.Loop u) s t e = let same : shape.Loop ≡ s = cc in let kind : u ≡ t = cc in ap op.Loop kind ∙ ap (λ z. opener z t) same
opens (op.If u) s t e = let same : shape.If ≡ s = cc in let kind : u ≡ t = cc in ap op.If kind ∙ ap (λ z. opener z t) same
opens _ s t e = absurd cc

turns : (i : Instr) → (row_of i).class ≡ Turns → i ≡ op.Else
turns op.Else e = refl
turns _ e = absurd cc

closes : (i : Instr) → (row_of i).class ≡ Closes → i ≡ op.End
closes op.End e = refl
closes _ e = absurd cc

closing : (T : List Instr → Type 0) (words : List Instr) → Begins T words → Closing T (op.End ∷ words)
closing T words b = record { more = words; whole = refl; begins = b }

one_more : (w : Instr) (words : List Instr) (c : Class) (blocks : List Bool) → (row_of w).class ≡ c
    → ((others : List Bool) → run others words ≡ Some [] → Begins (Tail others) words)
    → ran (λ b. run b words) (follow c blocks) ≡ Some [] → Begins (Tail blocks) (w ∷ words)
one_more w words (Opens shape.Block t) blocks is ih e =
    subst (λ (i : Instr). Begins (Tail blocks) (i ∷ words)) (sym (opens w shape.Block t is))
    (before_block (Tail blocks) (op.Block t) (BlockOf t) words (λ _ _. refl) (λ _ _ p q. (p, q)) (ih (false ∷ blocks) e))
one_more w words (Opens shape.Loop t) blocks is ih e =
    subst (λ (i : Instr). Begins (Tail blocks) (i ∷ words)) (sym (opens w shape.Loop t is))
    (before_block (Tail blocks) (op.Loop t) (LoopOf t) words (λ _ _. refl) (λ _ _ p q. (p, q)) (ih (false ∷ blocks) e))
one_more w words (Opens shape.If t) blocks is ih e =
    subst (λ (i : Instr). Begins (Tail blocks) (i ∷ words)) (sym (opens w shape.If t is)) (before_if (Tail blocks) t words (ih (true ∷ blocks) e))
one_more w words Turns (true ∷ blocks) is ih e =
    subst (λ (i : Instr). Begins (Tail (true ∷ blocks)) (i ∷ words)) (sym (turns w is))
    (at_once (Tail (true ∷ blocks)) (op.Else ∷ words) (inr (record { more = words; whole = refl; begins = ih (false ∷ blocks) e })))
one_more w words Turns (false ∷ blocks) is ih e = absurd cc
one_more w words Turns [] is ih e = absurd cc
one_more w words Closes (false ∷ blocks) is ih e =
    subst (λ (i : Instr). Begins (Tail (false ∷ blocks)) (i ∷ words)) (sym (closes w is))
    (at_once (Tail (false ∷ blocks)) (op.End ∷ words) (closing (Tail blocks) words (ih blocks e)))
one_more w words Closes (true ∷ blocks) is ih e =
    subst (λ (i : Instr). Begins (Tail (true ∷ blocks)) (i ∷ words)) (sym (closes w is))
    (at_once (Tail (true ∷ blocks)) (op.End ∷ words) (inl (closing (Tail blocks) words (ih blocks e))))
one_more w words Closes [] is ih e = absurd cc
one_more w words (Fixed s) blocks is ih e = before_plain (Tail blocks) w words (ap is_structural is) (ih blocks e)
one_more w words (Memory s) blocks is ih e = before_plain (Tail blocks) w words (ap is_structural is) (ih blocks e)
one_more w words (Access s arg natural) blocks is ih e = before_plain (Tail blocks) w words (ap is_structural is) (ih blocks e)
one_more w words Special blocks is ih e = before_plain (Tail blocks) w words (ap is_structural is) (ih blocks e)

begins : (blocks : List Bool) (words : List Instr) → run blocks words ≡ Some [] → Begins (Tail blocks) words
begins [] [] e = at_once (Tail []) [] refl
begins (b ∷ blocks) [] e = absurd cc
begins blocks (w ∷ words) e = one_more w words (row_of w).class blocks refl (λ others r. begins others words r) e

is_flat : (words : List Instr) → run [] words ≡ Some [] → IsFlat words
is_flat words e =
    let b = begins [] words e in
    record { tree = b.tree; proper = b.proper; whole = b.whole ∙ ap (λ (more : List Instr). flatten b.tree ++ more) b.tail ∙ append-nil (flatten b.tree) }

-- ---- the words are read exactly

onward_again : (float : Bool) (m : ℕ) (w : Instr) (words : List Instr) (left : List Bool) (after : List ℕ) (read : Option (List Instr × List ℕ)) (f : Follow)
    → ran (λ b. run b words) f ≡ Some left
    → ((others : List Bool) → run others words ≡ Some left → words_at float m others after ≡ with_front words read)
    → onward (words_at float m) (w, after) f ≡ with_front (w ∷ words) read
onward_again float m w words left after read done e ih = absurd cc
onward_again float m w words left after read (on blocks) e ih =
    rw (ih blocks e) (elim read as (λ r. (with_front words r >>= λ ws. Some (w ∷ ws.0, ws.1)) ≡ with_front (w ∷ words) r) [ Some x ↦ refl | None ↦ refl ])
onward_again float m w words left after read wrong e ih = absurd cc

nothing_before : (read : Option (List Instr × List ℕ)) → read ≡ with_front [] read
nothing_before (Some x) = refl
nothing_before None = refl

words_again : (float : Bool) (blocks left : List Bool) (words : List Instr) (front rest : List ℕ) (k n : ℕ) → k ≡ length words + n
    → run blocks words ≡ Some left → SpellsMany (SpellsWord float) words front
    → words_at float k blocks (front ++ rest) ≡ with_front words (words_at float n left rest)
unfolding words_at
words_again float blocks left [] front rest k n count e p =
    let same : blocks ≡ left = cc in
    let count_is : k ≡ n = omega arith in
    rw (p, count_is, same) (nothing_before (words_at float n left rest))
words_again float blocks left (w ∷ words) front rest k n count e p =
    let next : k ≡ suc (length words + n) = omega arith in
    rw (next, p.2, append_assoc p.0 p.1 rest, (word_exact float).again w p.0 (p.1 ++ rest) p.3)
    (onward_again float (length words + n) w words left (p.1 ++ rest) (words_at float n left rest) (follow (row_of w).class blocks) e
    (λ others r. words_again float others left words p.1 rest (length words + n) n refl r p.4))

-- what was read, with the 0B after it
record Ended (float : Bool) (blocks : List Bool) (bytes : List ℕ) (z : List Instr × List ℕ) : Type 0 where
  front : List ℕ
  parts : bytes ≡ (front ++ 0x0B ∷ []) ++ z.1
  spelled : SpellsMany (SpellsWord float) z.0 front
  closed : run blocks z.0 ≡ Some []

-- only an `end` in no block ends an expression
is_done : (c : Class) (blocks : List Bool) → follow c blocks ≡ done → (c ≡ Closes) × (blocks ≡ [])
is_done (Opens s t) blocks e = absurd cc
is_done Turns (true ∷ blocks) e = absurd cc
is_done Turns (false ∷ blocks) e = absurd cc
is_done Turns [] e = absurd cc
is_done Closes (b ∷ blocks) e = absurd cc
is_done Closes [] e = (refl, refl)
is_done (Fixed s) blocks e = absurd cc
is_done (Memory s) blocks e = absurd cc
is_done (Access s arg natural) blocks e = absurd cc
is_done Special blocks e = absurd cc

-- the only spelling of `end`
end_is : (float : Bool) (bytes : List ℕ) → SpellsWord float op.End bytes → bytes ≡ 0x0B ∷ []
end_is float bytes (inl p) = p.whole ∙ ap (λ (r : List ℕ). 0x0B ∷ r) p.behind
end_is float bytes (inr p) = let h = p.1.stands in absurd cc

words_takes : (float : Bool) (n : ℕ) (blocks : List Bool) (bytes : List ℕ) (z : List Instr × List ℕ) → words_at float n blocks bytes ≡ Some z → Ended float blocks bytes z
unfolding words_at
words_takes float zero blocks bytes z e = absurd cc
words_takes float (suc n) blocks bytes z e =
    let a = bind_some (word_at float bytes) (λ w. onward (words_at float n) w (follow (row_of w.0).class blocks)) z e in
    let t = taken (SpellsWord float) (word_at float) (word_exact float) bytes a.0 a.1 in
    elim (follow (row_of a.0.0).class blocks) as (λ f. follow (row_of a.0.0).class blocks ≡ f → onward (words_at float n) a.0 f ≡ Some z → Ended float blocks bytes z) [
      | done ↦ λ is last.
          let d = is_done (row_of a.0.0).class blocks is in
          let z_is : ([], a.0.1) ≡ z = cc in
          let end : t.front ≡ 0x0B ∷ [] = end_is float t.front (subst (λ (i : Instr). SpellsWord float i t.front) (closes a.0.0 d.0) t.spelled) in
          subst (Ended float blocks bytes) z_is
          (record { front = []; parts = t.parts ∙ ap (λ (r : List ℕ). r ++ a.0.1) end; spelled = refl; closed = ap Some d.1 })
      | on others ↦ λ is more.
          let b = bind_some (words_at float n others a.0.1) (λ ws. Some (a.0.0 ∷ ws.0, ws.1)) z more in
          let r = words_takes float n others a.0.1 b.0 b.1 in
          let z_is : (a.0.0 ∷ b.0.0, b.0.1) ≡ z = cc in
          subst (Ended float blocks bytes) z_is
          (record {
            front = t.front ++ r.front;
            parts = t.parts ∙ ap (λ (x : List ℕ). t.front ++ x) r.parts ∙ regroup t.front r.front b.0.1;
            spelled = (t.front, r.front, refl, t.spelled, r.spelled);
            closed = rw is r.closed;
          })
      | wrong ↦ λ is none. absurd cc
    ] refl a.2
  where
    regroup : (x y z : List ℕ) → x ++ ((y ++ 0x0B ∷ []) ++ z) ≡ ((x ++ y) ++ 0x0B ∷ []) ++ z
    regroup x y z = simp append_assoc

-- each word has a byte
word_length : (float : Bool) (i : Instr) (bytes : List ℕ) → SpellsWord float i bytes → 1 ≤ length bytes
word_length float i bytes (inl p) = rw p.whole (omega arith)
word_length float i bytes (inr p) = rw p.1.spelled.whole (omega arith)

many_length : (float : Bool) (words : List Instr) (bytes : List ℕ) → SpellsMany (SpellsWord float) words bytes → length words ≤ length bytes
many_length float [] bytes p = omega arith
many_length float (w ∷ words) bytes p =
    rw p.2 (omega (arith, word_length float w p.0 p.3, many_length float words p.1 p.4, length-append p.0 p.1))

-- the 0B in no block
ends_at : (float : Bool) (n : ℕ) (rest : List ℕ) → words_at float (suc n) [] (0x0B ∷ rest) ≡ Some ([], rest)
unfolding words_at
ends_at float n rest =
    rw ((word_exact float).again op.End (0x0B ∷ []) rest (inl (record { rest = []; whole = refl; behind = refl }))) refl

pub expr_exact : (float : Bool) → Exact (SpellsExpr float) (expr_at float)
unfolding expr_at
expr_exact float = exact_of (SpellsExpr float) (expr_at float)
    (λ words front rest p.
    let bytes_are : front ++ rest ≡ p.front ++ (0x0B ∷ rest) = ap (λ (f : List ℕ). f ++ rest) p.whole ∙ append_assoc p.front (0x0B ∷ []) rest in
    let n : ℕ = length (front ++ rest) - length words - 1 in
    let enough : length words ≤ length p.front = many_length float words p.front p.spelled in
    let count : length (front ++ rest) ≡ length words + suc n = omega (arith, ap length bytes_are, length-append p.front (0x0B ∷ rest)) in
    let runs : run [] words ≡ Some [] =
    ap (run []) (p.flat.whole ∙ sym (append-nil (flatten p.flat.tree))) ∙ run-flatten p.flat.tree [] [] p.flat.proper in
    ap (words_at float (length (front ++ rest)) []) bytes_are
    ∙ words_again float [] [] words p.front (0x0B ∷ rest) (length (front ++ rest)) (suc n) count runs p.spelled
    ∙ ap (with_front words) (ends_at float n rest)
    ∙ ap (λ (ws : List Instr). Some (ws, rest)) (append-nil words))
    (λ bytes z e.
    let r = words_takes float (length bytes) [] bytes z e in
    record { front = r.front ++ 0x0B ∷ []; parts = r.parts; spelled = record { flat = is_flat z.0 r.closed; front = r.front; whole = refl; spelled = r.spelled } })
