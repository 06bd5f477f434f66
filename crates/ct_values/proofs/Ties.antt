-- Values that tokens say are spelled by them, as patterns that these values meet.
use Rattle.std.proofs.Common.{◌≡◌, ℕ, zero, suc, ◌+◌, ◌-◌, Bool, true, false, List, [], ◌∷◌, ◌++◌, length, drop, map, Some, None, refl, sym, subst, ◌∙◌, append_assoc, inl, inr, arith}
use Rattle.std.specs.Prelude.{◌&&◌, ◌==◌, codes, set}
use Rattle.std.proofs.Math.Seq.{set-append_seam}
use Rattle.std.proofs.lemmas.List.{append-nil}
use Rattle.ic_base.proofs.Steps.{bind_some, some_is}
use Rattle.cd_types.specs.declared.entry.TyRef.{TyRef}
use Rattle.cd_types.specs.declared.entry.TyRef.TheVariants.{Prim, Index}
use Rattle.cd_codec.specs.Content.{Content, some, none}
use Rattle.cd_tokens.specs.Token.{Token}
use Rattle.cd_tokens.proofs.Fronts.{true_or_false}
use Rattle.cd_plain.specs.ReadPlain.{is_word, is_mark, starts, Budgeted}
use Rattle.cd_text.specs.Words.{name_of}
use Rattle.cd_tokens.specs.ReadParts.{then_make, after_part, parts_at as their_parts}
use Rattle.cd_text.specs.ReadSaid.{past_annotation, past_name, with_annotation, annotated_at as their_annotated, closed, parenthesized_at as their_parenthesized, no_place_of, in_braces, opt_at as their_opt}
use Rattle.cd_text.proofs.Values.{both}
use Rattle.ct_values.specs.Steps.{Step, exactly, optional, sequence, Reading, Reads, Giving}
use Rattle.ct_values.specs.Spelled.{past, spend, separator_at, annotation_at, annotated_at, parenthesized_at, parts_at, list_at, opt_at}
use Rattle.ct_values.proofs.Meant.{Opens, AreMet, nothing_met, one_met, both_met, leaf_met}

-- what is read on, whatever was read before: steps that the values meet
pub record Tied (read : Giving Bool) (left : ℕ) (tokens : List Token) (values : List Content) (less : ℕ) (rest : List Token) : Type 0 where
  pub steps : List Step
  pub reads : (before : List Step) → read (before, left, tokens) ≡ Some (true, (before ++ steps, less, rest))
  pub met : AreMet steps values

-- the same, where a type may not follow
pub record Read (read : Reads) (left : ℕ) (tokens : List Token) (values : List Content) (less : ℕ) (rest : List Token) : Type 0 where
  pub steps : List Step
  pub reads : (before : List Step) → read (before, left, tokens) ≡ Some (before ++ steps, less, rest)
  pub met : AreMet steps values

-- what one reads, the other reads as steps
abbrev pub Ties : {A : Type 0} → (A → Content) → Budgeted A → Giving Bool → Type 0
Ties {A} see theirs ours = (left : ℕ) (tokens : List Token) (x : A) (less : ℕ) (rest : List Token) → theirs left tokens ≡ Some (x, less, rest) → Tied ours left tokens (see x ∷ []) less rest

-- what another reads alike
pub tied_alike : (ours other : Giving Bool) (left : ℕ) (tokens : List Token) (values : List Content) (less : ℕ) (rest : List Token) → ((before : List Step) → other (before, left, tokens) ≡ ours (before, left, tokens)) → Tied ours left tokens values less rest
    → Tied other left tokens values less rest
tied_alike ours other left tokens values less rest alike t = record { steps = t.steps; reads = λ before. alike before ∙ t.reads before; met = t.met }

pub read_alike : (ours other : Reads) (left : ℕ) (tokens : List Token) (values : List Content) (less : ℕ) (rest : List Token) → ((before : List Step) → other (before, left, tokens) ≡ ours (before, left, tokens)) → Read ours left tokens values less rest
    → Read other left tokens values less rest
read_alike ours other left tokens values less rest alike r = record { steps = r.steps; reads = λ before. alike before ∙ r.reads before; met = r.met }

annotation_after : (type : TyRef) (steps : List Step) (left : ℕ) (tokens rest : List Token) → past_annotation type tokens ≡ Some rest → annotation_at type (steps, left, tokens) ≡ Some (steps, left, rest)
annotation_after (Index i) steps left tokens rest e = elim (true_or_false (starts (is_mark 58) tokens)) [
  | inl colon ↦ let none : None ≡ Some rest = rw colon at e in absurd cc
  | inr other ↦ let same : tokens ≡ rest = some_is _ _ (rw other at e) in rw same refl
]
annotation_after (Prim p) steps left tokens rest e = elim (true_or_false (starts (is_mark 58) tokens)) [
  | inl colon ↦
      let named : past_name p (drop 1 tokens) ≡ Some rest = rw colon at e in
      elim (true_or_false (starts (is_word (name_of p)) (drop 1 tokens))) [
        | inl word ↦ let same : drop 1 (drop 1 tokens) ≡ rest = some_is _ _ (rw word at named) in rw (colon, word, same) refl
        | inr wrong ↦ let none : None ≡ Some rest = rw wrong at named in absurd cc
      ]
  | inr other ↦ let same : tokens ≡ rest = some_is _ _ (rw other at e) in rw (other, same) refl
]

annotated_of : (type : TyRef) (ours : Giving Bool) (left : ℕ) (tokens : List Token) (values : List Content) (less : ℕ) (after rest : List Token) → Tied ours left tokens values less after → past_annotation type after ≡ Some rest
    → Tied (annotated_at type ours) left tokens values less rest
annotated_of type ours left tokens values less after rest t passed =
    record { steps = t.steps; reads = λ before. rw (t.reads before, annotation_after type (before ++ t.steps) less after rest passed) refl; met = t.met }

pub annotated_tied : {A : Type 0} (see : A → Content) (type : TyRef) (theirs : Budgeted A) (ours : Giving Bool) → Ties see theirs ours → Ties see (their_annotated type theirs) (annotated_at type ours)
annotated_tied {A} see type theirs ours law left tokens x less rest e =
    let b = bind_some (theirs left tokens) (with_annotation type) (x, less, rest) e in
    let y : A × ℕ × List Token = b.0 in
    let c = bind_some (past_annotation type y.2) (λ (r : List Token). Some (y.0, y.1, r)) (x, less, rest) b.2 in
    let same : (y.0, y.1, c.0) ≡ (x, less, rest) = some_is {A = A × ℕ × List Token} (y.0, y.1, c.0) (x, less, rest) c.2 in
    subst (λ (z : A × ℕ × List Token). Tied (annotated_at type ours) left tokens (see z.0 ∷ []) z.1 z.2) same (annotated_of type ours left tokens (see y.0 ∷ []) y.1 y.2 c.0 (law left tokens y.0 y.1 y.2 b.1) c.1)

enclosed : (type : TyRef) (ours : Giving Bool) (left : ℕ) (tokens : List Token) (values : List Content) (less : ℕ) (after : List Token) → Tied (annotated_at type ours) left (drop 1 tokens) values less after → starts (is_mark 41) after ≡ true
    → Tied (λ c. parenthesized_at type ours (past c)) left tokens values less (drop 1 after)
enclosed type ours left tokens values less after t there = record { steps = t.steps; reads = λ before. rw (t.reads before, there) refl; met = t.met }

closed_is : {A : Type 0} (y x : A × ℕ × List Token) → closed y ≡ Some x → (starts (is_mark 41) y.2 ≡ true) × ((y.0, y.1, drop 1 y.2) ≡ x)
closed_is {A} y x e = elim (true_or_false (starts (is_mark 41) y.2)) [
  | inl there ↦ (there, some_is {A = A × ℕ × List Token} (y.0, y.1, drop 1 y.2) x (rw there at e))
  | inr missing ↦ let none : None ≡ Some x = rw missing at e in absurd cc
]

pub parenthesized_tied : {A : Type 0} (see : A → Content) (type : TyRef) (theirs : Budgeted A) (ours : Giving Bool) → Ties see theirs ours → Ties see (their_parenthesized type theirs) (λ c. parenthesized_at type ours (past c))
parenthesized_tied {A} see type theirs ours law left tokens x less rest e =
    let b = bind_some (their_annotated type theirs left (drop 1 tokens)) closed (x, less, rest) e in
    let y : A × ℕ × List Token = b.0 in
    let t = annotated_tied see type theirs ours law left (drop 1 tokens) y.0 y.1 y.2 b.1 in
    let c = closed_is y (x, less, rest) b.2 in
    subst (λ (z : A × ℕ × List Token). Tied (λ c. parenthesized_at type ours (past c)) left tokens (see z.0 ∷ []) z.1 z.2) c.1 (enclosed type ours left tokens (see y.0 ∷ []) y.1 y.2 t c.0)

-- ---- parts in braces

-- parts up to a closing brace, which is first in `stop`
pub record Parts (read : Giving Bool) (most left : ℕ) (tokens : List Token) (values : List Content) (less : ℕ) (rest : List Token) : Type 0 where
  pub steps : List Step
  pub stop : List Token
  pub reads : (count : ℕ) (before : List Step) → parts_at read most count (before, left, tokens) ≡ Some (count + length values, (before ++ steps, less, stop))
  pub ended : starts (is_mark 125) stop ≡ true
  pub after : drop 1 stop ≡ rest
  pub met : AreMet steps values

no_more_parts : (read : Giving Bool) (most count : ℕ) (c : Reading) → starts (is_mark 125) c.2 ≡ true → parts_at read most count c ≡ Some (count, c)
unfolding parts_at
no_more_parts read zero count c ended = rw ended refl
no_more_parts read (suc most) count c ended = rw ended refl

more_parts : (read : Giving Bool) (most count : ℕ) (c d f : Reading) (b : Bool) → starts (is_mark 125) c.2 ≡ false → read c ≡ Some (b, d) → separator_at d ≡ Some f → parts_at read (suc most) count c ≡ parts_at read most (suc count) f
unfolding parts_at
more_parts read most count c d f b on one separated = rw (on, one, separated) refl

no_parts : (read : Giving Bool) (most left : ℕ) (tokens : List Token) → starts (is_mark 125) tokens ≡ true → Parts read most left tokens [] left (drop 1 tokens)
no_parts read most left tokens ended = record {
  steps = [];
  stop = tokens;
  reads = λ count before.
      let n : count + 0 ≡ count = omega arith in
      rw (n, append-nil before) (no_more_parts read most count (before, left, tokens) ended);
  ended = ended;
  after = refl;
  met = nothing_met;
}

last_part : (read : Giving Bool) (most left : ℕ) (tokens : List Token) (v : Content) (less : ℕ) (rest : List Token) → starts (is_mark 125) tokens ≡ false → Tied read left tokens (v ∷ []) less rest → starts (is_mark 125) rest ≡ true
    → Parts read (suc most) left tokens (v ∷ []) less (drop 1 rest)
last_part read most left tokens v less rest on t ended = record {
  steps = t.steps;
  stop = rest;
  reads = λ count before.
      let c : Reading = (before, left, tokens) in
      let d : Reading = (before ++ t.steps, less, rest) in
      let n : count + 1 ≡ suc count = omega arith in
      let stays : separator_at d ≡ Some d = rw ended refl in
      rw n (more_parts read most count c d d true on (t.reads before) stays ∙ no_more_parts read most (suc count) d ended);
  ended = ended;
  after = refl;
  met = t.met;
}

one_part : (read : Giving Bool) (most left : ℕ) (tokens : List Token) (v : Content) (vs : List Content) (middle : ℕ) (after : List Token) (less : ℕ) (rest : List Token) → starts (is_mark 125) tokens ≡ false → Tied read left tokens (v ∷ []) middle after
    → starts (is_mark 125) after ≡ false → starts (is_mark 59) after ≡ true → Parts read most middle (drop 1 after) vs less rest → Parts read (suc most) left tokens (v ∷ vs) less rest
one_part read most left tokens v vs middle after less rest on t other semicolon ps = record {
  steps = t.steps ++ ps.steps;
  stop = ps.stop;
  reads = λ count before.
      let c : Reading = (before, left, tokens) in
      let d : Reading = (before ++ t.steps, middle, after) in
      let f : Reading = (before ++ t.steps, middle, drop 1 after) in
      let n : count + suc (length vs) ≡ suc count + length vs = omega arith in
      let passes : separator_at d ≡ Some f = rw (other, semicolon) refl in
      rw (n, sym (append_assoc before t.steps ps.steps)) (more_parts read most count c d f true on (t.reads before) passes ∙ ps.reads (suc count) (before ++ t.steps));
  ended = ps.ended;
  after = ps.after;
  met = both_met t.steps ps.steps (v ∷ []) vs t.met ps.met;
}

pub parts_tied : {A : Type 0} (see : A → Content) (theirs : Budgeted A) (ours : Giving Bool) → Ties see theirs ours → (most next left : ℕ) (tokens : List Token) (xs : List A) (less : ℕ) (rest : List Token)
    → their_parts 59 125 (λ (n : ℕ). theirs) no_place_of most next left tokens ≡ Some (xs, less, rest) → Parts ours most left tokens (map see xs) less rest
unfolding their_parts
parts_tied see theirs ours law zero next left tokens xs less rest e = absurd cc
parts_tied {A} see theirs ours law (suc most) next left tokens xs less rest e = elim (true_or_false (starts (is_mark 125) tokens)) [
  | inl ended ↦
      let same : ([], left, drop 1 tokens) ≡ (xs, less, rest) = some_is {A = List A × ℕ × List Token} ([], left, drop 1 tokens) (xs, less, rest) (rw ended at e) in
      subst (λ (z : List A × ℕ × List Token). Parts ours (suc most) left tokens (map see z.0) z.1 z.2) same (no_parts ours (suc most) left tokens ended)
  | inr on ↦
      let b = bind_some (theirs left tokens) (after_part 59 125 (λ (x : A). their_parts 59 125 (λ (n : ℕ). theirs) no_place_of most 0)) (xs, less, rest) (rw on at e) in
      let y : A × ℕ × List Token = b.0 in
      let t = law left tokens y.0 y.1 y.2 b.1 in
      elim (true_or_false (starts (is_mark 125) y.2)) [
        | inl ended ↦
            let same : (y.0 ∷ [], y.1, drop 1 y.2) ≡ (xs, less, rest) = some_is {A = List A × ℕ × List Token} (y.0 ∷ [], y.1, drop 1 y.2) (xs, less, rest) (rw ended at b.2) in
            subst (λ (z : List A × ℕ × List Token). Parts ours (suc most) left tokens (map see z.0) z.1 z.2) same (last_part ours most left tokens (see y.0) y.1 y.2 on t ended)
        | inr other ↦ elim (true_or_false (starts (is_mark 59) y.2)) [
          | inl semicolon ↦
              let c = bind_some (their_parts 59 125 (λ (n : ℕ). theirs) no_place_of most 0 y.1 (drop 1 y.2)) (λ (z : List A × ℕ × List Token). Some (y.0 ∷ z.0, z.1, z.2)) (xs, less, rest) (rw (other, semicolon) at b.2) in
              let z : List A × ℕ × List Token = c.0 in
              let same : (y.0 ∷ z.0, z.1, z.2) ≡ (xs, less, rest) = some_is {A = List A × ℕ × List Token} (y.0 ∷ z.0, z.1, z.2) (xs, less, rest) c.2 in
              let ps = parts_tied see theirs ours law most 0 y.1 (drop 1 y.2) z.0 z.1 z.2 c.1 in
              subst (λ (w : List A × ℕ × List Token). Parts ours (suc most) left tokens (map see w.0) w.1 w.2) same (one_part ours most left tokens (see y.0) (map see z.0) y.1 y.2 z.1 z.2 on t other semicolon ps)
          | inr stuck ↦ let none : None ≡ Some (xs, less, rest) = rw (other, stuck) at b.2 in absurd cc
        ]
      ]
]

-- ---- lists and optional values

pub put_there : (before steps : List Step) (s t : Step) → set ((before ++ s ∷ []) ++ steps) (length before) t ≡ before ++ t ∷ steps
put_there before steps s t = rw (append_assoc before (s ∷ []) steps) (set-append_seam before s steps t)

list_of : (ours : Giving Bool) (left : ℕ) (tokens : List Token) (v : Content) (vs : List Content) (less : ℕ) (rest : List Token) → starts (is_word (codes "vec")) tokens ≡ true → starts (is_mark 123) (drop 1 tokens) ≡ true
    → Opens (sequence (length vs)) v vs → Parts ours (length tokens) left (drop 1 (drop 1 tokens)) vs less rest → Read (list_at ours) left tokens (v ∷ []) less rest
list_of ours left tokens v vs less rest word brace opens ps = record {
  steps = sequence (length vs) ∷ ps.steps;
  reads = λ before.
      let start : Reading = (before ++ sequence 0 ∷ [], left, drop 1 (drop 1 tokens)) in
      let n : 0 + length vs ≡ length vs = omega arith in
      let inside : parts_at ours (length tokens) 0 start ≡ Some (length vs, ((before ++ sequence 0 ∷ []) ++ ps.steps, less, ps.stop)) =
      subst (λ (k : ℕ). parts_at ours (length tokens) 0 start ≡ Some (k, ((before ++ sequence 0 ∷ []) ++ ps.steps, less, ps.stop))) n (ps.reads 0 (before ++ sequence 0 ∷ [])) in
      rw (word, brace, inside, ps.ended, ps.after, put_there before ps.steps (sequence 0) (sequence (length vs))) refl;
  met = one_met (sequence (length vs)) v vs ps.steps opens ps.met;
}

-- what is in braces after a word
pub braces_are : {A : Type 0} (word : List ℕ) (read : ℕ → Budgeted A) (step : A → ℕ) (left : ℕ) (tokens : List Token) (y : List A × ℕ × List Token) → in_braces word read step left tokens ≡ Some y
    → (starts (is_word word) tokens ≡ true) × (starts (is_mark 123) (drop 1 tokens) ≡ true) × (their_parts 59 125 read step (length tokens) 0 left (drop 1 (drop 1 tokens)) ≡ Some y)
braces_are {A} word read step left tokens y e = elim (true_or_false (starts (is_word word) tokens && starts (is_mark 123) (drop 1 tokens))) [
  | inl begins ↦ let two = both (starts (is_word word) tokens) (starts (is_mark 123) (drop 1 tokens)) begins in (two.0, two.1, rw begins at e)
  | inr other ↦ let nothing : None ≡ Some y = rw other at e in absurd cc
]

pub list_tied : {A : Type 0} (see : A → Content) (close : List A → Content) (theirs : Budgeted A) (ours : Giving Bool) → ((xs : List A) → Opens (sequence (length (map see xs))) (close xs) (map see xs)) → Ties see theirs ours
    → (left : ℕ) (tokens : List Token) (v : Content) (less : ℕ) (rest : List Token) → then_make close (in_braces (codes "vec") (λ (n : ℕ). theirs) no_place_of left tokens) ≡ Some (v, less, rest) → Read (list_at ours) left tokens (v ∷ []) less rest
list_tied {A} see close theirs ours opens law left tokens v less rest e =
    let b = bind_some (in_braces (codes "vec") (λ (n : ℕ). theirs) no_place_of left tokens) (λ (x : List A × ℕ × List Token). Some (close x.0, x.1, x.2)) (v, less, rest) e in
    let y : List A × ℕ × List Token = b.0 in
    let same : (close y.0, y.1, y.2) ≡ (v, less, rest) = some_is {A = Content × ℕ × List Token} (close y.0, y.1, y.2) (v, less, rest) b.2 in
    let c = braces_are (codes "vec") (λ (n : ℕ). theirs) no_place_of left tokens y b.1 in
    let ps = parts_tied see theirs ours law (length tokens) 0 left (drop 1 (drop 1 tokens)) y.0 y.1 y.2 c.2 in
    subst (λ (z : Content × ℕ × List Token). Read (list_at ours) left tokens (z.0 ∷ []) z.1 z.2) same (list_of ours left tokens (close y.0) (map see y.0) y.1 y.2 c.0 c.1 (opens y.0) ps)

some_of : (ours : Giving Bool) (left : ℕ) (tokens : List Token) (v : Content) (less : ℕ) (rest : List Token) → starts (is_word (codes "null")) tokens ≡ false → starts (is_word (codes "opt")) tokens ≡ true → Tied ours left (drop 1 tokens) (v ∷ []) less rest
    → Read (opt_at ours) left tokens (some v ∷ []) less rest
some_of ours left tokens v less rest other word t = record {
  steps = optional ∷ t.steps;
  reads = λ before. rw (other, word, t.reads (before ++ optional ∷ []), append_assoc before (optional ∷ []) t.steps) refl;
  met = one_met optional (some v) (v ∷ []) t.steps (v, refl, refl) t.met;
}

none_of : (ours : Giving Bool) (left : ℕ) (tokens : List Token) → starts (is_word (codes "null")) tokens ≡ true → Read (opt_at ours) left tokens (none ∷ []) left (drop 1 tokens)
none_of ours left tokens null = record { steps = exactly none ∷ []; reads = λ before. rw null refl; met = leaf_met none refl }

pub opt_tied : (theirs : Budgeted Content) (ours : Giving Bool) → Ties (λ v. v) theirs ours → (left : ℕ) (tokens : List Token) (v : Content) (less : ℕ) (rest : List Token) → their_opt theirs left tokens ≡ Some (v, less, rest)
    → Read (opt_at ours) left tokens (v ∷ []) less rest
opt_tied theirs ours law left tokens v less rest e = elim (true_or_false (starts (is_word (codes "null")) tokens)) [
  | inl null ↦
      let same : (none, left, drop 1 tokens) ≡ (v, less, rest) = some_is {A = Content × ℕ × List Token} (none, left, drop 1 tokens) (v, less, rest) (rw null at e) in
      subst (λ (z : Content × ℕ × List Token). Read (opt_at ours) left tokens (z.0 ∷ []) z.1 z.2) same (none_of ours left tokens null)
  | inr other ↦ elim (true_or_false (starts (is_word (codes "opt")) tokens)) [
    | inl word ↦
        let b = bind_some (theirs left (drop 1 tokens)) (λ (x : Content × ℕ × List Token). Some (some x.0, x.1, x.2)) (v, less, rest) (rw (other, word) at e) in
        let y : Content × ℕ × List Token = b.0 in
        let same : (some y.0, y.1, y.2) ≡ (v, less, rest) = some_is {A = Content × ℕ × List Token} (some y.0, y.1, y.2) (v, less, rest) b.2 in
        subst (λ (z : Content × ℕ × List Token). Read (opt_at ours) left tokens (z.0 ∷ []) z.1 z.2) same (some_of ours left tokens y.0 y.1 y.2 other word (law left (drop 1 tokens) y.0 y.1 y.2 b.1))
    | inr wrong ↦ let nothing : None ≡ Some (v, less, rest) = rw (other, wrong) at e in absurd cc
  ]
]

-- ---- values that may still be said

pub spends : (steps : List Step) (left : ℕ) (tokens : List Token) → spend (steps, suc left, tokens) ≡ Some (steps, left, tokens)
spends steps left tokens =
    let some_left : (suc left == 0) ≡ false = grind arith in
    let fewer : suc left - 1 ≡ left = omega arith in
    rw (some_left, fewer) refl
