-- Variants and values without parts that tokens say are spelled by them.
use Rattle.std.proofs.Common.{◌≡◌, ℕ, zero, suc, Bool, true, false, List, [], ◌∷◌, ◌++◌, drop, Some, None, refl, sym, ap, subst, ◌∙◌, append_assoc, inl, inr}
use Rattle.std.specs.Prelude.{◌&&◌, codes}
use Rattle.ic_base.specs.Reader.{◌>>=◌}
use Rattle.ic_base.proofs.Steps.{bind_some, some_is}
use Rattle.cd_types.specs.declared.primitive.Primitive.{Primitive}
use Rattle.cd_types.specs.declared.primitive.Primitive.TheVariants as primitives
use Rattle.cd_types.specs.declared.entry.TyRef.{TyRef}
use Rattle.cd_types.specs.declared.entry.TyRef.TheVariants.{Prim, Index}
use Rattle.cd_types.specs.declared.entry.Entry.{Entry}
use Rattle.cd_types.specs.Shape.{primitive, shape}
use Rattle.cd_codec.specs.Content.{Content, plain, null, variant}
use Rattle.cd_tokens.specs.Token.{Token}
use Rattle.cd_tokens.specs.ReadLabel.{label_of}
use Rattle.cd_tokens.specs.ReadParts.{then_make}
use Rattle.cd_tokens.proofs.Fronts.{true_or_false}
use Rattle.cd_plain.specs.ReadPlain.{is_word, is_mark, starts, Budgeted}
use Rattle.cd_text.specs.Said.{type_of, place_of}
use Rattle.cd_text.specs.ReadSaid.{null_at as their_null, case_at as their_case, variant_ended, chosen_at, labelled_at, variant_at as their_variant}
use Rattle.cd_text.proofs.Narrow.{no_null}
use Rattle.cd_text.proofs.Values.{both}
use Rattle.ct_values.specs.Steps.{Step, exactly, one_case, Giving}
use Rattle.ct_values.specs.Spelled.{separator_at, mark_at, annotated_at, null_at, case_value_at, variant_at}
use Rattle.ct_values.proofs.Meant.{AreMet, one_met, leaf_met}
use Rattle.ct_values.proofs.Ties.{Tied, Read, Ties, read_alike, spends, annotated_tied}

-- a null that is not written
record Unwritten (depth left : ℕ) (v : Content) (less : ℕ) : Type 0 where
  fewer : ℕ
  deep : depth ≡ suc fewer
  some : left ≡ suc less
  is : v ≡ plain null

null_there : (depth left : ℕ) (tokens : List Token) (v : Content) (less : ℕ) (rest : List Token) → their_null depth (primitive primitives.Null) left tokens ≡ Some (v, less, rest) → Unwritten depth left v less × (rest ≡ tokens)
null_there zero left tokens v less rest e = absurd cc
null_there (suc depth) zero tokens v less rest e = absurd cc
null_there (suc depth) (suc left) tokens v less rest e =
    let same : (plain null, left, tokens) ≡ (v, less, rest) = some_is {A = Content × ℕ × List Token} (plain null, left, tokens) (v, less, rest) e in
    let n : left ≡ less = ap (λ (z : Content × ℕ × List Token). z.1) same in
    (record { fewer = depth; deep = refl; some = ap suc n; is = sym (ap (λ (z : Content × ℕ × List Token). z.0) same) }, sym (ap (λ (z : Content × ℕ × List Token). z.2) same))

null_read : (depth : ℕ) (table : List Entry) (left : ℕ) (tokens : List Token) (v : Content) (less : ℕ) (rest : List Token) → their_null depth (primitive primitives.Null) left tokens ≡ Some (v, less, rest)
    → Read (null_at depth table (Prim primitives.Null)) left tokens (v ∷ []) less rest
null_read depth table left tokens v less rest e =
    let h = null_there depth left tokens v less rest e in
    let u = h.0 in
    record {
      steps = exactly v ∷ [];
      reads = λ before. rw (u.deep, u.some, u.is, h.1, spends before less tokens) refl;
      met = rw u.is (leaf_met (plain null) refl);
    }

only_null : (p : Primitive) (depth left : ℕ) (tokens : List Token) (x : Content × ℕ × List Token) → their_null depth (primitive p) left tokens ≡ Some x → p ≡ primitives.Null
only_null p zero left tokens x e = absurd cc
only_null primitives.Null (suc depth) left tokens x e = refl
only_null primitives.Bool (suc depth) left tokens x e = absurd cc
only_null primitives.Nat (suc depth) left tokens x e = absurd cc
only_null primitives.Int (suc depth) left tokens x e = absurd cc
only_null primitives.Nat8 (suc depth) left tokens x e = absurd cc
only_null primitives.Nat16 (suc depth) left tokens x e = absurd cc
only_null primitives.Nat32 (suc depth) left tokens x e = absurd cc
only_null primitives.Nat64 (suc depth) left tokens x e = absurd cc
only_null primitives.Int8 (suc depth) left tokens x e = absurd cc
only_null primitives.Int16 (suc depth) left tokens x e = absurd cc
only_null primitives.Int32 (suc depth) left tokens x e = absurd cc
only_null primitives.Int64 (suc depth) left tokens x e = absurd cc
only_null primitives.Text (suc depth) left tokens x e = absurd cc
only_null primitives.Reserved (suc depth) left tokens x e = absurd cc
only_null primitives.Empty (suc depth) left tokens x e = absurd cc
only_null primitives.Principal (suc depth) left tokens x e = absurd cc

unwritten_tied : (depth : ℕ) (table : List Entry) (type : TyRef) (left : ℕ) (tokens : List Token) (v : Content) (less : ℕ) (rest : List Token) → their_null depth (shape table type) left tokens ≡ Some (v, less, rest)
    → Read (null_at depth table type) left tokens (v ∷ []) less rest
unwritten_tied depth table (Index i) left tokens v less rest e = let none = no_null table i depth left tokens in absurd cc
unwritten_tied depth table (Prim p) left tokens v less rest e =
    let is = only_null p depth left tokens (v, less, rest) e in
    subst (λ (q : Primitive). Read (null_at depth table (Prim q)) left tokens (v ∷ []) less rest) (sym is) (null_read depth table left tokens v less rest (rw is at e))

written : (ours : TyRef → Giving Bool) (depth : ℕ) (table : List Entry) (type : TyRef) (left : ℕ) (tokens : List Token) (v : Content) (less : ℕ) (rest : List Token) → starts (is_mark 61) tokens ≡ true
    → Tied (annotated_at type (ours type)) left (drop 1 tokens) (v ∷ []) less rest → Read (case_value_at depth table ours type) left tokens (v ∷ []) less rest
written ours depth table type left tokens v less rest equals t = record { steps = t.steps; reads = λ before. rw (equals, t.reads before) refl; met = t.met }

case_tied : (depth : ℕ) (table : List Entry) (theirs : TyRef → Budgeted Content) (ours : TyRef → Giving Bool) → ((type : TyRef) → Ties (λ v. v) (theirs type) (ours type))
    → (type : TyRef) (left : ℕ) (tokens : List Token) (v : Content) (less : ℕ) (rest : List Token) → their_case theirs depth table type left tokens ≡ Some (v, less, rest) → Read (case_value_at depth table ours type) left tokens (v ∷ []) less rest
case_tied depth table theirs ours law type left tokens v less rest e = elim (true_or_false (starts (is_mark 61) tokens)) [
  | inl equals ↦
      written ours depth table type left tokens v less rest equals (annotated_tied (λ v. v) type (theirs type) (ours type) (law type) left (drop 1 tokens) v less rest (rw equals at e))
  | inr other ↦
      read_alike (null_at depth table type) (case_value_at depth table ours type) left tokens (v ∷ []) less rest (λ before. rw other refl) (unwritten_tied depth table type left tokens v less rest (rw other at e))
]

ended_here : (steps : List Step) (left : ℕ) (tokens rest : List Token) → starts (is_mark 125) tokens ≡ true → drop 1 tokens ≡ rest → (separator_at (steps, left, tokens) >>= mark_at 125) ≡ Some (steps, left, rest)
ended_here steps left tokens rest ended after = rw (ended, ended, after) refl

ended_next : (steps : List Step) (left : ℕ) (tokens rest : List Token) → starts (is_mark 125) tokens ≡ false → starts (is_mark 59) tokens ≡ true → starts (is_mark 125) (drop 1 tokens) ≡ true → drop 1 (drop 1 tokens) ≡ rest
    → (separator_at (steps, left, tokens) >>= mark_at 125) ≡ Some (steps, left, rest)
ended_next steps left tokens rest on semicolon ended after = rw (on, semicolon, ended, after) refl

-- the end of a variant
ended_tied : {A : Type 0} (steps : List Step) (x : A) (left : ℕ) (tokens : List Token) (y : A) (less : ℕ) (rest : List Token) → variant_ended (x, left, tokens) ≡ Some (y, less, rest)
    → (x ≡ y) × (left ≡ less) × ((separator_at (steps, left, tokens) >>= mark_at 125) ≡ Some (steps, left, rest))
ended_tied {A} steps x left tokens y less rest e = elim (true_or_false (starts (is_mark 125) tokens)) [
  | inl ended ↦
      let same : (x, left, drop 1 tokens) ≡ (y, less, rest) = some_is {A = A × ℕ × List Token} (x, left, drop 1 tokens) (y, less, rest) (rw ended at e) in
      let after : drop 1 tokens ≡ rest = ap (λ (z : A × ℕ × List Token). z.2) same in
      (ap (λ (z : A × ℕ × List Token). z.0) same, ap (λ (z : A × ℕ × List Token). z.1) same, ended_here steps left tokens rest ended after)
  | inr on ↦ elim (true_or_false (starts (is_mark 59) tokens && starts (is_mark 125) (drop 1 tokens))) [
    | inl both_there ↦
        let two = both (starts (is_mark 59) tokens) (starts (is_mark 125) (drop 1 tokens)) both_there in
        let same : (x, left, drop 1 (drop 1 tokens)) ≡ (y, less, rest) = some_is {A = A × ℕ × List Token} (x, left, drop 1 (drop 1 tokens)) (y, less, rest) (rw (on, both_there) at e) in
        let after : drop 1 (drop 1 tokens) ≡ rest = ap (λ (z : A × ℕ × List Token). z.2) same in
        (ap (λ (z : A × ℕ × List Token). z.0) same, ap (λ (z : A × ℕ × List Token). z.1) same, ended_next steps left tokens rest on two.0 two.1 after)
    | inr wrong ↦ let none : None ≡ Some (y, less, rest) = rw (on, wrong) at e in absurd cc
  ]
]

variant_of : (depth : ℕ) (table : List Entry) (ours : TyRef → Giving Bool) (cases : List (ℕ × TyRef)) (label : Token) (id place : ℕ) (type : TyRef) (left : ℕ) (before tokens : List Token) (u : Content) (middle : ℕ) (after : List Token) (v : Content) (less : ℕ) (rest : List Token)
    → starts (is_word (codes "variant")) before ≡ true → starts (is_mark 123) (drop 1 before) ≡ true → drop 1 (drop 1 before) ≡ label ∷ tokens → label_of label ≡ Some id → place_of cases id ≡ Some place → type_of cases id ≡ Some type
    → Read (case_value_at depth table ours type) left tokens (u ∷ []) middle after → variant_ended (u, middle, after) ≡ Some (v, less, rest) → Read (variant_at depth table ours cases) left before (variant place v ∷ []) less rest
variant_of depth table ours cases label id place type left before tokens u middle after v less rest word brace there labelled at typed t ends =
    let same = ended_tied [] u middle after v less rest ends in
    record {
      steps = one_case place ∷ t.steps;
      reads = λ done.
          let end = (ended_tied (done ++ one_case place ∷ t.steps) u middle after v less rest ends).2 in
          rw (word, brace, there, labelled, at, typed, t.reads (done ++ one_case place ∷ []), append_assoc done (one_case place ∷ []) t.steps) (end ∙ ap (λ (n : ℕ). Some (done ++ one_case place ∷ t.steps, n, rest)) same.1);
      met = one_met (one_case place) (variant place v) (v ∷ []) t.steps (v, refl, refl) (subst (λ (w : Content). AreMet t.steps (w ∷ [])) same.0 t.met);
    }

chosen_tied : (depth : ℕ) (table : List Entry) (theirs : TyRef → Budgeted Content) (ours : TyRef → Giving Bool) → ((type : TyRef) → Ties (λ v. v) (theirs type) (ours type))
    → (cases : List (ℕ × TyRef)) (label : Token) (id left : ℕ) (before tokens : List Token) (v : Content) (less : ℕ) (rest : List Token)
    → starts (is_word (codes "variant")) before ≡ true → starts (is_mark 123) (drop 1 before) ≡ true → drop 1 (drop 1 before) ≡ label ∷ tokens → label_of label ≡ Some id
    → chosen_at theirs depth table cases id left tokens ≡ Some (v, less, rest) → Read (variant_at depth table ours cases) left before (v ∷ []) less rest
chosen_tied depth table theirs ours law cases label id left before tokens v less rest word brace there labelled e =
    let a = bind_some (place_of cases id) (λ (place : ℕ). type_of cases id >>= λ type. then_make (λ u. variant place u) (their_case theirs depth table type left tokens >>= variant_ended)) (v, less, rest) e in
    let b = bind_some (type_of cases id) (λ (type : TyRef). then_make (λ u. variant a.0 u) (their_case theirs depth table type left tokens >>= variant_ended)) (v, less, rest) a.2 in
    let c = bind_some (their_case theirs depth table b.0 left tokens >>= variant_ended) (λ (x : Content × ℕ × List Token). Some (variant a.0 x.0, x.1, x.2)) (v, less, rest) b.2 in
    let x : Content × ℕ × List Token = c.0 in
    let d = bind_some (their_case theirs depth table b.0 left tokens) variant_ended x c.1 in
    let y : Content × ℕ × List Token = d.0 in
    let t = case_tied depth table theirs ours law b.0 left tokens y.0 y.1 y.2 d.1 in
    let same : (variant a.0 x.0, x.1, x.2) ≡ (v, less, rest) = some_is {A = Content × ℕ × List Token} (variant a.0 x.0, x.1, x.2) (v, less, rest) c.2 in
    subst (λ (z : Content × ℕ × List Token). Read (variant_at depth table ours cases) left before (z.0 ∷ []) z.1 z.2) same
    (variant_of depth table ours cases label id a.0 b.0 left before tokens y.0 y.1 y.2 x.0 x.1 x.2 word brace there labelled a.1 b.1 t d.2)

pub variant_tied : (depth : ℕ) (table : List Entry) (theirs : TyRef → Budgeted Content) (ours : TyRef → Giving Bool) → ((type : TyRef) → Ties (λ v. v) (theirs type) (ours type))
    → (cases : List (ℕ × TyRef)) (left : ℕ) (tokens : List Token) (v : Content) (less : ℕ) (rest : List Token) → their_variant theirs depth table cases left tokens ≡ Some (v, less, rest)
    → Read (variant_at depth table ours cases) left tokens (v ∷ []) less rest
variant_tied depth table theirs ours law cases left tokens v less rest e = elim (true_or_false (starts (is_word (codes "variant")) tokens && starts (is_mark 123) (drop 1 tokens))) [
  | inl begins ↦
      let two = both (starts (is_word (codes "variant")) tokens) (starts (is_mark 123) (drop 1 tokens)) begins in
      labelled (drop 1 (drop 1 tokens)) refl two.0 two.1 (rw begins at e)
  | inr other ↦ let none : None ≡ Some (v, less, rest) = rw other at e in absurd cc
]
  where
    labelled : (inner : List Token) → drop 1 (drop 1 tokens) ≡ inner → starts (is_word (codes "variant")) tokens ≡ true → starts (is_mark 123) (drop 1 tokens) ≡ true
        → labelled_at theirs depth table cases left inner ≡ Some (v, less, rest) → Read (variant_at depth table ours cases) left tokens (v ∷ []) less rest
    labelled [] there word brace f = absurd cc
    labelled (t ∷ after) there word brace f =
        let b = bind_some (label_of t) (λ (id : ℕ). chosen_at theirs depth table cases id left after) (v, less, rest) f in
        chosen_tied depth table theirs ours law cases t b.0 left tokens after v less rest word brace there b.1 b.2
