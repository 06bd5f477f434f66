-- What is written piece by piece: for a table, and for a value.
use Rattle.std.proofs.Common.{◌≡◌, ℕ, zero, suc, ◌+◌, ◌≤◌, List, [], ◌∷◌, ◌++◌, length, take, Some, None, refl, sym, ap, ◌∙◌, append_assoc, ◌⊎◌, inl, inr, arith}
use Rattle.std.specs.List.{flat_map}
use Rattle.std.specs.Global.{Vec, Global}
use Rattle.std.specs.Prelude.{Box, slice_get}
use Rattle.std.proofs.lemmas.List.{append-nil, length-map, flat_map_more, take_more}
use Rattle.std.proofs.lemmas.Option.{slice_get_within, get_or_from_slice_get}
use Rattle.ic_leb.specs.Spelling.{unsigned_spelling}
use Rattle.cd_codec.specs.declared.value.Value.{Value}
use Rattle.cd_codec.specs.declared.value.Value.TheVariants as values
use Rattle.cd_codec.specs.declared.value.Values.{roll-Values}
use Rattle.cd_codec.specs.declared.value.FieldValues.{roll-FieldValues}
use Rattle.cd_codec.specs.Content.{Content, contents_of, count_of}
use Rattle.cd_codec.specs.Spelling.{plain_spelling, spelling}
use Rattle.cd_codec.specs.View.{view, views, views_of_fields}
use Rattle.cd_codec.proofs.Views.{view-Null, view-Reserved, view-Some, view-Var, view-Seq, view-Rec}
use Rattle.cd_codec.proofs.ValueSpelled.{count_made, all_made, fields_made}

-- one piece is appended, and then another
two_pieces : (old middle new first second whole : List ℕ) → middle ≡ old ++ first → new ≡ middle ++ second → first ++ second ≡ whole → new ≡ old ++ whole
two_pieces old middle new first second whole e f same = f ∙ ap (λ (m : List ℕ). m ++ second) e ∙ append_assoc old first second ∙ ap (λ (bytes : List ℕ). old ++ bytes) same

written-Null : spelling (view values.Null) ≡ []
unfolding spelling plain_spelling
written-Null = ap spelling view-Null

written-Reserved : spelling (view values.Reserved) ≡ []
unfolding spelling plain_spelling
written-Reserved = ap spelling view-Reserved

pub after_nothing : (old : List ℕ) (v : Value) → (v ≡ values.Null) ⊎ (v ≡ values.Reserved) → old ≡ old ++ spelling (view v)
after_nothing old v (inl is) = rw (is, written-Null) (sym (append-nil old))
after_nothing old v (inr is) = rw (is, written-Reserved) (sym (append-nil old))

pub after_some : (old middle new : List ℕ) (v part : Value) (inner : Box Value Global) → v ≡ values.Opt (Some inner) → part ≡ inner.value → middle ≡ old ++ 1 ∷ [] → new ≡ middle ++ spelling (view part)
    → new ≡ old ++ spelling (view v)
unfolding spelling
after_some old middle new v part inner is same e f = two_pieces old middle new (1 ∷ []) (spelling (view part)) (spelling (view v)) e f (rw (is, same, view-Some inner) refl)

pub after_variant : (old middle new : List ℕ) (v part : Value) (i place : ℕ) (inner : Box Value Global) → v ≡ values.Var i inner → part ≡ inner.value → place ≡ i
    → middle ≡ old ++ unsigned_spelling place → new ≡ middle ++ spelling (view part) → new ≡ old ++ spelling (view v)
unfolding spelling
after_variant old middle new v part i place inner is same at e f = two_pieces old middle new (unsigned_spelling place) (spelling (view part)) (spelling (view v)) e f (rw (is, same, at, view-Var i inner) refl)

written-Seq : (v : Vec Value) → unsigned_spelling (length v.items) ++ flat_map spelling (views v.items) ≡ spelling (view (values.Seq (roll-Values record { items = v })))
unfolding spelling
written-Seq v =
    let count : count_of (contents_of (views v.items)) ≡ length v.items = count_made (views v.items) ∙ length-map v.items view in
    sym (ap spelling (view-Seq v) ∙ rw (count, all_made (views v.items)) refl)

pub after_values : (old middle new : List ℕ) (v : Value) (inner : Vec Value) (parts : List Value) (count : ℕ) → v ≡ values.Seq (roll-Values record { items = inner }) → parts ≡ inner.items → count ≡ length parts
    → middle ≡ old ++ unsigned_spelling count → new ≡ middle ++ flat_map spelling (views parts) → new ≡ old ++ spelling (view v)
after_values old middle new v inner parts count is same all e f =
    two_pieces old middle new (unsigned_spelling count) (flat_map spelling (views parts)) (spelling (view v)) e f (rw (is, all, same) (written-Seq inner))

pub after_fields : (old new : List ℕ) (v : Value) (inner : Vec (ℕ × Value)) (parts : List (ℕ × Value)) → v ≡ values.Rec (roll-FieldValues record { items = inner }) → parts ≡ inner.items
    → new ≡ old ++ flat_map (λ (f : ℕ × Content). spelling f.1) (views_of_fields parts) → new ≡ old ++ spelling (view v)
unfolding spelling
after_fields old new v inner parts is same e = e ∙ ap (λ (bytes : List ℕ). old ++ bytes) (rw (is, same, view-Rec inner) (sym (fields_made (views_of_fields inner.items))))

-- one more entry of a table is appended
pub after_entry : {A : Type 0} (f : A → List ℕ) (items : List A) (i : ℕ) (x : A) (old middle new : List ℕ) → slice_get items i ≡ Some x → middle ≡ old ++ flat_map f (take i items) → new ≡ middle ++ f x
    → new ≡ old ++ flat_map f (take (i + 1) items)
after_entry f items i x old middle new at e g =
    let more : take (i + 1) items ≡ take i items ++ x ∷ [] = take_more items i x (slice_get_within items i x at) ∙ ap (λ y. take i items ++ y ∷ []) (get_or_from_slice_get items i x x at) in
    g ∙ ap (λ (m : List ℕ). m ++ f x) e ∙ flat_map_more f old (take i items) x ∙ ap (λ ys. old ++ flat_map f ys) (sym more)

-- where a list has nothing it has ended
pub past_end : {A : Type 0} (items : List A) (i : ℕ) → slice_get items i ≡ None → length items ≤ i
past_end [] i e = omega arith
past_end (x ∷ items) zero e = absurd cc
past_end (x ∷ items) (suc i) e = omega (arith, past_end items i e)
