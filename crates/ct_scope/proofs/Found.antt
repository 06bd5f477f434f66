-- What is put under a name is found.
use Rattle.std.proofs.Common.{◌≡◌, ℕ, Bool, true, false, List, [], ◌∷◌, Some, refl, sym, ap, ◌∙◌, ◌⊎◌, inl, inr}
use Rattle.std.specs.Prelude.{bytes_eq, if◌then◌else◌}
use Rattle.std.specs.Cmp.Lexicographic.{slice_cmp}
use Rattle.std.specs.Ordering.{nat_cmp, is_eq}
use Rattle.std.specs.declared.cmp.Ordering.{Ordering}
use Rattle.std.specs.declared.cmp.Ordering.TheVariants.{Less, Equal, Greater}
use Rattle.std.proofs.lemmas.Map.Text.{is_eq-slice_cmp}
use Rattle.std.proofs.lemmas.Slice.Eq.{bytes_eq-Decides}
use Rattle.ct_scope.specs.Names.{Named, found, put}

true_or_false : (b : Bool) → (b ≡ true) ⊎ (b ≡ false)
true_or_false true = inl refl
true_or_false false = inr refl

-- names that compare as equal are
same : (name other : List ℕ) → slice_cmp nat_cmp name other ≡ Equal → name ≡ other
same name other e = (bytes_eq-Decides name other).0 (sym (is_eq-slice_cmp name other) ∙ ap is_eq e)

-- what is found in names, with one before them
first : {V : Type 0} (key other : List ℕ) (value : V) (names : Named V) → found ((key, value) ∷ names) other ≡ (if bytes_eq other key then Some value else found names other)
first key other value names = rw (is_eq-slice_cmp other key) refl

-- an entry that is passed over has another name
apart : (name key other : List ℕ) → slice_cmp nat_cmp name key ≡ Greater → bytes_eq other key ≡ true → bytes_eq other name ≡ false
apart name key other e here = elim (true_or_false (bytes_eq other name)) [
  | inl is ↦
      let k : other ≡ key = (bytes_eq-Decides other key).0 here in
      let n : other ≡ name = (bytes_eq-Decides other name).0 is in
      let both : bytes_eq name key ≡ true = (bytes_eq-Decides name key).1 (sym n ∙ k) in
      let f : is_eq Greater ≡ true = sym (ap is_eq e) ∙ is_eq-slice_cmp name key ∙ both in
      absurd cc
  | inr other_name ↦ other_name
]

-- the name comes later
later : {V : Type 0} (name other : List ℕ) (value : V) (e : List ℕ × V) (names more : Named V) → slice_cmp nat_cmp name e.0 ≡ Greater
    → found more other ≡ (if bytes_eq other name then Some value else found names other) → found (e ∷ more) other ≡ (if bytes_eq other name then Some value else found (e ∷ names) other)
later name other value e names more passed so_far = elim (true_or_false (bytes_eq other e.0)) [
  | inl here ↦ first e.0 other e.1 more ∙ rw (here, apart name e.0 other passed here, first e.0 other e.1 names) (rw here refl)
  | inr there ↦ first e.0 other e.1 more ∙ rw (there, first e.0 other e.1 names) (rw there so_far)
]

-- the name is that of an entry
here : {V : Type 0} (name other : List ℕ) (value : V) (e : List ℕ × V) (names : Named V) → name ≡ e.0 → found ((e.0, value) ∷ names) other ≡ (if bytes_eq other name then Some value else found (e ∷ names) other)
here name other value e names is = rw is (elim (true_or_false (bytes_eq other e.0)) [
  | inl this ↦ first e.0 other value names ∙ rw this refl
  | inr there ↦ first e.0 other value names ∙ rw (there, first e.0 other e.1 names) (rw there refl)
])

pub put_found : {V : Type 0} (names : Named V) (name other : List ℕ) (value : V) → found (put names name value) other ≡ (if bytes_eq other name then Some value else found names other)
put_found [] name other value = first name other value []
put_found {V} (e ∷ names) name other value = at (slice_cmp nat_cmp name e.0) refl (put_found names name other value)
  where
    at : (o : Ordering) → slice_cmp nat_cmp name e.0 ≡ o → found (put names name value) other ≡ (if bytes_eq other name then Some value else found names other)
        → found (put (e ∷ names) name value) other ≡ (if bytes_eq other name then Some value else found (e ∷ names) other)
    at Less is more = rw is (first name other value (e ∷ names))
    at Equal is more = rw is (here name other value e names (same name e.0 is))
    at Greater is more = rw is (later name other value e names (put names name value) is more)
