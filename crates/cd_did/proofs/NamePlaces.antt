-- Definitions that are looked up by their names.
use Rattle.std.proofs.Common.{◌≡◌, ℕ, zero, suc, ◌+◌, ◌≤◌, ◌<◌, get_or, Bool, true, false, cond, List, [], ◌∷◌, length, take, drop, Option, Some, None, refl, sym, ap, ◌∙◌, inl, inr, arith}
use Rattle.std.specs.Prelude.{IfSome, Vec, bytes_eq, nat_lt}
use Rattle.std.specs.BTreeMap.{UpdatesBy, is_at}
use Rattle.std.specs.Map.{KeepsOthers}
use Rattle.std.specs.Cmp.Lexicographic.{slice_cmp}
use Rattle.std.specs.Ordering.{nat_cmp, eq_by_cmp}
use Rattle.std.specs.declared.alloc.Global.{Global}
use Rattle.std.specs.declared.cmp.Ordering.{Ordering}
use Rattle.std.proofs.lemmas.Cmp.{eq_by_cmp_equiv, nat_list_cmp_total}
use Rattle.std.proofs.lemmas.Map.Text.{is_eq-slice_cmp}
use Rattle.std.proofs.lemmas.Slice.Eq.{bytes_eq-Decides}
use Rattle.std.proofs.lemmas.List.{at_drop_more}
use Rattle.ic_base.proofs.Steps.{some_is}
use Rattle.cd_grammar.specs.declared.written.Part.{Part}
use Rattle.cd_tokens.proofs.Fronts.{true_or_false}
use Rattle.cd_did.specs.Faults.{Definitions, is_defined}
use Rattle.cd_did.specs.Rings.{place_from}
use Rattle.cd_did.specs.Places.{Places, found_in, HasPlaces}

abbrev by_bytes : Vec ℕ Global → Vec ℕ Global → Ordering
by_bytes x y = slice_cmp nat_cmp x.items y.items

abbrev at_name : List ℕ → Vec ℕ Global → Bool
at_name name = is_at (λ (k : Vec ℕ Global). slice_cmp nat_cmp name k.items)

-- a key that is one name is no other
at_one : (name other : List ℕ) → bytes_eq name other ≡ false → (k : Vec ℕ Global) → at_name name k ≡ true → at_name other k ≡ false
at_one name other apart k here = elim (true_or_false (bytes_eq other k.items)) [
  | inl same ↦
      let is : name ≡ k.items = (bytes_eq-Decides name k.items).0 (sym (is_eq-slice_cmp name k.items) ∙ here) in
      let e : bytes_eq name other ≡ true = (bytes_eq-Decides name other).1 (is ∙ sym ((bytes_eq-Decides other k.items).0 same)) in
      let f : true ≡ false = sym e ∙ apart in
      absurd cc
  | inr differs ↦ is_eq-slice_cmp other k.items ∙ differs
]

others_stay : (name other : List ℕ) (old new : Places) → KeepsOthers (eq_by_cmp by_bytes) (at_name name) old.entries new.entries → bytes_eq name other ≡ false → found_in new other ≡ found_in old other
unfolding KeepsOthers
others_stay name other old new keeps apart = keeps (at_name other) (λ x y. (eq_by_cmp_equiv nat_list_cmp_total).congr other x.items y.items) (at_one name other apart)

-- what a tree has at each name once one is put in
pub name_put : (name : List ℕ) (old new : Places) (v : ℕ) → UpdatesBy by_bytes (λ k. slice_cmp nat_cmp name k.items) old new (Some v) → (other : List ℕ) → found_in new other ≡ cond (bytes_eq name other) (Some v) (found_in old other)
name_put name old new v put other = elim (true_or_false (bytes_eq name other)) [
  | inl same ↦ rw same (ap (found_in new) (sym ((bytes_eq-Decides name other).0 same)) ∙ put.1)
  | inr apart ↦ rw apart (others_stay name other old new put.3 apart)
]

-- the tree with the name of one definition more, before those that it has
pub one_more : (old new : Places) (defs : Definitions) (n after : ℕ) (d : List ℕ × Part) → n < length defs → after ≡ n + 1 → d ≡ get_or defs n d → HasPlaces old (drop after defs) after
    → ((name : List ℕ) → found_in new name ≡ cond (bytes_eq d.0 name) (Some n) (found_in old name)) → HasPlaces new (drop n defs) n
one_more old new defs n after d lt next is so_far gains = λ name.
    gains name
    ∙ ap (cond (bytes_eq d.0 name) (Some n)) (so_far name ∙ ap (λ k. place_from (drop k defs) k name) next)
    ∙ ap (λ k. cond (bytes_eq d.0 name) (Some n) (place_from (drop (n + 1) defs) k name)) (omega arith)
    ∙ ap (λ (x : List ℕ × Part). place_from (x ∷ drop (n + 1) defs) n name) is
    ∙ sym (at_drop_more (λ xs. place_from xs n name) defs n d lt)

-- ---- what a place tells

at_least : (defs : Definitions) (start p : ℕ) (name : List ℕ) → place_from defs start name ≡ Some p → start ≤ p
at_least [] start p name e = absurd cc
at_least (d ∷ defs) start p name e = elim (true_or_false (bytes_eq d.0 name)) [
  | inl same ↦ let s : start ≡ p = some_is start p (rw same at e) in omega (arith, s)
  | inr other ↦ let f : place_from defs (suc start) name ≡ Some p = rw other at e in let more = at_least defs (suc start) p name f in omega (arith, more)
]

place_within : (defs : Definitions) (start p : ℕ) (name : List ℕ) → place_from defs start name ≡ Some p → p < start + length defs
place_within [] start p name e = absurd cc
place_within (d ∷ defs) start p name e = elim (true_or_false (bytes_eq d.0 name)) [
  | inl same ↦ let s : start ≡ p = some_is start p (rw same at e) in omega (arith, s)
  | inr other ↦ let f : place_from defs (suc start) name ≡ Some p = rw other at e in let more = place_within defs (suc start) p name f in omega (arith, more)
]

-- a name is one of the first definitions' where its place is before their end
before_place : (n : ℕ) (defs : Definitions) (start p : ℕ) (name : List ℕ) → place_from defs start name ≡ Some p → is_defined (take n defs) name ≡ nat_lt p (start + n)
before_place n [] start p name e = absurd cc
before_place zero (d ∷ defs) start p name e = let less = at_least (d ∷ defs) start p name e in grind (arith, less)
before_place (suc n) (d ∷ defs) start p name e = elim (true_or_false (bytes_eq d.0 name)) [
  | inl same ↦ let s : start ≡ p = some_is start p (rw same at e) in let less : nat_lt p (start + suc n) ≡ true = grind (arith, s) in rw (same, less) refl
  | inr other ↦
      let f : place_from defs (suc start) name ≡ Some p = rw other at e in
      let sum : suc start + n ≡ start + suc n = omega arith in
      rw other (before_place n defs (suc start) p name f ∙ ap (nat_lt p) sum)
]

pub none_before : (n : ℕ) (defs : Definitions) (start : ℕ) (name : List ℕ) → place_from defs start name ≡ None → is_defined (take n defs) name ≡ false
none_before zero defs start name e = refl
none_before (suc n) [] start name e = refl
none_before (suc n) (d ∷ defs) start name e = elim (true_or_false (bytes_eq d.0 name)) [
  | inl same ↦ let f : Some start ≡ None = rw same at e in absurd cc
  | inr other ↦ let f : place_from defs (suc start) name ≡ None = rw other at e in rw other (none_before n defs (suc start) name f)
]

pub one_before : (n : ℕ) (defs : Definitions) (p : ℕ) (name : List ℕ) → place_from defs 0 name ≡ Some p → is_defined (take n defs) name ≡ nat_lt p n
one_before n defs p name e = before_place n defs 0 p name e ∙ ap (nat_lt p) (omega arith)

pub found_within : (o : Option ℕ) (defs : Definitions) (name : List ℕ) → o ≡ place_from defs 0 name → IfSome o (λ p. p < length defs)
found_within None defs name e = tt
found_within (Some p) defs name e = let less = place_within defs 0 p name (sym e) in omega (arith, less)

-- a name is defined where it has a place
pub none_there : (defs : Definitions) (start : ℕ) (name : List ℕ) → place_from defs start name ≡ None → is_defined defs name ≡ false
none_there [] start name e = refl
none_there (d ∷ defs) start name e = elim (true_or_false (bytes_eq d.0 name)) [
  | inl same ↦ let f : Some start ≡ None = rw same at e in absurd cc
  | inr other ↦ let f : place_from defs (suc start) name ≡ None = rw other at e in rw other (none_there defs (suc start) name f)
]

pub one_there : (defs : Definitions) (start p : ℕ) (name : List ℕ) → place_from defs start name ≡ Some p → is_defined defs name ≡ true
one_there [] start p name e = absurd cc
one_there (d ∷ defs) start p name e = elim (true_or_false (bytes_eq d.0 name)) [
  | inl same ↦ rw same refl
  | inr other ↦ let f : place_from defs (suc start) name ≡ Some p = rw other at e in rw other (one_there defs (suc start) p name f)
]
