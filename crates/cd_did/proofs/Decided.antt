-- The shape of a file's types, as tests.
use Rattle.std.proofs.Common.{◌≡◌, ℕ, suc, Bool, true, false, List, [], ◌∷◌, map, refl}
use Rattle.std.specs.Prelude.{not, nat_eq, bytes_eq, slice_get, Some}
use Rattle.std.specs.List.{list_all, AllByRecursion, IsDistinct}
use Rattle.cd_types.proofs.FaultLemmas.{both_true}
use Rattle.cd_types.proofs.EntryLemmas.{test_at}
use Rattle.cd_grammar.specs.declared.written.Part.{Part}
use Rattle.cd_grammar.specs.declared.written.Written.{Written}
use Rattle.cd_grammar.specs.declared.written.Written.TheVariants.{Opt, Seq, Rec, Var, Func, Service}
use Rattle.cd_grammar.specs.File.{File}
use Rattle.cd_did.specs.Faults.{AreIds, AreShaped}
use Rattle.cd_did.specs.Sorted.{fits}
use Rattle.cd_did.specs.Entries.{is_method}
use Rattle.cd_did.specs.Formed.{IsFormed, is_served}
use Rattle.cd_did.specs.Interfaces.{HasEnded}
use Rattle.cd_did.specs.InterfaceOf.{are_distinct, are_ids, is_formed, are_formed}
use Rattle.cd_did.proofs.Interfaces.{all_formed, all_served, all_shaped}

-- ---- keys that differ

not_true : (b : Bool) → not b ≡ true → b ≡ false
not_true true e = absurd cc
not_true false e = refl

apart_is : {K : Type 0} (eq : K → K → Bool) (x : K) (xs : List K) → list_all (λ y. not (eq x y)) xs ≡ true → AllByRecursion (λ y. eq x y ≡ false) xs
apart_is eq x [] e = tt
apart_is eq x (y ∷ xs) e = let both = both_true (not (eq x y)) (list_all (λ z. not (eq x z)) xs) e in (not_true (eq x y) both.0, apart_is eq x xs both.1)

is_apart : {K : Type 0} (eq : K → K → Bool) (x : K) (xs : List K) → AllByRecursion (λ y. eq x y ≡ false) xs → list_all (λ y. not (eq x y)) xs ≡ true
is_apart eq x [] all = refl
is_apart eq x (y ∷ xs) all = rw (all.0, is_apart eq x xs all.1) refl

distinct_is : {K : Type 0} (eq : K → K → Bool) (xs : List K) → are_distinct eq xs ≡ true → IsDistinct eq xs
unfolding IsDistinct
distinct_is eq [] e = tt
distinct_is eq (x ∷ xs) e = let both = both_true (list_all (λ y. not (eq x y)) xs) (are_distinct eq xs) e in (apart_is eq x xs both.0, distinct_is eq xs both.1)

is_distinct : {K : Type 0} (eq : K → K → Bool) (xs : List K) → IsDistinct eq xs → are_distinct eq xs ≡ true
unfolding IsDistinct
is_distinct eq [] distinct = refl
is_distinct eq (x ∷ xs) distinct = rw (is_apart eq x xs distinct.0, is_distinct eq xs distinct.1) refl

ids_are : (ids : List ℕ) → are_ids ids ≡ true → AreIds ids
ids_are ids e = let both = both_true (are_distinct nat_eq ids) (list_all fits ids) e in (distinct_is nat_eq ids both.0, both.1)

are_ids_if : (ids : List ℕ) → AreIds ids → are_ids ids ≡ true
are_ids_if ids are = rw (is_distinct nat_eq ids are.0, are.1) refl

-- ---- types

formed_is : (file : File) (ends : List ℕ) (w : Written) → is_formed file ends w ≡ true → IsFormed file ends w
formed_is file ends (Opt part) e = tt
formed_is file ends (Seq part) e = tt
formed_is file ends (Rec fields) e = ids_are (map (λ f. f.0) fields) e
formed_is file ends (Var cases) e = ids_are (map (λ f. f.0) cases) e
formed_is file ends (Func args results notes) e = tt
formed_is file ends (Service methods) e =
    let both = both_true (are_distinct bytes_eq (map (λ (m : List ℕ × Part). m.0) methods)) (list_all (λ (m : List ℕ × Part). is_method file ends m.1) methods) e in
    (distinct_is bytes_eq (map (λ (m : List ℕ × Part). m.0) methods) both.0, both.1)

is_formed_if : (file : File) (ends : List ℕ) (w : Written) → IsFormed file ends w → is_formed file ends w ≡ true
is_formed_if file ends (Opt part) formed = refl
is_formed_if file ends (Seq part) formed = refl
is_formed_if file ends (Rec fields) formed = are_ids_if (map (λ f. f.0) fields) formed
is_formed_if file ends (Var cases) formed = are_ids_if (map (λ f. f.0) cases) formed
is_formed_if file ends (Func args results notes) formed = refl
is_formed_if file ends (Service methods) formed = rw (is_distinct bytes_eq (map (λ (m : List ℕ × Part). m.0) methods) formed.0, formed.1) refl

all_from : {A : Type 0} (test : A → Bool) (xs : List A) → ((i : ℕ) (x : A) → slice_get xs i ≡ Some x → test x ≡ true) → list_all test xs ≡ true
all_from test [] each = refl
all_from test (x ∷ xs) each = rw (each 0 x refl, all_from test xs (λ i y at. each (suc i) y at)) refl

-- ---- files

pub shaped_is : (file : File) (ends : List ℕ) → HasEnded file ends → are_formed file ends ≡ true → AreShaped file
shaped_is file ends has e =
    let both = both_true (list_all (is_formed file ends) file.types) (is_served file ends file.main) e in
    all_shaped file ends has (λ i w at. formed_is file ends w (test_at (is_formed file ends) file.types i w both.0 at)) both.1

pub is_shaped : (file : File) (ends : List ℕ) → HasEnded file ends → AreShaped file → are_formed file ends ≡ true
is_shaped file ends has shaped =
    let formed = all_formed file ends has shaped in
    rw (all_from (is_formed file ends) file.types (λ i w at. is_formed_if file ends w (formed i w at)), all_served file ends has shaped) refl
