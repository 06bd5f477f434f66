-- What a well formed table says of its entries.
use Rattle.std.proofs.Common.{◌≡◌, ℕ, zero, suc, ◌+◌, ◌≤◌, ◌<◌, ◌^◌, Bool, true, List, [], ◌∷◌, length, map, Some, sym, ◌∙◌, ap, arith}
use Rattle.std.proofs.lemmas.List.{length-map}
use Rattle.std.proofs.lemmas.Bool.{leb-true, ltb-true}
use Rattle.std.specs.Prelude.{IsTrue, nat_lt, nat_le, ◌&&◌, slice_get}
use Rattle.std.specs.List.{list_all}
use Rattle.ic_base.proofs.Steps.{some_is}
use Rattle.cd_types.specs.declared.entry.TyRef.{TyRef}
use Rattle.cd_types.specs.declared.entry.Entry.{Entry}
use Rattle.cd_types.specs.IsOrdered.{ids_rise_from, is_ordered}
use Rattle.cd_types.specs.IsTable.{names_inside, has_funcs, is_well_formed, is_table}
use Rattle.cd_types.proofs.FaultLemmas.{both_true}

-- a test of each element holds of the one at a place
pub test_at : {A : Type 0} (test : A → Bool) (xs : List A) (i : ℕ) (x : A) → list_all test xs ≡ true → slice_get xs i ≡ Some x → test x ≡ true
test_at test [] i x all e = absurd cc
test_at {A} test (y ∷ ys) zero x all e = ap test (sym (some_is {A = A} y x e)) ∙ (both_true (test y) (list_all test ys) all).0
test_at test (y ∷ ys) (suc i) x all e = test_at test ys i x (both_true (test y) (list_all test ys) all).1 e

-- an entry of a table names types of the table and is in order
pub entry_formed : (table : List Entry) (i : ℕ) (entry : Entry) → IsTrue (is_table table) → slice_get table i ≡ Some entry
    → (names_inside (length table) entry ≡ true) × (is_ordered entry ≡ true)
entry_formed table i entry formed is =
    let each = both_true (nat_le (length table) 10000) (list_all (is_well_formed table) table) formed in
    let well = test_at (is_well_formed table) table i entry each.1 is in
    both_true (names_inside (length table) entry) (is_ordered entry) (both_true (names_inside (length table) entry && is_ordered entry) (has_funcs table entry) well).0

pub entry_ordered : (table : List Entry) (i : ℕ) (entry : Entry) → IsTrue (is_table table) → slice_get table i ≡ Some entry → is_ordered entry ≡ true
entry_ordered table i entry formed is = (entry_formed table i entry formed is).1

-- a table has at most 10,000 entries
pub table_small : (table : List Entry) → IsTrue (is_table table) → length table ≤ 10000
table_small table formed = omega (arith, leb-true (length table) 10000 (both_true (nat_le (length table) 10000) (list_all (is_well_formed table) table) formed).0)

rising_below : (least : ℕ) (ids : List ℕ) → least ≤ 2 ^ 32 → ids_rise_from least ids ≡ true → least + length ids ≤ 2 ^ 32
rising_below least [] low e = omega arith
rising_below least (id ∷ ids) low e =
    let parts = both_true (nat_le least id && nat_lt id (2 ^ 32)) (ids_rise_from (suc id) ids) e in
    let here = both_true (nat_le least id) (nat_lt id (2 ^ 32)) parts.0 in
    let from : least ≤ id = leb-true _ _ here.0 in
    let below : id < 2 ^ 32 = ltb-true _ _ here.1 in
    let more : suc id + length ids ≤ 2 ^ 32 = rising_below (suc id) ids (omega arith) parts.1 in
    omega arith

-- ids that rise below 2^32 are at most 2^32
pub few_ids : (fields : List (ℕ × TyRef)) → ids_rise_from 0 (map (λ f. f.0) fields) ≡ true → length fields ≤ 2 ^ 32
few_ids fields e = omega (arith, rising_below 0 (map (λ f. f.0) fields) (omega arith) e, length-map fields (λ (f : ℕ × TyRef). f.0))
