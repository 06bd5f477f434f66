-- Entries without a fault are a table.
use Rattle.std.proofs.Common.{◌≡◌, ℕ, suc, Bool, true, false, cond, List, [], ◌∷◌, length, Option, Some, None, refl, ltb-false, le-leb}
use Rattle.std.proofs.lemmas.Bool.{leb-true, le-ltb}
use Rattle.std.specs.Prelude.{IsTrue, nat_lt, nat_le, ◌&&◌}
use Rattle.std.specs.List.{list_all}
use Rattle.std.specs.Option.{option_or}
use Rattle.cd_types.specs.declared.entry.Entry.{Entry}
use Rattle.cd_types.specs.declared.table.TableFault.{TableFault}
use Rattle.cd_types.specs.declared.table.TableFault.TheVariants.{TooMany, BadIndex, Order, NotFunc}
use Rattle.cd_types.specs.IsOrdered.{is_ordered}
use Rattle.cd_types.specs.IsTable.{names_inside, has_funcs, is_well_formed, is_table}
use Rattle.cd_types.specs.FaultOf.{entry_fault, least_fault, fault_of}

none_of_tests : (inside ordered funcs : Bool) (place : ℕ) → cond inside (cond ordered (cond funcs None (Some (NotFunc place))) (Some (Order place))) (Some (BadIndex place)) ≡ None → (inside && ordered && funcs) ≡ true
none_of_tests true true true place e = refl
none_of_tests true true false place e = cc
none_of_tests true false funcs place e = cc
none_of_tests false ordered funcs place e = cc

none_of_or : (a b : Option TableFault) → option_or a b ≡ None → (a ≡ None) × (b ≡ None)
none_of_or None b e = (refl, e)
none_of_or (Some f) b e = cc

both : (a b : Bool) → a ≡ true → b ≡ true → (a && b) ≡ true
both a b p q = rw (p, q)

none_of_entries : (entries more : List Entry) (place : ℕ) → least_fault entries place more ≡ None → list_all (is_well_formed entries) more ≡ true
none_of_entries entries [] place e = refl
none_of_entries entries (entry ∷ more) place e =
    let parts = none_of_or (entry_fault entries place entry) (least_fault entries (suc place) more) e in
    both (is_well_formed entries entry) (list_all (is_well_formed entries) more)
    (none_of_tests (names_inside (length entries) entry) (is_ordered entry) (has_funcs entries entry) place parts.0)
    (none_of_entries entries more (suc place) parts.1)

count_of_tests : (few : Bool) (rest : Option TableFault) → cond few (Some TooMany) rest ≡ None → (few ≡ false) × (rest ≡ None)
count_of_tests true rest e = cc
count_of_tests false rest e = (refl, e)

pub is_table_without_fault : (entries : List Entry) → fault_of entries ≡ None → IsTrue (is_table entries)
is_table_without_fault entries e =
    let parts = count_of_tests (nat_lt 10000 (length entries)) (least_fault entries 0 entries) e in
    both (nat_le (length entries) 10000) (list_all (is_well_formed entries) entries) (le-leb _ _ (ltb-false _ _ parts.0)) (none_of_entries entries entries 0 parts.1)

some_of_tests : (inside ordered funcs : Bool) (place : ℕ) → (inside && ordered && funcs) ≡ true → cond inside (cond ordered (cond funcs None (Some (NotFunc place))) (Some (Order place))) (Some (BadIndex place)) ≡ None
some_of_tests true true true place e = refl
some_of_tests true true false place e = absurd cc
some_of_tests true false funcs place e = absurd cc
some_of_tests false ordered funcs place e = absurd cc

pub both_true : (a b : Bool) → (a && b) ≡ true → (a ≡ true) × (b ≡ true)
both_true true b e = (refl, e)
both_true false b e = absurd cc

no_fault_of_entries : (entries more : List Entry) (place : ℕ) → list_all (is_well_formed entries) more ≡ true → least_fault entries place more ≡ None
no_fault_of_entries entries [] place e = refl
no_fault_of_entries entries (entry ∷ more) place e =
    let parts = both_true (is_well_formed entries entry) (list_all (is_well_formed entries) more) e in
    let first : entry_fault entries place entry ≡ None = some_of_tests (names_inside (length entries) entry) (is_ordered entry) (has_funcs entries entry) place parts.0 in
    rw first (no_fault_of_entries entries more (suc place) parts.1)

no_fault_of_table : (entries : List Entry) → is_table entries ≡ true → fault_of entries ≡ None
no_fault_of_table entries e =
    let parts = both_true (nat_le (length entries) 10000) (list_all (is_well_formed entries) entries) e in
    let few : nat_lt 10000 (length entries) ≡ false = le-ltb _ _ (leb-true _ _ parts.0) in
    rw few (no_fault_of_entries entries entries 0 parts.1)

decided : (table : Bool) (faults : Option TableFault) (fault : TableFault) → (table ≡ true → faults ≡ None) → faults ≡ Some fault → table ≡ false
decided true faults fault law e = let none = law refl in absurd cc
decided false faults fault law e = refl

pub no_table_with_fault : (entries : List Entry) (fault : TableFault) → fault_of entries ≡ Some fault → is_table entries ≡ false
no_table_with_fault entries fault e = decided (is_table entries) (fault_of entries) fault (no_fault_of_table entries) e
