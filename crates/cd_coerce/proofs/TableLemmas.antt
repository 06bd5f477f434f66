-- what a well formed table says of its entries
use Rattle.std.proofs.Common.{◌≡◌, ℕ, ◌≤◌, ◌^◌, true, List, length, map, Option, Some, None, ap, IsTrue, slice_get}
use Rattle.cd_types.specs.declared.entry.TyRef.{TyRef}
use Rattle.cd_types.specs.declared.entry.TyRef.TheVariants.{Prim, Index}
use Rattle.cd_types.specs.Shape.{compound, entry_shape, shape}
use Rattle.cd_types.specs.declared.entry.Entry.{Entry}
use Rattle.cd_types.specs.declared.entry.Entry.TheVariants.{Rec, Var}
use Rattle.cd_types.specs.IsOrdered.{ids_rise_from}
use Rattle.cd_types.specs.IsTable.{is_table}
use Rattle.cd_types.proofs.EntryLemmas.{entry_ordered, few_ids}

-- the ids of a record's fields and of a variant's cases rise
pub fields_rise : (table : List Entry) (i : ℕ) (fields : List (ℕ × TyRef)) → IsTrue (is_table table) → slice_get table i ≡ Some (Rec fields) → ids_rise_from 0 (map (λ f. f.0) fields) ≡ true
fields_rise table i fields formed e = entry_ordered table i (Rec fields) formed e

pub cases_rise : (table : List Entry) (i : ℕ) (cases : List (ℕ × TyRef)) → IsTrue (is_table table) → slice_get table i ≡ Some (Var cases) → ids_rise_from 0 (map (λ f. f.0) cases) ≡ true
cases_rise table i cases formed e = entry_ordered table i (Var cases) formed e

looked_up : (o : Option Entry) (cases : List (ℕ × TyRef)) → entry_shape o ≡ compound (Var cases) → o ≡ Some (Var cases)
looked_up None cases e = absurd cc
looked_up (Some entry) cases e = let k : entry ≡ Var cases = cc in ap (λ (x : Entry). Some x) k

-- no variant of a table has more cases than there are ids
pub few_cases : (table : List Entry) → IsTrue (is_table table) → (t : TyRef) (cases : List (ℕ × TyRef)) → shape table t ≡ compound (Var cases) → length cases ≤ 2 ^ 32
few_cases table formed (Prim p) cases e = absurd cc
few_cases table formed (Index i) cases e = few_ids cases (cases_rise table i cases formed (looked_up (slice_get table i) cases e))
