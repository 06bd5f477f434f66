-- Types are read exactly.
use Rattle.std.proofs.Common.{◌≡◌, ℕ, Bool, true, false, List, ◌∷◌, Option, Some, None, refl, sym, subst}
use Rattle.ic_base.specs.Reader.{map_at}
use Rattle.ic_base.specs.Spelling.{Spelling}
use Rattle.ic_base.specs.Exact.{Exact}
use Rattle.ic_base.proofs.Exact.{reworded, map_exact}
use Rattle.wm_tree.specs.declared.types.ValType.{ValType}
use Rattle.wm_tree.specs.declared.types.FuncType.{FuncType}
use Rattle.wm_tree.specs.declared.types.Limits.{Limits}
use Rattle.wm_decode.specs.Values.{SpellsU32, SpellsPair, SpellsList, Coded, lookup}
use Rattle.wm_decode.specs.Types.{val_types, block_types, mutabilities, SpellsValType, SpellsBlockType, SpellsFuncType, SpellsRange, SpellsLimits, SpellsTableType, SpellsGlobalType}
use Rattle.wm_decode.specs.Readers.{u32_at, pair_at, list_at, coded_at, val_type_at, block_type_at, func_type_at, bounds, range_at, limits_at, table_type_at, global_type_at}
use Rattle.wm_decode.proofs.ExactValues.{u32_exact, pair_exact, list_exact, carried, after_exact, Chosen, chosen_exact, found_in, coded_exact}

pub val_type_exact : (float : Bool) → Exact (SpellsValType float) (val_type_at float)
unfolding val_type_at
val_type_exact float = coded_exact (val_types float)

pub block_type_exact : (float : Bool) → Exact (SpellsBlockType float) (block_type_at float)
unfolding block_type_at
block_type_exact float = coded_exact (block_types float)

pub func_type_exact : (float : Bool) → Exact (SpellsFuncType float) (func_type_at float)
unfolding func_type_at
func_type_exact float =
    let types = list_exact (SpellsValType float) (val_type_at float) (val_type_exact float) in
    let both = pair_exact (SpellsList (SpellsValType float)) (SpellsList (SpellsValType float)) (list_at (val_type_at float)) (list_at (val_type_at float)) types types in
    let from : FuncType → List ValType × List ValType = λ t. (t.params, t.results) in
    let to : List ValType × List ValType → FuncType = λ p. record { params = p.0; results = p.1 } in
    after_exact 0x60 (λ t. SpellsPair (SpellsList (SpellsValType float)) (SpellsList (SpellsValType float)) (from t))
    (map_at to (pair_at (list_at (val_type_at float)) (list_at (val_type_at float))))
    (carried (SpellsPair (SpellsList (SpellsValType float)) (SpellsList (SpellsValType float)))
    (pair_at (list_at (val_type_at float)) (list_at (val_type_at float))) to from (λ _. refl) (λ _. refl) both)

-- limits with or without a most
abbrev Ranged : Bool → Spelling Limits
Ranged false l bytes = (min : ℕ) × (record { min = min; max = None } ≡ l) × SpellsU32 min bytes
Ranged true l bytes = (p : ℕ × ℕ) × (record { min = p.0; max = Some p.1 } ≡ l) × SpellsPair SpellsU32 SpellsU32 p bytes

ranged_exact : (most : Bool) → Exact (Ranged most) (range_at most)
ranged_exact false = map_exact SpellsU32 u32_at (λ min. record { min = min; max = None }) u32_exact
ranged_exact true =
    map_exact (SpellsPair SpellsU32 SpellsU32) (pair_at u32_at u32_at) (λ p. record { min = p.0; max = Some p.1 })
    (pair_exact SpellsU32 SpellsU32 u32_at u32_at u32_exact u32_exact)

range_chosen : (min : ℕ) (max : Option ℕ) (bytes : List ℕ) → SpellsRange min max bytes
    → Chosen (λ b. lookup b bounds) Ranged (record { min = min; max = max }) bytes
range_chosen min None bytes p =
    record { byte = 0x00; row = false; found = refl; spelled = record { rest = p.rest; whole = p.whole; behind = (min, refl, p.behind) } }
range_chosen min (Some max) bytes p =
    record { byte = 0x01; row = true; found = refl; spelled = record { rest = p.rest; whole = p.whole; behind = ((min, max), refl, p.behind) } }

chosen_range : (l : Limits) (bytes : List ℕ) → Chosen (λ b. lookup b bounds) Ranged l bytes → SpellsLimits l bytes
chosen_range l bytes p =
    subst (SpellsLimits l) (sym p.spelled.whole)
    (found_in (λ b most. (rest : List ℕ) → Ranged most l rest → SpellsLimits l (b ∷ rest)) bounds (
      λ rest q. subst (λ (k : Limits). SpellsLimits k (0x00 ∷ rest)) q.1 (record { rest = rest; whole = refl; behind = q.2 }),
      (λ rest q. subst (λ (k : Limits). SpellsLimits k (0x01 ∷ rest)) q.1 (record { rest = rest; whole = refl; behind = q.2 }), tt),
    )
    p.byte p.row p.found p.spelled.rest p.spelled.behind)

pub limits_exact : Exact SpellsLimits limits_at
unfolding limits_at
limits_exact =
    reworded (Chosen (λ b. lookup b bounds) Ranged) SpellsLimits limits_at (λ l bytes p. range_chosen l.min l.max bytes p) chosen_range
    (chosen_exact (λ b. lookup b bounds) Ranged range_at ranged_exact)

pub table_type_exact : Exact SpellsTableType table_type_at
unfolding table_type_at
table_type_exact = after_exact 0x70 SpellsLimits limits_at limits_exact

pub global_type_exact : (float : Bool) → Exact (SpellsGlobalType float) (global_type_at float)
unfolding global_type_at
global_type_exact float =
    carried (SpellsPair (SpellsValType float) (Coded mutabilities)) (pair_at (val_type_at float) (coded_at mutabilities))
    (λ p. record { kind = p.0; mutable = p.1 }) (λ g. (g.kind, g.mutable)) (λ _. refl) (λ _. refl)
    (pair_exact (SpellsValType float) (Coded mutabilities) (val_type_at float) (coded_at mutabilities) (val_type_exact float) (coded_exact mutabilities))
