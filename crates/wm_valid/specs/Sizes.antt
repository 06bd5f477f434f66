-- The sizes that this profile admits: of a table, of a memory and of a function's frame.
use Rattle.std.specs.Prelude.{ℕ, Bool, List, [], ◌∷◌, ◌+◌, length, Option, Some, None, nat_le, slice_get, option_map, sum_by}
use Rattle.std.specs.List.{list_all}
use Rattle.wm_tree.specs.declared.types.FuncType.{FuncType}
use Rattle.wm_tree.specs.declared.parts.FuncCode.{FuncCode}
use Rattle.wm_tree.specs.declared.parts.Module.{Module}
use Rattle.wm_valid.specs.declared.invalid.Invalid.{Invalid}
use Rattle.wm_valid.specs.declared.invalid.Invalid.TheVariants as fault
use Rattle.wm_valid.specs.Indices.{first_failing}
use Rattle.wm_valid.specs.Bodies.{definitions}

-- at most 65,536 entries at first
abbrev pub tables_fit : Module → Bool
tables_fit m = list_all (λ l. nat_le l.min 65536) m.tables

-- at most 256 pages at first
abbrev pub memories_fit : Module → Bool
memories_fit m = list_all (λ l. nat_le l.min 256) m.memories

abbrev pub count_of_params : Option FuncType → ℕ
count_of_params None = 0
count_of_params (Some t) = length t.params

-- how many parameters and locals a function has whose type has that index
abbrev pub frame_size : List FuncType → ℕ × FuncCode → ℕ
frame_size types f = count_of_params (slice_get types f.0) + sum_by (λ r. r.count) f.1.locals

-- at most 10,000 parameters and locals
abbrev pub frames_fit : Module → Bool
frames_fit m = list_all (λ f. nat_le (frame_size m.types f) 10000) (definitions m)

abbrev pub size_fault : Module → Option Invalid
size_fault m = option_map (λ s. fault.Size s) (first_failing (
    (4, tables_fit m) ∷
    (5, memories_fit m) ∷
    (10, frames_fit m) ∷
    []))
