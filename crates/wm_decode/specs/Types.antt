-- Types (WebAssembly Core 1.0, 5.3). Where float forms are admitted, f32 and f64 stand for i32.
use Rattle.std.specs.Prelude.{ℕ, Bool, true, false, List, [], ◌∷◌, Option, Some, None, map, cond}
use Rattle.ic_base.specs.Spelling.{Spelling}
use Rattle.wm_tree.specs.declared.types.ValType.{ValType}
use Rattle.wm_tree.specs.declared.types.ValType.TheVariants.{I32, I64}
use Rattle.wm_tree.specs.declared.types.FuncType.{FuncType}
use Rattle.wm_tree.specs.declared.types.Limits.{Limits}
use Rattle.wm_tree.specs.declared.types.GlobalType.{GlobalType}
use Rattle.wm_decode.specs.Values.{SpellsU32, SpellsList, SpellsPair, After, Coded}

-- value types
abbrev pub val_types : Bool → List (ℕ × ValType)
val_types float = (0x7F, I32) ∷ (0x7E, I64) ∷ cond float ((0x7D, I32) ∷ (0x7C, I32) ∷ []) []

abbrev pub SpellsValType : Bool → Spelling ValType
SpellsValType float = Coded (val_types float)

-- block types: no result, or one
abbrev pub block_types : Bool → List (ℕ × Option ValType)
block_types float = (0x40, None) ∷ map (λ row. (row.0, Some row.1)) (val_types float)

abbrev pub SpellsBlockType : Bool → Spelling (Option ValType)
SpellsBlockType float = Coded (block_types float)

-- function types: parameters, results
abbrev pub SpellsFuncType : Bool → Spelling FuncType
SpellsFuncType float t =
    After 0x60 (SpellsPair (SpellsList (SpellsValType float)) (SpellsList (SpellsValType float)) (t.params, t.results))

-- limits: the least, and perhaps the most
abbrev pub SpellsRange : ℕ → Option ℕ → List ℕ → Type 0
SpellsRange min None = After 0x00 (SpellsU32 min)
SpellsRange min (Some max) = After 0x01 (SpellsPair SpellsU32 SpellsU32 (min, max))

abbrev pub SpellsLimits : Spelling Limits
SpellsLimits l = SpellsRange l.min l.max

-- table types: functions alone
abbrev pub SpellsTableType : Spelling Limits
SpellsTableType l = After 0x70 (SpellsLimits l)

-- global types
abbrev pub mutabilities : List (ℕ × Bool)
mutabilities = (0x00, false) ∷ (0x01, true) ∷ []

abbrev pub SpellsGlobalType : Bool → Spelling GlobalType
SpellsGlobalType float g = SpellsPair (SpellsValType float) (Coded mutabilities) (g.kind, g.mutable)
