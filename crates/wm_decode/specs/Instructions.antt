-- Instructions and expressions (WebAssembly Core 1.0, 5.4; Core 2.0, 5.4), by the table `row_of` of
-- `wm_tree`.
use Rattle.std.specs.Prelude.{◌≡◌, ℕ, Bool, true, List, [], ◌∷◌, ◌++◌, length, replicate, Option, Some, None, nat_eq, nat_le, ◌&&◌, ◌||◌, cond, ◌⊎◌}
use Rattle.ic_base.specs.Spelling.{Spelling, SpellsMany}
use Rattle.ic_leb.specs.declared.width.Width.TheVariants.{Wasm32, Wasm64}
use Rattle.ic_leb.specs.Spells.{SpellsSigned}
use Rattle.wm_tree.specs.declared.types.MemArg.{MemArg}
use Rattle.wm_tree.specs.declared.instr.Instr.{Instr}
use Rattle.wm_tree.specs.declared.instr.Instr.TheVariants as op
use Rattle.wm_tree.specs.Row.{Operands, none, block, index, labels, type_index, memory, reserved, prefixed, number32, number64, row_of}
use Rattle.wm_tree.specs.Seq.{IsFlat}
use Rattle.wm_decode.specs.declared.floats.FloatOperands.{FloatOperands}
use Rattle.wm_decode.specs.declared.floats.FloatOperands.TheVariants as floating
use Rattle.wm_decode.specs.Values.{SpellsU32, SpellsList, SpellsPair, After}
use Rattle.wm_decode.specs.Types.{SpellsBlockType}

-- the byte 00, where later versions of the standard have the memory's index
abbrev pub SpellsZero : Spelling ℕ
SpellsZero n bytes = (n ≡ 0) × (bytes ≡ 0x00 ∷ [])

-- that many bytes 00
abbrev pub SpellsZeros : Spelling ℕ
SpellsZeros n bytes = bytes ≡ replicate n 0x00

-- the index of the one table
abbrev pub SpellsTable : Spelling ℕ
SpellsTable n bytes = (n ≡ 0) × SpellsU32 n bytes

-- an alignment and an offset
abbrev pub SpellsMemArg : Spelling MemArg
SpellsMemArg m = SpellsPair SpellsU32 SpellsU32 (m.align, m.offset)

-- what follows the opcode
abbrev pub SpellsOperands : Bool → Spelling Operands
SpellsOperands float none bytes = bytes ≡ []
SpellsOperands float (block t) bytes = SpellsBlockType float t bytes
SpellsOperands float (index n) bytes = SpellsU32 n bytes
SpellsOperands float (labels ls l) bytes = SpellsPair (SpellsList SpellsU32) SpellsU32 (ls, l) bytes
SpellsOperands float (type_index n) bytes = SpellsPair SpellsU32 SpellsTable (n, 0) bytes
SpellsOperands float (memory m) bytes = SpellsMemArg m bytes
SpellsOperands float reserved bytes = SpellsZero 0 bytes
SpellsOperands float (prefixed n zeros) bytes = SpellsPair SpellsU32 SpellsZeros (n, zeros) bytes
SpellsOperands float (number32 z) bytes = SpellsSigned Wasm32 z bytes
SpellsOperands float (number64 z) bytes = SpellsSigned Wasm64 z bytes

-- whether a number is one of these
abbrev pub is_within : ℕ → ℕ → ℕ → Bool
is_within low high n = nat_le low n && nat_le n high

-- the float instructions by their opcodes
abbrev pub float_operands : ℕ → Option FloatOperands
float_operands o =
    cond (is_within 0x2A 0x2B o || is_within 0x38 0x39 o) (Some floating.Address)
    (cond (nat_eq o 0x43) (Some (floating.Constant 4))
    (cond (nat_eq o 0x44) (Some (floating.Constant 8))
    (cond (is_within 0x5B 0x66 o || is_within 0x8B 0xA6 o || is_within 0xA8 0xAB o || is_within 0xAE 0xBF o) (Some floating.Nothing)
    None)))

-- what follows the opcode: nothing, an alignment and an offset, or that many bytes
abbrev pub SpellsFloatOperands : FloatOperands → List ℕ → Type 0
SpellsFloatOperands floating.Nothing bytes = bytes ≡ []
SpellsFloatOperands floating.Address bytes = (m : MemArg) × SpellsMemArg m bytes
SpellsFloatOperands (floating.Constant n) bytes = length bytes ≡ n

-- a float instruction, for which `unreachable` stands
pub record SpellsFloat (i : Instr) (bytes : List ℕ) : Type 0 where
  pub stands : i ≡ op.Unreachable
  pub opcode : ℕ
  pub operands : FloatOperands
  pub found : float_operands opcode ≡ Some operands
  pub spelled : After opcode (SpellsFloatOperands operands) bytes

-- a word: an instruction by its row, or a float instruction where these are admitted
abbrev pub SpellsWord : Bool → Spelling Instr
SpellsWord float i bytes =
    After (row_of i).opcode (SpellsOperands float (row_of i).operands) bytes ⊎ ((float ≡ true) × SpellsFloat i bytes)

-- an expression: the words of nested blocks, and the byte 0B that ends them
pub record SpellsExpr (float : Bool) (words : List Instr) (bytes : List ℕ) : Type 0 where
  pub flat : IsFlat words
  pub front : List ℕ
  pub whole : bytes ≡ front ++ 0x0B ∷ []
  pub spelled : SpellsMany (SpellsWord float) words front
