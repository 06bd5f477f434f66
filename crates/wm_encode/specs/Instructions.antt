-- How instructions and expressions are written (WebAssembly Core 1.0, 5.4; Core 2.0, 5.4), by the
-- table `row_of`.
use Rattle.std.specs.Prelude.{ℕ, List, [], ◌∷◌, ◌++◌, replicate}
use Rattle.std.specs.List.{flat_map}
use Rattle.ic_leb.specs.Spelling.{unsigned_spelling, signed_spelling}
use Rattle.wm_tree.specs.declared.types.MemArg.{MemArg}
use Rattle.wm_tree.specs.declared.instr.Instr.{Instr}
use Rattle.wm_tree.specs.Row.{Operands, none, block, index, labels, type_index, memory, reserved, prefixed, number32, number64, row_of}
use Rattle.wm_encode.specs.Values.{vec}
use Rattle.wm_encode.specs.Types.{block_type}

-- an alignment and an offset
abbrev pub mem_arg : MemArg → List ℕ
mem_arg m = unsigned_spelling m.align ++ unsigned_spelling m.offset

-- what follows the opcode
abbrev pub operands : Operands → List ℕ
operands none = []
operands (block t) = block_type t
operands (index n) = unsigned_spelling n
operands (labels ls l) = vec unsigned_spelling ls ++ unsigned_spelling l
operands (type_index n) = unsigned_spelling n ++ (0x00 ∷ [])
operands (memory m) = mem_arg m
operands reserved = 0x00 ∷ []
operands (prefixed n zeros) = unsigned_spelling n ++ replicate zeros 0x00
operands (number32 z) = signed_spelling z
operands (number64 z) = signed_spelling z

-- an instruction
abbrev pub word : Instr → List ℕ
word i = (row_of i).opcode ∷ operands (row_of i).operands

-- an expression: its words, and the byte 0B that ends it
abbrev pub expr : List Instr → List ℕ
expr words = flat_map word words ++ (0x0B ∷ [])
