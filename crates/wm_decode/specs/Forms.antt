-- The table of instructions by opcode: what is made of the operands that follow. It is the table of
-- `wm_tree` in the other direction.
use Rattle.std.specs.Prelude.{ℕ, ℤ, List, [], ◌∷◌, Option, Some, None}
use Rattle.wm_tree.specs.declared.types.ValType.{ValType}
use Rattle.wm_tree.specs.declared.types.MemArg.{MemArg}
use Rattle.wm_tree.specs.declared.instr.Instr.{Instr}
use Rattle.wm_tree.specs.declared.instr.Instr.TheVariants as op
use Rattle.wm_decode.specs.Values.{lookup}

-- the operands of an opcode, and the instruction that they make
pub data Form : Type 0 where
  plain : Instr → Form
  by_block : (Option ValType → Instr) → Form
  by_index : (ℕ → Instr) → Form
  by_labels : (List ℕ → ℕ → Instr) → Form
  by_type : (ℕ → Instr) → Form
  by_memory : (MemArg → Instr) → Form
  by_reserved : Instr → Form
  by_prefix : List (ℕ × (ℕ × Instr)) → Form
  by_32 : (ℤ → Instr) → Form
  by_64 : (ℤ → Instr) → Form

-- without operands
abbrev pub plain_rows : List (ℕ × Instr)
plain_rows =
    (0x00, op.Unreachable) ∷
    (0x01, op.Nop) ∷
    (0x05, op.Else) ∷
    (0x0B, op.End) ∷
    (0x0F, op.Return) ∷
    (0x1A, op.Drop) ∷
    (0x1B, op.Select) ∷
    (0x45, op.I32Eqz) ∷
    (0x46, op.I32Eq) ∷
    (0x47, op.I32Ne) ∷
    (0x48, op.I32LtS) ∷
    (0x49, op.I32LtU) ∷
    (0x4A, op.I32GtS) ∷
    (0x4B, op.I32GtU) ∷
    (0x4C, op.I32LeS) ∷
    (0x4D, op.I32LeU) ∷
    (0x4E, op.I32GeS) ∷
    (0x4F, op.I32GeU) ∷
    (0x50, op.I64Eqz) ∷
    (0x51, op.I64Eq) ∷
    (0x52, op.I64Ne) ∷
    (0x53, op.I64LtS) ∷
    (0x54, op.I64LtU) ∷
    (0x55, op.I64GtS) ∷
    (0x56, op.I64GtU) ∷
    (0x57, op.I64LeS) ∷
    (0x58, op.I64LeU) ∷
    (0x59, op.I64GeS) ∷
    (0x5A, op.I64GeU) ∷
    (0x67, op.I32Clz) ∷
    (0x68, op.I32Ctz) ∷
    (0x69, op.I32Popcnt) ∷
    (0x6A, op.I32Add) ∷
    (0x6B, op.I32Sub) ∷
    (0x6C, op.I32Mul) ∷
    (0x6D, op.I32DivS) ∷
    (0x6E, op.I32DivU) ∷
    (0x6F, op.I32RemS) ∷
    (0x70, op.I32RemU) ∷
    (0x71, op.I32And) ∷
    (0x72, op.I32Or) ∷
    (0x73, op.I32Xor) ∷
    (0x74, op.I32Shl) ∷
    (0x75, op.I32ShrS) ∷
    (0x76, op.I32ShrU) ∷
    (0x77, op.I32Rotl) ∷
    (0x78, op.I32Rotr) ∷
    (0x79, op.I64Clz) ∷
    (0x7A, op.I64Ctz) ∷
    (0x7B, op.I64Popcnt) ∷
    (0x7C, op.I64Add) ∷
    (0x7D, op.I64Sub) ∷
    (0x7E, op.I64Mul) ∷
    (0x7F, op.I64DivS) ∷
    (0x80, op.I64DivU) ∷
    (0x81, op.I64RemS) ∷
    (0x82, op.I64RemU) ∷
    (0x83, op.I64And) ∷
    (0x84, op.I64Or) ∷
    (0x85, op.I64Xor) ∷
    (0x86, op.I64Shl) ∷
    (0x87, op.I64ShrS) ∷
    (0x88, op.I64ShrU) ∷
    (0x89, op.I64Rotl) ∷
    (0x8A, op.I64Rotr) ∷
    (0xA7, op.I32WrapI64) ∷
    (0xAC, op.I64ExtendI32S) ∷
    (0xAD, op.I64ExtendI32U) ∷
    (0xC0, op.I32Extend8S) ∷
    (0xC1, op.I32Extend16S) ∷
    (0xC2, op.I64Extend8S) ∷
    (0xC3, op.I64Extend16S) ∷
    (0xC4, op.I64Extend32S) ∷
    []

-- loads and stores
abbrev pub memory_rows : List (ℕ × (MemArg → Instr))
memory_rows =
    (0x28, op.I32Load) ∷
    (0x29, op.I64Load) ∷
    (0x2C, op.I32Load8S) ∷
    (0x2D, op.I32Load8U) ∷
    (0x2E, op.I32Load16S) ∷
    (0x2F, op.I32Load16U) ∷
    (0x30, op.I64Load8S) ∷
    (0x31, op.I64Load8U) ∷
    (0x32, op.I64Load16S) ∷
    (0x33, op.I64Load16U) ∷
    (0x34, op.I64Load32S) ∷
    (0x35, op.I64Load32U) ∷
    (0x36, op.I32Store) ∷
    (0x37, op.I64Store) ∷
    (0x3A, op.I32Store8) ∷
    (0x3B, op.I32Store16) ∷
    (0x3C, op.I64Store8) ∷
    (0x3D, op.I64Store16) ∷
    (0x3E, op.I64Store32) ∷
    []

-- after the prefix FC: a number, the number of bytes 00 after it, and the instruction
abbrev pub prefix_rows : List (ℕ × (ℕ × Instr))
prefix_rows = (10, (2, op.MemoryCopy)) ∷ (11, (1, op.MemoryFill)) ∷ []

-- the others
abbrev pub other_rows : List (ℕ × Form)
other_rows =
    (0x02, by_block op.Block) ∷
    (0x03, by_block op.Loop) ∷
    (0x04, by_block op.If) ∷
    (0x0C, by_index op.Br) ∷
    (0x0D, by_index op.BrIf) ∷
    (0x0E, by_labels op.BrTable) ∷
    (0x10, by_index op.Call) ∷
    (0x11, by_type op.CallIndirect) ∷
    (0x20, by_index op.LocalGet) ∷
    (0x21, by_index op.LocalSet) ∷
    (0x22, by_index op.LocalTee) ∷
    (0x23, by_index op.GlobalGet) ∷
    (0x24, by_index op.GlobalSet) ∷
    (0x3F, by_reserved op.MemorySize) ∷
    (0x40, by_reserved op.MemoryGrow) ∷
    (0x41, by_32 op.I32Const) ∷
    (0x42, by_64 op.I64Const) ∷
    (0xFC, by_prefix prefix_rows) ∷
    []

-- the first of two that is there
abbrev pub or_else : {A : Type 0} → Option A → Option A → Option A
or_else (Some x) other = Some x
or_else None other = other

-- what f makes of the value that is there
abbrev pub in_some : {A B : Type 0} → (A → B) → Option A → Option B
in_some f (Some x) = Some (f x)
in_some f None = None

-- the form of an opcode that operands follow
abbrev pub operand_form : ℕ → Option Form
operand_form o = or_else (lookup o other_rows) (in_some by_memory (lookup o memory_rows))

-- the form of an opcode
abbrev pub row_form : ℕ → Option Form
row_form o = or_else (in_some plain (lookup o plain_rows)) (operand_form o)
