-- The table of instructions (WebAssembly Core 1.0, 5.4 and 3.3; from Core 2.0 the sign extensions,
-- `memory.copy` and `memory.fill`): the opcode, the operands that follow it, and how it is typed.
use Rattle.std.specs.Prelude.{ℕ, ℤ, List, Option}
use Rattle.wm_tree.specs.declared.types.ValType.{ValType}
use Rattle.wm_tree.specs.declared.types.ValType.TheVariants.{I32, I64}
use Rattle.wm_tree.specs.declared.types.MemArg.{MemArg}
use Rattle.wm_tree.specs.declared.class.Class.{Class}
use Rattle.wm_tree.specs.declared.class.Class.TheVariants.{Opens, Turns, Closes, Fixed, Memory, Special}
use Rattle.wm_tree.specs.declared.class.Shape.TheVariants as shape
use Rattle.wm_tree.specs.declared.instr.Instr.{Instr}
use Rattle.wm_tree.specs.declared.instr.Instr.TheVariants as op
use Rattle.wm_tree.specs.Signatures.{nothing, constant, unary, binary, test, comparison, conversion, range_write, load, store}

-- what follows an opcode; a block's body, its `else` and its `end` are words of their own
pub data Operands : Type 0 where
  none : Operands
  block : Option ValType → Operands
  index : ℕ → Operands
  labels : List ℕ → ℕ → Operands
  type_index : ℕ → Operands
  memory : MemArg → Operands
  reserved : Operands
  -- the number after the prefix FC, and that many bytes 00
  prefixed : ℕ → ℕ → Operands
  number32 : ℤ → Operands
  number64 : ℤ → Operands

-- a row of the table
pub record Row : Type 0 where
  pub opcode : ℕ
  pub operands : Operands
  pub class : Class

abbrev pub row : ℕ → Operands → Class → Row
row opcode operands class = record { opcode = opcode; operands = operands; class = class }

-- the row of an instruction
abbrev pub row_of : Instr → Row
row_of op.Unreachable = row 0x00 none Special
row_of op.Nop = row 0x01 none (Fixed nothing)
row_of (op.Block t) = row 0x02 (block t) (Opens shape.Block t)
row_of (op.Loop t) = row 0x03 (block t) (Opens shape.Loop t)
row_of (op.If t) = row 0x04 (block t) (Opens shape.If t)
row_of op.Else = row 0x05 none Turns
row_of op.End = row 0x0B none Closes
row_of (op.Br l) = row 0x0C (index l) Special
row_of (op.BrIf l) = row 0x0D (index l) Special
row_of (op.BrTable ls l) = row 0x0E (labels ls l) Special
row_of op.Return = row 0x0F none Special
row_of (op.Call f) = row 0x10 (index f) Special
row_of (op.CallIndirect t) = row 0x11 (type_index t) Special
row_of op.Drop = row 0x1A none Special
row_of op.Select = row 0x1B none Special
row_of (op.LocalGet x) = row 0x20 (index x) Special
row_of (op.LocalSet x) = row 0x21 (index x) Special
row_of (op.LocalTee x) = row 0x22 (index x) Special
row_of (op.GlobalGet x) = row 0x23 (index x) Special
row_of (op.GlobalSet x) = row 0x24 (index x) Special
row_of (op.I32Load m) = row 0x28 (memory m) (load I32 m 2)
row_of (op.I64Load m) = row 0x29 (memory m) (load I64 m 3)
row_of (op.I32Load8S m) = row 0x2C (memory m) (load I32 m 0)
row_of (op.I32Load8U m) = row 0x2D (memory m) (load I32 m 0)
row_of (op.I32Load16S m) = row 0x2E (memory m) (load I32 m 1)
row_of (op.I32Load16U m) = row 0x2F (memory m) (load I32 m 1)
row_of (op.I64Load8S m) = row 0x30 (memory m) (load I64 m 0)
row_of (op.I64Load8U m) = row 0x31 (memory m) (load I64 m 0)
row_of (op.I64Load16S m) = row 0x32 (memory m) (load I64 m 1)
row_of (op.I64Load16U m) = row 0x33 (memory m) (load I64 m 1)
row_of (op.I64Load32S m) = row 0x34 (memory m) (load I64 m 2)
row_of (op.I64Load32U m) = row 0x35 (memory m) (load I64 m 2)
row_of (op.I32Store m) = row 0x36 (memory m) (store I32 m 2)
row_of (op.I64Store m) = row 0x37 (memory m) (store I64 m 3)
row_of (op.I32Store8 m) = row 0x3A (memory m) (store I32 m 0)
row_of (op.I32Store16 m) = row 0x3B (memory m) (store I32 m 1)
row_of (op.I64Store8 m) = row 0x3C (memory m) (store I64 m 0)
row_of (op.I64Store16 m) = row 0x3D (memory m) (store I64 m 1)
row_of (op.I64Store32 m) = row 0x3E (memory m) (store I64 m 2)
row_of op.MemorySize = row 0x3F reserved (Memory (constant I32))
row_of op.MemoryGrow = row 0x40 reserved (Memory (unary I32))
row_of (op.I32Const n) = row 0x41 (number32 n) (Fixed (constant I32))
row_of (op.I64Const n) = row 0x42 (number64 n) (Fixed (constant I64))
row_of op.I32Eqz = row 0x45 none (Fixed (test I32))
row_of op.I32Eq = row 0x46 none (Fixed (comparison I32))
row_of op.I32Ne = row 0x47 none (Fixed (comparison I32))
row_of op.I32LtS = row 0x48 none (Fixed (comparison I32))
row_of op.I32LtU = row 0x49 none (Fixed (comparison I32))
row_of op.I32GtS = row 0x4A none (Fixed (comparison I32))
row_of op.I32GtU = row 0x4B none (Fixed (comparison I32))
row_of op.I32LeS = row 0x4C none (Fixed (comparison I32))
row_of op.I32LeU = row 0x4D none (Fixed (comparison I32))
row_of op.I32GeS = row 0x4E none (Fixed (comparison I32))
row_of op.I32GeU = row 0x4F none (Fixed (comparison I32))
row_of op.I64Eqz = row 0x50 none (Fixed (test I64))
row_of op.I64Eq = row 0x51 none (Fixed (comparison I64))
row_of op.I64Ne = row 0x52 none (Fixed (comparison I64))
row_of op.I64LtS = row 0x53 none (Fixed (comparison I64))
row_of op.I64LtU = row 0x54 none (Fixed (comparison I64))
row_of op.I64GtS = row 0x55 none (Fixed (comparison I64))
row_of op.I64GtU = row 0x56 none (Fixed (comparison I64))
row_of op.I64LeS = row 0x57 none (Fixed (comparison I64))
row_of op.I64LeU = row 0x58 none (Fixed (comparison I64))
row_of op.I64GeS = row 0x59 none (Fixed (comparison I64))
row_of op.I64GeU = row 0x5A none (Fixed (comparison I64))
row_of op.I32Clz = row 0x67 none (Fixed (unary I32))
row_of op.I32Ctz = row 0x68 none (Fixed (unary I32))
row_of op.I32Popcnt = row 0x69 none (Fixed (unary I32))
row_of op.I32Add = row 0x6A none (Fixed (binary I32))
row_of op.I32Sub = row 0x6B none (Fixed (binary I32))
row_of op.I32Mul = row 0x6C none (Fixed (binary I32))
row_of op.I32DivS = row 0x6D none (Fixed (binary I32))
row_of op.I32DivU = row 0x6E none (Fixed (binary I32))
row_of op.I32RemS = row 0x6F none (Fixed (binary I32))
row_of op.I32RemU = row 0x70 none (Fixed (binary I32))
row_of op.I32And = row 0x71 none (Fixed (binary I32))
row_of op.I32Or = row 0x72 none (Fixed (binary I32))
row_of op.I32Xor = row 0x73 none (Fixed (binary I32))
row_of op.I32Shl = row 0x74 none (Fixed (binary I32))
row_of op.I32ShrS = row 0x75 none (Fixed (binary I32))
row_of op.I32ShrU = row 0x76 none (Fixed (binary I32))
row_of op.I32Rotl = row 0x77 none (Fixed (binary I32))
row_of op.I32Rotr = row 0x78 none (Fixed (binary I32))
row_of op.I64Clz = row 0x79 none (Fixed (unary I64))
row_of op.I64Ctz = row 0x7A none (Fixed (unary I64))
row_of op.I64Popcnt = row 0x7B none (Fixed (unary I64))
row_of op.I64Add = row 0x7C none (Fixed (binary I64))
row_of op.I64Sub = row 0x7D none (Fixed (binary I64))
row_of op.I64Mul = row 0x7E none (Fixed (binary I64))
row_of op.I64DivS = row 0x7F none (Fixed (binary I64))
row_of op.I64DivU = row 0x80 none (Fixed (binary I64))
row_of op.I64RemS = row 0x81 none (Fixed (binary I64))
row_of op.I64RemU = row 0x82 none (Fixed (binary I64))
row_of op.I64And = row 0x83 none (Fixed (binary I64))
row_of op.I64Or = row 0x84 none (Fixed (binary I64))
row_of op.I64Xor = row 0x85 none (Fixed (binary I64))
row_of op.I64Shl = row 0x86 none (Fixed (binary I64))
row_of op.I64ShrS = row 0x87 none (Fixed (binary I64))
row_of op.I64ShrU = row 0x88 none (Fixed (binary I64))
row_of op.I64Rotl = row 0x89 none (Fixed (binary I64))
row_of op.I64Rotr = row 0x8A none (Fixed (binary I64))
row_of op.I32WrapI64 = row 0xA7 none (Fixed (conversion I64 I32))
row_of op.I64ExtendI32S = row 0xAC none (Fixed (conversion I32 I64))
row_of op.I64ExtendI32U = row 0xAD none (Fixed (conversion I32 I64))
row_of op.I32Extend8S = row 0xC0 none (Fixed (unary I32))
row_of op.I32Extend16S = row 0xC1 none (Fixed (unary I32))
row_of op.I64Extend8S = row 0xC2 none (Fixed (unary I64))
row_of op.I64Extend16S = row 0xC3 none (Fixed (unary I64))
row_of op.I64Extend32S = row 0xC4 none (Fixed (unary I64))
row_of op.MemoryCopy = row 0xFC (prefixed 10 2) (Memory range_write)
row_of op.MemoryFill = row 0xFC (prefixed 11 1) (Memory range_write)
