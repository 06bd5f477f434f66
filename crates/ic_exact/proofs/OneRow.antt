-- An instruction is known by its opcode and the operands that follow it.
use Rattle.std.proofs.Common.{◌≡◌, ℕ, ◌==◌, List, [], ◌∷◌, Option, Some, find, if◌then◌else◌, refl, sym, ap₂, ◌∙◌}
use Rattle.wm_tree.specs.declared.instr.Instr.{Instr}
use Rattle.wm_tree.specs.declared.instr.Instr.TheVariants as op
use Rattle.wm_tree.specs.Row.{Operands, none, block, index, labels, type_index, memory, reserved, prefixed, number32, number64, row_of}

-- those without operands
abbrev plain : List Instr
plain =
    op.Unreachable ∷ op.Nop ∷ op.Else ∷ op.End ∷ op.Return ∷ op.Drop ∷ op.Select ∷ op.I32Eqz ∷ op.I32Eq ∷ op.I32Ne ∷ op.I32LtS ∷ op.I32LtU ∷
    op.I32GtS ∷ op.I32GtU ∷ op.I32LeS ∷ op.I32LeU ∷ op.I32GeS ∷ op.I32GeU ∷ op.I64Eqz ∷ op.I64Eq ∷ op.I64Ne ∷ op.I64LtS ∷ op.I64LtU ∷ op.I64GtS ∷
    op.I64GtU ∷ op.I64LeS ∷ op.I64LeU ∷ op.I64GeS ∷ op.I64GeU ∷ op.I32Clz ∷ op.I32Ctz ∷ op.I32Popcnt ∷ op.I32Add ∷ op.I32Sub ∷ op.I32Mul ∷
    op.I32DivS ∷ op.I32DivU ∷ op.I32RemS ∷ op.I32RemU ∷ op.I32And ∷ op.I32Or ∷ op.I32Xor ∷ op.I32Shl ∷ op.I32ShrS ∷ op.I32ShrU ∷ op.I32Rotl ∷
    op.I32Rotr ∷ op.I64Clz ∷ op.I64Ctz ∷ op.I64Popcnt ∷ op.I64Add ∷ op.I64Sub ∷ op.I64Mul ∷ op.I64DivS ∷ op.I64DivU ∷ op.I64RemS ∷ op.I64RemU ∷
    op.I64And ∷ op.I64Or ∷ op.I64Xor ∷ op.I64Shl ∷ op.I64ShrS ∷ op.I64ShrU ∷ op.I64Rotl ∷ op.I64Rotr ∷ op.I32WrapI64 ∷ op.I64ExtendI32S ∷
    op.I64ExtendI32U ∷ op.I32Extend8S ∷ op.I32Extend16S ∷ op.I64Extend8S ∷ op.I64Extend16S ∷ op.I64Extend32S ∷ []

abbrev named : ℕ → List Instr → Option Instr
named n words = find (λ w. (row_of w).opcode == n) words

-- the instruction of an opcode and operands
abbrev word : ℕ → Operands → Option Instr
word n none = named n plain
word n (block t) = named n (op.Block t ∷ op.Loop t ∷ op.If t ∷ [])
word n (index x) = named n (op.Br x ∷ op.BrIf x ∷ op.Call x ∷ op.LocalGet x ∷ op.LocalSet x ∷ op.LocalTee x ∷ op.GlobalGet x ∷ op.GlobalSet x ∷ [])
word n (labels xs x) = Some (op.BrTable xs x)
word n (type_index x) = Some (op.CallIndirect x)
word n (memory m) = named n (
    op.I32Load m ∷ op.I64Load m ∷ op.I32Load8S m ∷ op.I32Load8U m ∷ op.I32Load16S m ∷ op.I32Load16U m ∷ op.I64Load8S m ∷ op.I64Load8U m ∷
    op.I64Load16S m ∷ op.I64Load16U m ∷ op.I64Load32S m ∷ op.I64Load32U m ∷ op.I32Store m ∷ op.I64Store m ∷ op.I32Store8 m ∷ op.I32Store16 m ∷
    op.I64Store8 m ∷ op.I64Store16 m ∷ op.I64Store32 m ∷ [])
word n reserved = named n (op.MemorySize ∷ op.MemoryGrow ∷ [])
word n (prefixed k zeros) = if k == 10 then Some op.MemoryCopy else Some op.MemoryFill
word n (number32 z) = Some (op.I32Const z)
word n (number64 z) = Some (op.I64Const z)

back : (w : Instr) → word (row_of w).opcode (row_of w).operands ≡ Some w
back op.Unreachable = refl
back op.Nop = refl
back (op.Block t) = refl
back (op.Loop t) = refl
back (op.If t) = refl
back op.Else = refl
back op.End = refl
back (op.Br l) = refl
back (op.BrIf l) = refl
back (op.BrTable ls l) = refl
back op.Return = refl
back (op.Call f) = refl
back (op.CallIndirect t) = refl
back op.Drop = refl
back op.Select = refl
back (op.LocalGet x) = refl
back (op.LocalSet x) = refl
back (op.LocalTee x) = refl
back (op.GlobalGet x) = refl
back (op.GlobalSet x) = refl
back (op.I32Load m) = refl
back (op.I64Load m) = refl
back (op.I32Load8S m) = refl
back (op.I32Load8U m) = refl
back (op.I32Load16S m) = refl
back (op.I32Load16U m) = refl
back (op.I64Load8S m) = refl
back (op.I64Load8U m) = refl
back (op.I64Load16S m) = refl
back (op.I64Load16U m) = refl
back (op.I64Load32S m) = refl
back (op.I64Load32U m) = refl
back (op.I32Store m) = refl
back (op.I64Store m) = refl
back (op.I32Store8 m) = refl
back (op.I32Store16 m) = refl
back (op.I64Store8 m) = refl
back (op.I64Store16 m) = refl
back (op.I64Store32 m) = refl
back op.MemorySize = refl
back op.MemoryGrow = refl
back (op.I32Const n) = refl
back (op.I64Const n) = refl
back op.I32Eqz = refl
back op.I32Eq = refl
back op.I32Ne = refl
back op.I32LtS = refl
back op.I32LtU = refl
back op.I32GtS = refl
back op.I32GtU = refl
back op.I32LeS = refl
back op.I32LeU = refl
back op.I32GeS = refl
back op.I32GeU = refl
back op.I64Eqz = refl
back op.I64Eq = refl
back op.I64Ne = refl
back op.I64LtS = refl
back op.I64LtU = refl
back op.I64GtS = refl
back op.I64GtU = refl
back op.I64LeS = refl
back op.I64LeU = refl
back op.I64GeS = refl
back op.I64GeU = refl
back op.I32Clz = refl
back op.I32Ctz = refl
back op.I32Popcnt = refl
back op.I32Add = refl
back op.I32Sub = refl
back op.I32Mul = refl
back op.I32DivS = refl
back op.I32DivU = refl
back op.I32RemS = refl
back op.I32RemU = refl
back op.I32And = refl
back op.I32Or = refl
back op.I32Xor = refl
back op.I32Shl = refl
back op.I32ShrS = refl
back op.I32ShrU = refl
back op.I32Rotl = refl
back op.I32Rotr = refl
back op.I64Clz = refl
back op.I64Ctz = refl
back op.I64Popcnt = refl
back op.I64Add = refl
back op.I64Sub = refl
back op.I64Mul = refl
back op.I64DivS = refl
back op.I64DivU = refl
back op.I64RemS = refl
back op.I64RemU = refl
back op.I64And = refl
back op.I64Or = refl
back op.I64Xor = refl
back op.I64Shl = refl
back op.I64ShrS = refl
back op.I64ShrU = refl
back op.I64Rotl = refl
back op.I64Rotr = refl
back op.I32WrapI64 = refl
back op.I64ExtendI32S = refl
back op.I64ExtendI32U = refl
back op.I32Extend8S = refl
back op.I32Extend16S = refl
back op.I64Extend8S = refl
back op.I64Extend16S = refl
back op.I64Extend32S = refl
back op.MemoryCopy = refl
back op.MemoryFill = refl

pub one_row : (a b : Instr) → (row_of a).opcode ≡ (row_of b).opcode → (row_of a).operands ≡ (row_of b).operands → a ≡ b
one_row a b opcode operands = let same : Some a ≡ Some b = sym (back a) ∙ ap₂ word opcode operands ∙ back b in cc
