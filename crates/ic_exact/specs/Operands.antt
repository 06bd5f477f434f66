-- What follows an opcode, as the program holds it (WebAssembly Core 1.0, 5.4). No standard has this.
use Rattle.wm_tree.specs.Row as row
use Rattle.ic_exact.specs.declared.instructions.Operands.{Operands}
use Rattle.ic_exact.specs.declared.instructions.Operands.TheVariants.{Nothing, Block, Index, Labels, TypeIndex, Memory, Reserved, Prefixed, Number32, Number64}

abbrev pub operands_seen : Operands → row.Operands
operands_seen Nothing = row.none
operands_seen (Block t) = row.block t
operands_seen (Index x) = row.index x
operands_seen (Labels xs x) = row.labels xs.now x
operands_seen (TypeIndex x) = row.type_index x
operands_seen (Memory m) = row.memory m
operands_seen Reserved = row.reserved
operands_seen (Prefixed k zeros) = row.prefixed k zeros
operands_seen (Number32 z) = row.number32 z
operands_seen (Number64 z) = row.number64 z
