use Rattle.std.proofs.Common.{◌≡◌, sym, ap, ◌∙◌, arith}
use Rattle.wm_tree.specs.declared.instr.Instr.{Instr}
use Rattle.wm_tree.specs.Row.{row_of}
use Rattle.ic_exact.proofs.OneRow.{one_row}
use Rattle.ic_exact.proofs.instructions.InstrSame.same.Goals as goal

pub returns-then-opcode_of : goal.returns-then-opcode_of
returns-then-opcode_of c =
    let opcode : (row_of c.args.self.now).opcode ≡ (row_of c.args.other.now).opcode = omega (arith, c.if-opcode_of.true, c.opcode_of.ensures, c.opcode_of-2.ensures) in (
      λ yes. one_row c.args.self.now c.args.other.now opcode (sym c.operands_of.ensures ∙ c.same_operands.ensures.0 yes ∙ c.operands_of-then-opcode_of.ensures),
      λ same. c.same_operands.ensures.1 (c.operands_of.ensures ∙ ap (λ (w : Instr). (row_of w).operands) same ∙ sym c.operands_of-then-opcode_of.ensures),
    )
