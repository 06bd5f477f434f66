use Rattle.std.proofs.Common.{ap, ◌∙◌}
use Rattle.ct_outcomes.specs.declared.standing.Standing.TheVariants.{Value}
use Rattle.ct_outcomes.proofs.Kept.{byte_kept}
use Rattle.ct_outcomes.proofs.standing.Standing.of_part.Goals as goal

pub returns-in_ok-byte_text-in-Byte : goal.returns-in_ok-byte_text-in-Byte
returns-in_ok-byte_text-in-Byte c = rw c.in-Byte.is (ap Value c.in_ok-byte_text-in-Byte.ensures ∙ byte_kept c.args.table.now c.args.ty c.in-Byte.byte)
