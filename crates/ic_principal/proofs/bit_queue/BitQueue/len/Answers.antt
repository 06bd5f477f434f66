use Rattle.std.proofs.Common.{length, sym, ap, ◌∙◌}
use Rattle.ic_principal.proofs.BitLaws.{length-bits_of}
use Rattle.ic_principal.proofs.bit_queue.BitQueue.len.Goals as goal

pub returns-clause-value : goal.returns-clause-value
returns-clause-value c = sym (length-bits_of c.self.inside.count c.self.inside.value) ∙ ap length c.self.view_is
