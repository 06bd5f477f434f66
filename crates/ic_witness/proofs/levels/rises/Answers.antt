use Rattle.std.proofs.Common.{◌∙◌, ap, sym}
use Rattle.std.specs.Prelude.{is_some}
use Rattle.ic_witness.proofs.Scans.{rises_from_none}
use Rattle.ic_witness.proofs.levels.rises.Goals as goal

pub returns-in-Some : goal.returns-in-Some
returns-in-Some c = sym (ap is_some c.in-Some.ensures) ∙ rises_from_none _

pub returns-in-None : goal.returns-in-None
returns-in-None c = sym (ap is_some c.in-None.ensures) ∙ rises_from_none _
