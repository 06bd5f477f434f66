use Rattle.std.proofs.Common.{◌∙◌, ap}
use Rattle.ic_witness.proofs.Scans.{gap_hides, is_in_gap}
use Rattle.ic_witness.proofs.finding.is_hidden.Goals as goal

pub returns-in-Open : goal.returns-in-Open
returns-in-Open c = ap is_in_gap c.in-Open.ensures ∙ gap_hides _ _

pub returns-in-Hidden : goal.returns-in-Hidden
returns-in-Hidden c = ap is_in_gap c.in-Hidden.ensures ∙ gap_hides _ _

pub returns-in-Closed : goal.returns-in-Closed
returns-in-Closed c = ap is_in_gap c.in-Closed.ensures ∙ gap_hides _ _
