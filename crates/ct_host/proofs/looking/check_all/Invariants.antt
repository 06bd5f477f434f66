use Rattle.std.proofs.Common.{drop}
use Rattle.ct_host.specs.Looking.{DoesNotHold, IsChecked}
use Rattle.ct_host.proofs.Inputs.{Still}
use Rattle.ct_host.proofs.looking.check_all.Given as goal

abbrev pub invariant-loop-one : goal.invariant-loop-one
invariant-loop-one l = Still IsChecked DoesNotHold l.sourced l.items.items (drop l.one-index l.sourced)
