use Rattle.std.proofs.Common.{◌≡◌}
use Rattle.ic_mgmt.proofs.settings.list_of.Given as goal

abbrev pub invariant-loop-id : goal.invariant-loop-id
invariant-loop-id l = l.items.items ≡ l.yielded
