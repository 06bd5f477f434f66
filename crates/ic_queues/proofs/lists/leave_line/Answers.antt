use Rattle.std.proofs.Common.{◌≡◌, Some, rules}
use Rattle.std.specs.Map.{lookup}
use Rattle.ic_behaviour.specs.State.{at}
use Rattle.ic_queues.proofs.lists.leave_line.Goals as goal

pub remove-requires : goal.remove-requires
remove-requires c =
    let found : lookup (at c.args.callee.now) c.args.waiting.now.entries ≡ Some c.in-Some.line.now = search rules in
    record { rising = c.requires.theirs c.in-Some.line.now found }
