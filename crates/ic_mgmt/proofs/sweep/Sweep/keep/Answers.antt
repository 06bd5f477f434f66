use Rattle.std.proofs.Common.{List, sym, subst}
use Rattle.ic_behaviour.specs.declared.call.Message.{Message}
use Rattle.ic_mgmt.specs.Sweeping.{Reaches}
use Rattle.ic_mgmt.specs.Ways.{HasWays}
use Rattle.ic_mgmt.proofs.Sweeps.{reaches_kept}
use Rattle.ic_mgmt.proofs.WayLaws.{ways-push}
use Rattle.ic_mgmt.proofs.sweep.Sweep.keep.Goals as goal

pub returns-clause-reaches : goal.returns-clause-reaches
returns-clause-reaches c = λ limit start todo so_far.
    subst (λ (kept : List Message). Reaches limit start kept todo c.args.self.rest c.args.self.handled) (sym c.in_ok-push.ensures)
    (reaches_kept c.args.self.kept c.args.message todo c.args.self.rest limit start c.args.self.handled c.requires.stays so_far)

pub returns-clause-ways : goal.returns-clause-ways
returns-clause-ways c =
    subst (HasWays c.insert.new.self) (sym c.in_ok-push.ensures)
    (ways-push c.args.self.left c.insert.new.self c.args.self.kept c.args.message c.sender.result c.callee.result c.sender.ensures c.callee.ensures c.requires.ways c.in_ok-insert.ensures.updates)
