use Rattle.std.proofs.lemmas.Bool.{or_parts}
use Rattle.ic_mgmt.proofs.Sweeps.{reaches_gone}
use Rattle.ic_mgmt.proofs.sweep.Sweep.deliver.Goals as goal

pub deliver_outside-requires-clause-next : goal.deliver_outside-requires-clause-next
deliver_outside-requires-clause-next c = (c.args.self.kept, c.requires.next)

pub deliver_outside-requires-clause-absent : goal.deliver_outside-requires-clause-absent
deliver_outside-requires-clause-absent c = (or_parts _ _ c.requires.goes).0

pub returns-clause-reaches : goal.returns-clause-reaches
returns-clause-reaches c = λ start todo so_far.
    reaches_gone c.args.self.kept c.args.message todo c.args.self.rest c.args.limit start c.in_ok-rest.rest c.args.self.handled c.requires.goes
    (c.in_ok-rest.ensures c.args.self.kept todo so_far.keeps) so_far
