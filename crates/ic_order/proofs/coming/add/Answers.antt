use Rattle.std.proofs.Common.{rules}
use Rattle.ic_order.proofs.Places.{kept}
use Rattle.ic_order.proofs.coming.add.Goals as goal

pub returns-clause-kept : goal.returns-clause-kept
returns-clause-kept c = kept _ (λ way other. search rules) c.args.ways.now c.insert.new.self c.args.way c.in_ok-new.ensures.updates
