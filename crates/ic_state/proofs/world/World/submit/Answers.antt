use Rattle.std.proofs.Common.{rules, refl}
use Rattle.ic_state.proofs.Worlds.{submitted_now}
use Rattle.ic_state.proofs.world.World.submit.Goals as goal

pub invariant_of-result : goal.invariant_of-result
invariant_of-result c =
    submitted_now c.self.inside.parts _ c.args.sender c.args.callee c.args.method c.args.arg c.in_ok-copy.field-0 c.in_ok-copy-2.field-0 c.args.self c.self.view_is c.self.invariant c.requires
    c.in_ok-copy.ensures c.in_ok-copy-2.ensures refl (search rules)
