use Rattle.std.proofs.Common.{refl}
use Rattle.wm_typing.proofs.Stacks.{begins_again}
use Rattle.wm_typing.proofs.checker.Checker.begin_again.Goals as goal

pub returns : goal.returns
returns c = begins_again c.self.inside.operands c.self.inside.frame _ c.self.inside.outer c.args.self.now c.self.view_is c.self.invariant.0 c.requires refl
