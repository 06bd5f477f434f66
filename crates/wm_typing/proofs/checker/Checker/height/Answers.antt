use Rattle.std.proofs.Common.{◌∙◌}
use Rattle.wm_typing.proofs.Stacks.{height_is}
use Rattle.wm_typing.proofs.checker.Checker.height.Goals as goal

pub returns : goal.returns
returns c =
    c.len.ensures ∙ height_is c.self.inside.operands c.self.inside.frame c.self.inside.outer c.args.self.now c.self.view_is c.self.invariant.0 c.self.invariant.1
