use Rattle.std.proofs.Common.{Some, refl, ap, sym, ◌∙◌}
use Rattle.std.specs.Option.{option_map}
use Rattle.wm_typing.proofs.Stacks.{label_is, outer_label, branch_of}
use Rattle.wm_typing.proofs.checker.Checker.label.Goals as goal

pub returns-then-label-eq0 : goal.returns-then-label-eq0
returns-then-label-eq0 c =
    let here = label_is c.self.inside.operands c.self.inside.frame c.self.inside.outer c.args.self.now c.self.view_is c.self.invariant.0 c.self.invariant.1 c.args.label in
    rw (here, c.if-label-eq0.true, c.branch_to.ensures) refl

pub returns-in-Some : goal.returns-in-Some
returns-in-Some c =
    let here = outer_label c.self.inside.operands c.self.inside.frame c.self.inside.outer c.args.self.now c.self.view_is c.self.invariant.0 c.self.invariant.1 c.args.label c.if-label-eq0.false in
    ap Some c.branch_to-in-Some.ensures ∙ ap (option_map branch_of) c.in-Some.ensures ∙ sym here

pub returns-in-None : goal.returns-in-None
returns-in-None c =
    let here = outer_label c.self.inside.operands c.self.inside.frame c.self.inside.outer c.args.self.now c.self.view_is c.self.invariant.0 c.self.invariant.1 c.args.label c.if-label-eq0.false in
    ap (option_map branch_of) c.in-None.ensures ∙ sym here
