use Rattle.std.proofs.Common.{◌≤◌, ◌+◌, ap, arith}
use Rattle.ic_outside.proofs.LimitLaws.{excess-none}
use Rattle.ic_outside.proofs.InsideLaws.{IsSound-handed_out}
use Rattle.ic_outside.proofs.lines.Lines.hand_out.Goals as goal

pub overflow_add-self : goal.overflow_add-self
overflow_add-self c =
    let old = c.args.self.now in
    let fits : old.offset + c.args.piece ≤ old.limits.script = (excess-none old.limits old.offset c.args.line c.args.piece c.requires.fits c.requires.shorter).1 in
    omega (arith, fits, ap (λ r. r.offset) c.self.view_is, ap (λ r. r.limits.script) c.self.view_is, c.self.invariant.script)

pub invariant_of-self : goal.invariant_of-self
invariant_of-self c =
    IsSound-handed_out c.self.inside c.args.self.now c.args.line c.args.piece c.take.new.self c.self.invariant c.self.view_is
    c.requires.shorter c.requires.some c.requires.ahead c.requires.fits c.take.ensures
