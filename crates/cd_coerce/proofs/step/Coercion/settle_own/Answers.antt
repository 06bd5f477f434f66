use Rattle.std.proofs.Common.{rules, ◌≡◌, suc, Some, arith}
use Rattle.cd_types.specs.Shape.{shape}
use Rattle.cd_codec.specs.View.{view}
use Rattle.cd_coerce.specs.Step.{plain_part}
use Rattle.cd_coerce.proofs.CountLemmas.{plain_one}
use Rattle.cd_coerce.proofs.step.Coercion.settle_own.Goals as goal

pub returns-in_ok-done-in-Some-clause-counted : goal.returns-in_ok-done-in-Some-clause-counted
returns-in_ok-done-in-Some-clause-counted c =
    let read : plain_part (view c.args.value.now) (shape c.args.self.now.0.1 c.args.u) ≡ Some (Some (view c.in-Some.done)) = search rules in
    let one = plain_one (view c.args.value.now) (shape c.args.self.now.0.1 c.args.u) (view c.in-Some.done) read in
    c.in_ok-done-in-Some.ensures.counted (suc c.args.self.now.1) (omega (arith, one))
