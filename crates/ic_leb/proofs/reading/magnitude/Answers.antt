use Rattle.std.proofs.Common.{◌-◌, length, sym, ap, arith, cond}
use Rattle.std.specs.Prelude.{Ok, Err}
use Rattle.std.proofs.lemmas.List.{drop_all}
use Rattle.std.proofs.lemmas.Bool.{lt-leb}
use Rattle.ic_leb.specs.declared.fault.LebFault.TheVariants.{Wide}
use Rattle.ic_leb.specs.Magnitude.{magnitude_of}
use Rattle.ic_leb.proofs.Magnitudes.{one_lower, high_le_all}
use Rattle.ic_leb.proofs.reading.magnitude.Goals as goal

pub loop-i-init : goal.loop-i-init
unfolding magnitude_of
loop-i-init c = record {
  spelled = sym (ap (magnitude_of c.args.negative) (drop_all (length c.args.number.now) c.args.number.now (omega arith)));
  bound = omega arith;
}

pub returns-then-n-largest : goal.returns-then-n-largest
returns-then-n-largest c =
    let bytes = c.args.number.now in
    let all = magnitude_of c.args.negative bytes in
    let lower = one_lower c.args.negative bytes c.loop-i.i c.loop-i.n c.loop-i-test.true c.loop-i.auto.i c.loop-i.invariant.spelled in
    sym (ap (λ b. cond b (Ok all) (Err Wide)) (lt-leb all c.args.largest (omega (arith, lower, high_le_all c.args.negative (c.loop-i.i - 1) bytes))))

pub loop-i-preserved : goal.loop-i-preserved
loop-i-preserved c =
    let lower = one_lower c.args.negative c.args.number.now c.loop-i.i c.loop-i.n c.loop-i-test.true c.loop-i.auto.i c.loop-i.invariant.spelled in
    record { spelled = omega (arith, lower); bound = omega arith }
