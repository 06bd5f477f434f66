use Rattle.std.proofs.lemmas.Result.{IfOk-weaker}
use Rattle.ic_mgmt.proofs.sweep.Sweep.meet.Goals as goal

pub returns-then-stays-clause-reaches : goal.returns-then-stays-clause-reaches
returns-then-stays-clause-reaches c = IfOk-weaker c.keep.result _ _ (λ w reaches. reaches c.args.limit) c.keep.ensures.reaches
