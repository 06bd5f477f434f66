use Rattle.std.proofs.Common.{subst}
use Rattle.std.proofs.lemmas.Result.{IfOk-weaker}
use Rattle.ic_queues.specs.Queued.{Steps}
use Rattle.ic_queue_rounds.proofs.Passes.{faces, passes-on}
use Rattle.ic_queue_rounds.proofs.second.step.Goals as goal

pub pass-requires : goal.pass-requires
pass-requires c =
    let given = c.requires.passing in
    let takes = subst (Steps c.args.walk c.in_ok-walk.walk) c.in-Some.is c.in_ok-walk.ensures.steps in
    record { facing = record { start = given.start; facing = faces c.args.limit given.start c.args.rest c.args.walk c.in_ok-walk.walk c.in-Some.message takes given.passing } }

pub returns-in-Some-clause-passing : goal.returns-in-Some-clause-passing
returns-in-Some-clause-passing c =
    let takes = subst (Steps c.args.walk c.in_ok-walk.walk) c.in-Some.is c.in_ok-walk.ensures.steps in
    IfOk-weaker c.pass.result _ _ (λ w passes start passing. passes start (faces c.args.limit start c.args.rest c.args.walk c.in_ok-walk.walk c.in-Some.message takes passing)) c.pass.ensures.passing

pub returns-in-None-clause-passing : goal.returns-in-None-clause-passing
returns-in-None-clause-passing c = λ start passing.
    passes-on c.args.limit start c.args.rest c.args.walk c.in_ok-walk.walk (subst (Steps c.args.walk c.in_ok-walk.walk) c.in-None.is c.in_ok-walk.ensures.steps) passing
