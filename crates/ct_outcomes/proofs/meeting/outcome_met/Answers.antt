use Rattle.ct_outcomes.specs.declared.meeting.Answer.TheVariants.{Values}
use Rattle.ct_outcomes.specs.Types.{types_at}
use Rattle.ct_outcomes.specs.Answers.{IsAnswer}
use Rattle.ct_outcomes.proofs.meeting.outcome_met.Goals as goal

pub returns-in-Values : goal.returns-in-Values
returns-in-Values c = λ came is.
    let reply : IsAnswer (types_at c.args.at) came (Values c.in-Values.values) = rw c.in-Values.is at is in
    rw reply.1 (c.reply_met.ensures reply.0 reply.2)
