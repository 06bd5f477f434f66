use Rattle.std.proofs.Common.{◌≡◌, List, Option, Some, ap, ◌∙◌}
use Rattle.std.specs.Global.{Vec}
use Rattle.cd_codec.specs.Answers.{contents}
use Rattle.cd_codec.specs.Content.{Content}
use Rattle.ct_check.specs.Filling.{Filling}
use Rattle.ct_check.specs.declared.checked.CheckedOutcome.TheVariants as outcomes
use Rattle.ct_outcomes.specs.declared.named.Named.{Named}
use Rattle.ct_outcomes.specs.Types.{types_at}
use Rattle.ct_outcomes.specs.Meets.{Reads, MeetsFilled}
use Rattle.ct_outcomes.proofs.Once.{one_reading}
use Rattle.ct_outcomes.proofs.Found.{through}
use Rattle.ct_outcomes.proofs.meeting.reply_met.Goals as goal

pub returns-in-Some : goal.returns-in-Some
returns-in-Some c = λ bytes reads.
    let given : c.args.outcome.now ≡ outcomes.Replies (Some c.in-Some.filled) = c.in-Replies.is ∙ ap (λ (f : Option Filling). outcomes.Replies f) c.in-Some.is in
    let one = one_reading (λ expected message values. c.one_answer.ensures.values expected message values) (types_at c.args.at) bytes in
    rw given (through (λ (b : Vec Named). b.items) (Reads (types_at c.args.at) bytes) (λ (values : List Content). MeetsFilled (types_at c.args.at) c.args.names.now c.in-Some.filled values) (contents c.args.values.now) c.filled_met.result one reads c.filled_met.ensures)
