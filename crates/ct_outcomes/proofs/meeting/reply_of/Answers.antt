use Rattle.std.proofs.Common.{List}
use Rattle.cd_codec.specs.Content.{Content}
use Rattle.ct_outcomes.specs.Types.{types_at}
use Rattle.ct_outcomes.specs.Meets.{Reads}
use Rattle.ct_outcomes.proofs.Found.{unread}
use Rattle.ct_outcomes.proofs.meeting.reply_of.Goals as goal

pub returns-in-None : goal.returns-in-None
returns-in-None c =
    let none : (values : List Content) → Reads (types_at c.args.at) c.args.bytes.now values → ⊥ = rw c.in-None.is at c.in_ok-values.ensures in
    unread (types_at c.args.at) c.args.bytes.now none
