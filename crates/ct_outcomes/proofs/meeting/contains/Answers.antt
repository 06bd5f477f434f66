use Rattle.std.proofs.Common.{◌≡◌, sym, ◌∙◌}
use Rattle.ct_outcomes.proofs.Texts.{decides_part}
use Rattle.ct_outcomes.proofs.meeting.contains.Goals as goal

pub returns : goal.returns
returns c =
    let whole : c.as_str-whole.result.now ≡ c.args.text.now = c.as_str-whole.ensures.value ∙ c.text.view_is in
    let sought : c.as_str-sought.result.now ≡ c.args.part.now = c.as_str-sought.ensures.value ∙ c.part.view_is in
    rw (sym whole, sym sought) (decides_part c.contains.result c.as_str-whole.result.now c.as_str-sought.result.now c.contains.ensures.cases)
