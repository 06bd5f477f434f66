use Rattle.std.proofs.Common.{◌∙◌, ap}
use Rattle.serde_json.specs.Written.{has_float, compact_text}
use Rattle.ic_state.specs.Seen.{state_of}
use Rattle.ic_output.specs.StateLine.{state_text}
use Rattle.ic_output.proofs.NoFloat.{state_has_none}
use Rattle.ic_output.proofs.values.state_text.Goals as goal

pub returns : goal.returns
unfolding state_text
returns c list keeps count =
    let is = c.in_ok-value.ensures list keeps count in
    let s = state_of (record c.args.parts.now { messages = list }) in
    c.in_ok-to_vec.ensures.text (ap has_float is ∙ state_has_none s) ∙ ap compact_text is
