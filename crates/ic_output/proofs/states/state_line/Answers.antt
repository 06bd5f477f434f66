use Rattle.std.proofs.Common.{ap, rules, ◌∙◌}
use Rattle.std.proofs.lemmas.Result.{IfOk-weaker}
use Rattle.ic_output.specs.Texts.{state_line}
use Rattle.ic_output.proofs.states.state_line.Goals as goal

pub line_of_parts-requires : goal.line_of_parts-requires
line_of_parts-requires c = record { keeps = (c.parts-parts.result.now.messages, c.parts-parts.ensures.keeps) }

pub returns : goal.returns
returns c =
    IfOk-weaker c.line_of_parts.result _ _ (λ line is. is c.parts-parts.result.now.messages c.parts-parts.ensures.keeps (search rules) ∙ ap state_line c.parts-parts.ensures.state)
    c.line_of_parts.ensures
