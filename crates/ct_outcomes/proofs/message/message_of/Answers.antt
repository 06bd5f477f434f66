use Rattle.std.proofs.Common.{List}
use Rattle.cd_codec.specs.Content.{Content}
use Rattle.cd_text.specs.Whole.{SaysArguments}
use Rattle.cd_tokens.specs.View.{token_views}
use Rattle.ct_outcomes.specs.Types.{Types, types_at}
use Rattle.ct_outcomes.specs.Arguments.{IsNeeded, in_parentheses}
use Rattle.ct_outcomes.proofs.Found.{not_said}
use Rattle.ct_outcomes.proofs.message.message_of.Goals as goal

pub returns-in_default : goal.returns-in_default
returns-in_default c =
    let none : (part : Types) → IsNeeded (types_at c.args.at) part → ⊥ = rw c.in_default.is at c.in_ok-part.ensures in
    λ bytes is. none is.part is.needed

pub returns-in-Err-NotText : goal.returns-in-Err-NotText
returns-in-Err-NotText c =
    let needed : IsNeeded (types_at c.args.at) c.in-Some.part = rw c.in-Some.is at c.in_ok-part.ensures in
    let none : (values : List Content) → SaysArguments c.in-Some.part.0 c.in-Some.part.1 values (in_parentheses (token_views c.args.tokens.now)) → ⊥ =
    λ values said. rw c.in-Err-NotText.field-0-is at (c.in-Err-NotText.ensures.only values (rw (c.deref.ensures.value, c.in_ok-whole.ensures) said)) in
    not_said (types_at c.args.at) c.in-Some.part (token_views c.args.tokens.now) needed none
