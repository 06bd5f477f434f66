use Rattle.std.proofs.Common.{◌≡◌, sym, ◌∙◌}
use Rattle.ct_outcomes.specs.Types.{Types, types_at}
use Rattle.ct_outcomes.specs.Arguments.{IsNeeded}
use Rattle.ct_outcomes.proofs.Found.{read_with}
use Rattle.ct_outcomes.proofs.message.values_of.Goals as goal

pub returns-in_default : goal.returns-in_default
returns-in_default c =
    let none : (part : Types) → IsNeeded (types_at c.args.at) part → ⊥ = rw c.in_default.is at c.in_ok-part.ensures in
    λ values is. none is.0 is.1

pub returns : goal.returns
returns c =
    let needed : IsNeeded (types_at c.args.at) c.in-Some.part = rw c.in-Some.is at c.in_ok-part.ensures in
    let same : c.deref.result.now ≡ c.args.bytes.now = c.deref.ensures.value ∙ c.bytes.view_is in
    rw (sym same) (read_with (types_at c.args.at) c.in-Some.part c.deref.result.now c.decoded_of.result needed (λ expected message values. c.one_answer.ensures.values expected message values) c.decoded_of.ensures)
