use Rattle.std.proofs.Common.{List, true, ap, ◌∙◌}
use Rattle.cd_tokens.specs.Placed.{placed_views}
use Rattle.cd_tokens.specs.Token.{Token}
use Rattle.cd_tokens.specs.View.{token_views}
use Rattle.ct_values.specs.Spelled.{spelled}
use Rattle.ct_check.proofs.Spelling.{none_spelled}
use Rattle.ct_check.proofs.values.Between.value_fault.Goals as goal

pub returns-in-None : goal.returns-in-None
returns-in-None c meaning same =
    none_spelled (λ (tokens : List Token). spelled (record { patterns = c.args.patterns; names = true }) c.args.table.now c.args.types.now tokens) _ _
    (ap token_views c.deref-2.ensures.value ∙ c.in_ok-tokens.ensures ∙ ap placed_views c.deref.ensures.value ∙ c.in_ok-read.ensures.tokens meaning same) (λ steps e. rw c.in-Err-Unexpected.field-0-is at (c.in-Err-Unexpected.ensures.only steps e))

pub returns : goal.returns
returns c meaning same =
    none_spelled (λ (tokens : List Token). spelled (record { patterns = c.args.patterns; names = true }) c.args.table.now c.args.types.now tokens) _ _
    (ap token_views c.deref-2.ensures.value ∙ c.in_ok-tokens.ensures ∙ ap placed_views c.deref.ensures.value ∙ c.in_ok-read.ensures.tokens meaning same) (λ steps e. rw c.in-Err-Unexpected.field-0-is at (c.in-Err-Unexpected.ensures.only steps e))
