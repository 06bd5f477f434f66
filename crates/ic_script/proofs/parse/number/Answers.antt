use Rattle.std.proofs.Common.{ℕ, sym, ◌∙◌}
use Rattle.ic_script.proofs.Numbers.{number-good, number-great, number-unread}
use Rattle.ic_script.proofs.parse.number.Goals as goal

pub returns-in-Ok-clause-word : goal.returns-in-Ok-clause-word
returns-in-Ok-clause-word c = number-good ℕ _ _ c.args.word.now (sym c.is_numeral.ensures ∙ c.if-not-is_numeral.false) c.in-Ok.ensures.value.0 c.if-number-most.true

pub returns-in_default-clause-word : goal.returns-in_default-clause-word
returns-in_default-clause-word c = number-great ℕ _ _ c.args.word.now (sym c.is_numeral.ensures ∙ c.if-not-is_numeral.false) c.in-Ok.ensures.value.0 c.if-number-most.false

pub returns-in_default-2-clause-word : goal.returns-in_default-2-clause-word
returns-in_default-2-clause-word c = number-unread c.args.most c.in_default.field-0 c.args.word.now (sym c.is_numeral.ensures ∙ c.if-not-is_numeral.false) c.in_default.ensures.value.0 c.ranges.most.fits
