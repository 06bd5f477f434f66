use Rattle.std.proofs.Common.{sym, ◌∙◌}
use Rattle.cd_tokens.proofs.AnySize.{no_byte, signed}
use Rattle.cd_tokens.proofs.number.says_integer.Goals as goal

pub returns-in-empty : goal.returns-in-empty
returns-in-empty c = no_byte c.args.bytes.now c.in-empty.len_below

pub returns-then-is_sign : goal.returns-then-is_sign
returns-then-is_sign c = c.says_numeral.ensures ∙ signed c.args.bytes.now c.in-len1-up.len_at_least (sym c.is_sign.ensures ∙ c.if-is_sign.true)
