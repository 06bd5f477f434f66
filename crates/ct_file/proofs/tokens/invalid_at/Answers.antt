use Rattle.std.proofs.Common.{refl}
use Rattle.std.proofs.lemmas.Str.{is_utf8-from_IsUtf8, IsUtf8-from_is_utf8}
use Rattle.ct_file.proofs.tokens.invalid_at.Goals as goal

pub returns-in-Ok-clause-value : goal.returns-in-Ok-clause-value
returns-in-Ok-clause-value c = (λ none. is_utf8-from_IsUtf8 c.args.text.now c.in-Ok.ensures.cases.1, λ utf8. refl)

pub returns-in-Err-clause-value : goal.returns-in-Err-clause-value
returns-in-Err-clause-value c = (λ some. absurd cc, λ utf8. absurd (c.in-Err.ensures.cases.0 (IsUtf8-from_is_utf8 c.args.text.now utf8)))
