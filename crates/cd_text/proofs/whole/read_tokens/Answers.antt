use Rattle.std.proofs.Common.{◌∙◌, sym}
use Rattle.cd_codec.proofs.Views.{contents_made}
use Rattle.cd_text.proofs.whole.read_tokens.Goals as goal

pub returns-in-Ok-clause-only : goal.returns-in-Ok-clause-only
returns-in-Ok-clause-only c = λ values s. contents_made c.in-Ok.items ∙ c.in-Ok.ensures.only values (rw (c.table.ensures, c.types.ensures.value) s)

pub returns-in-Err-Refused-clause-only : goal.returns-in-Err-Refused-clause-only
returns-in-Err-Refused-clause-only c = λ values s. rw c.in-Err-Refused.field-0-is at (c.in-Err-Refused.ensures.only values (rw (c.table.ensures, c.types.ensures.value) s))

pub returns-in-Ok-clause-typed : goal.returns-in-Ok-clause-typed
returns-in-Ok-clause-typed c = rw (sym c.table.ensures, sym c.types.ensures.value, contents_made c.in-Ok.items) c.in-Ok.ensures.typed
