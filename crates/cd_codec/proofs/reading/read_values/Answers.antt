use Rattle.std.proofs.Common.{sym, ◌∙◌}
use Rattle.ic_base.proofs.Steps.{some_is}
use Rattle.cd_codec.proofs.Views.{contents_made}
use Rattle.cd_codec.proofs.ValueTakes.{values_found}
use Rattle.cd_codec.proofs.ValueAgain.{values_again, not_none}
use Rattle.cd_codec.proofs.reading.read_values.Goals as goal

pub returns-in-Ok-clause-found : goal.returns-in-Ok-clause-found
returns-in-Ok-clause-found c = rw (contents_made c.in-Ok.items) (values_found _ _ _ _ c.in-Ok.ensures)

pub returns-in-Ok-clause-only : goal.returns-in-Ok-clause-only
returns-in-Ok-clause-only c = λ values are. rw (contents_made c.in-Ok.items) (some_is _ _ (sym c.in-Ok.ensures ∙ values_again _ _ values _ are))

pub returns-in-Err-Refused-clause-only : goal.returns-in-Err-Refused-clause-only
returns-in-Err-Refused-clause-only c = λ values are. not_none _ values (rw c.in-Err-Refused.field-0-is at c.in-Err-Refused.ensures) (values_again _ _ values _ are)
