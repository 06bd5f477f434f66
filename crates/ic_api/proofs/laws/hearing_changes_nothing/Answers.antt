use Rattle.ic_api.proofs.Hearings.{changes_nothing}
use Rattle.ic_api.proofs.laws.hearing_changes_nothing.Goals as goal

pub returns : goal.returns
returns c = changes_nothing
