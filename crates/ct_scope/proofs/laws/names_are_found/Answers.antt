use Rattle.ct_scope.proofs.Found.{put_found}
use Rattle.ct_scope.proofs.laws.names_are_found.Goals as goal

pub returns : goal.returns
returns c names name other value = put_found names name other value
