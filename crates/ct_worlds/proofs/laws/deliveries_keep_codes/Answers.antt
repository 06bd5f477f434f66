use Rattle.ct_worlds.proofs.Codes.{step_codes}
use Rattle.ct_worlds.proofs.laws.deliveries_keep_codes.Goals as goal

pub returns : goal.returns
returns c = step_codes
