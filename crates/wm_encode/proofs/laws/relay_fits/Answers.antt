use Rattle.wm_encode.proofs.Relay.{relay_fitting, relay_small}
use Rattle.wm_encode.proofs.laws.relay_fits.Goals as goal

pub returns : goal.returns
returns c = record { fits = relay_fitting; small = relay_small }
