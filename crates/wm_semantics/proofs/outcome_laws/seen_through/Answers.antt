use Rattle.wm_semantics.proofs.Through.{invoked_through}
use Rattle.wm_semantics.proofs.outcome_laws.seen_through.Goals as goal

pub returns : goal.returns
returns g c see reply seen is m limit h s used target = invoked_through see reply seen is m limit h s used target
