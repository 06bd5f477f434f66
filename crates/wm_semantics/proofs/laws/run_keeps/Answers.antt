use Rattle.wm_semantics.proofs.Kept.{invoked_kept}
use Rattle.wm_semantics.proofs.laws.run_keeps.Goals as goal

pub returns : goal.returns
returns g c v s limit used h to o valid fits bytes is i =
    invoked_kept g.H.Host.answers limit g.H.Keeps.kept (g.met.H.Keeps.is_kept limit) v valid g.met.H.Host.lawful s (record { fits = fits; bytes = bytes }) h used to is o i
