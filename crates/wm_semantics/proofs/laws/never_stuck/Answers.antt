use Rattle.wm_semantics.proofs.Beginnings.{invokes_on}
use Rattle.wm_semantics.proofs.laws.never_stuck.Goals as goal

pub returns : goal.returns
returns g c v s limit used h to valid fits bytes is =
    invokes_on v valid s (record { fits = fits; bytes = bytes }) g.H.Host.answers g.met.H.Host.lawful limit h used to is
