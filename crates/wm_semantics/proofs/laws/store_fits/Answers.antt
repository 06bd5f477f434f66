use Rattle.wm_semantics.proofs.Beginnings.{invoked_well}
use Rattle.wm_semantics.proofs.laws.store_fits.Goals as goal

pub returns-clause-fits : goal.returns-clause-fits
returns-clause-fits g c v s limit used h to o valid fits bytes is i =
    (invoked_well v valid s (record { fits = fits; bytes = bytes }) g.H.Host.answers g.met.H.Host.lawful limit h used to is o i).fits

pub returns-clause-bytes : goal.returns-clause-bytes
returns-clause-bytes g c v s limit used h to o valid fits bytes is i =
    (invoked_well v valid s (record { fits = fits; bytes = bytes }) g.H.Host.answers g.met.H.Host.lawful limit h used to is o i).bytes
