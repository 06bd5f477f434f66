use Rattle.wm_encode.proofs.ReadFits.{mod_fits}
use Rattle.wm_encode.proofs.laws.read_fits.Goals as goal

pub returns : goal.returns
returns c = mod_fits c.args.module.now c.args.bytes.now c.requires.spelled c.requires.kept
