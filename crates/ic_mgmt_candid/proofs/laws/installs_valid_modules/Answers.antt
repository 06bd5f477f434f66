use Rattle.ic_mgmt_candid.proofs.ModuleLemmas.{installs, installed}
use Rattle.ic_mgmt_candid.proofs.laws.installs_valid_modules.Goals as goal

pub returns : goal.returns
returns c = λ bytes m. (installed bytes m, λ h. installs bytes m h.0 h.1 h.2)
