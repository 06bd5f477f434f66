use Rattle.std.proofs.Common.{refl}
use Rattle.ic_behaviour.proofs.Ties.{tallied}
use Rattle.ic_mgmt_laws.proofs.Steps.{any_code, changed_keeps, granted_keeps}
use Rattle.ic_mgmt_laws.proofs.Makes.{added_keeps, gone_keeps}
use Rattle.ic_mgmt_laws.proofs.laws.canisters_keep_calls.Goals as goal

pub returns-clause-added : goal.returns-clause-added
returns-clause-added c = λ s v sound is_new room. added_keeps s v (tallied s sound) is_new room

pub returns-clause-granted : goal.returns-clause-granted
returns-clause-granted c = λ s id v amount sound found few. granted_keeps s (tallied s sound) id v found amount few

pub returns-clause-settled : goal.returns-clause-settled
returns-clause-settled c = λ s id v controllers sound found.
    changed_keeps s (tallied s sound) id v found (record v { controllers = controllers }) (record { id = refl; next_call = refl; balance = refl; contexts = refl; phase = refl; has_code = λ h. h })

pub returns-clause-coded : goal.returns-clause-coded
returns-clause-coded c = λ s id v code store certified sound found.
    changed_keeps s (tallied s sound) id v found _ (record { id = refl; next_call = refl; balance = refl; contexts = refl; phase = refl; has_code = λ h. any_code code v.contexts })

pub returns-clause-gone : goal.returns-clause-gone
returns-clause-gone c = λ s id v sound found stopped. gone_keeps s (tallied s sound) id v found stopped
