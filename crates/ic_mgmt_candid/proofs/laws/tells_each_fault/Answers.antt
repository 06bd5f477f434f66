use Rattle.wm_decode.proofs.ExactModule.{module_again, module_takes}
use Rattle.ic_mgmt_candid.proofs.ModuleLemmas.{unspelled, unread, fault_read, fault_told}
use Rattle.ic_mgmt_candid.proofs.laws.tells_each_fault.Goals as goal

pub returns-clause-read : goal.returns-clause-read
returns-clause-read c = λ float bytes m. (module_takes float m bytes, module_again float m bytes)

pub returns-clause-unread : goal.returns-clause-unread
returns-clause-unread c = λ float bytes. (unspelled float bytes, unread float bytes)

pub returns-clause-fault : goal.returns-clause-fault
returns-clause-fault c = λ bytes fault. (fault_told bytes fault, λ h. fault_read bytes fault h.1 h.0)
