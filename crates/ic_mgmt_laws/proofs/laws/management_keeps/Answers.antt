use Rattle.ic_mgmt_laws.proofs.Manages.{manage_keeps, outside_keeps}
use Rattle.ic_mgmt_laws.proofs.laws.management_keeps.Goals as goal

pub returns-clause-calls : goal.returns-clause-calls
returns-clause-calls c = λ enters limit s place call callee sound is. manage_keeps enters limit s place call.origin call.sender callee call.method call.arg call.cycles is sound

pub returns-clause-outside : goal.returns-clause-outside
returns-clause-outside c = λ enters. outside_keeps enters
