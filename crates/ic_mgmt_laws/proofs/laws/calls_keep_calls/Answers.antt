use Rattle.ic_behaviour.proofs.Ties.{tallied}
use Rattle.ic_mgmt_laws.proofs.Steps.{replied_keeps, kept_by_keeps, waits_keeps, stops_alone}
use Rattle.ic_mgmt_laws.proofs.laws.calls_keep_calls.Goals as goal

pub returns-clause-replied : goal.returns-clause-replied
returns-clause-replied c = λ s place call callee response sound is. replied_keeps s place call.origin call.sender callee call.method call.arg call.cycles is (tallied s sound) response

pub returns-clause-kept : goal.returns-clause-kept
returns-clause-kept c = λ s place call callee id v response sound is found. kept_by_keeps s place call.origin call.sender callee call.method call.arg call.cycles is (tallied s sound) id v response found

pub returns-clause-waits : goal.returns-clause-waits
returns-clause-waits c = λ s place call callee id v sound is found some. waits_keeps s place call.origin call.sender callee call.method call.arg call.cycles is (tallied s sound) id v found some

pub returns-clause-stops : goal.returns-clause-stops
returns-clause-stops c = λ s place call callee id v sound is found empty runs. stops_alone s place call.origin call.sender callee call.method call.arg call.cycles is (tallied s sound) id v found empty runs
