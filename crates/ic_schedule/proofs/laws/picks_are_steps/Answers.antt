use Rattle.std.proofs.Common.{take}
use Rattle.ic_schedule.proofs.Eligibles.{is-eligible}
use Rattle.ic_schedule.proofs.Chains.{chain_is, one_pick}
use Rattle.ic_schedule.proofs.laws.picks_are_steps.Goals as goal

pub returns-clause-state : goal.returns-clause-state
returns-clause-state g c = λ outside limit price s picks t count is replayed. (chain_is outside (g.M.Manager.manages c.args.manager.now) is limit price s (take count picks) t replayed.delivered).0

pub returns-clause-eligible : goal.returns-clause-eligible
returns-clause-eligible g c = λ outside limit price s picks t count is replayed. (chain_is outside (g.M.Manager.manages c.args.manager.now) is limit price s (take count picks) t replayed.delivered).1

pub returns-clause-single : goal.returns-clause-single
returns-clause-single g c = λ outside limit price s place t count is replayed. one_pick outside (g.M.Manager.manages c.args.manager.now) is limit price s place t count replayed

pub returns-clause-yes : goal.returns-clause-yes
returns-clause-yes g c = is-eligible
