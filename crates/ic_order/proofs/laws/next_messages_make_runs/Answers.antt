use Rattle.ic_order.proofs.Comes.{within, eligible_next, any_run, run_is_ordered, one_more}
use Rattle.ic_order.proofs.Places.{listed, only}
use Rattle.ic_order.proofs.laws.next_messages_make_runs.Goals as goal

pub returns-clause-within : goal.returns-clause-within
returns-clause-within c = within

pub returns-clause-eligible : goal.returns-clause-eligible
returns-clause-eligible c = eligible_next

pub returns-clause-listed : goal.returns-clause-listed
returns-clause-listed c = listed

pub returns-clause-only : goal.returns-clause-only
returns-clause-only c = only

pub returns-clause-any : goal.returns-clause-any
returns-clause-any c = any_run

pub returns-clause-run : goal.returns-clause-run
returns-clause-run c = λ rules acts keep run. run_is_ordered rules keep acts run

pub returns-clause-next : goal.returns-clause-next
returns-clause-next c = one_more
