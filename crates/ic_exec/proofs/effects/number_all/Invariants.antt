use Rattle.ic_exec.proofs.Numbers.{IsNumbered}
use Rattle.ic_exec.proofs.effects.number_all.Given as goal

abbrev pub invariant-loop-call : goal.invariant-loop-call
invariant-loop-call l = IsNumbered l.id l.own l.next l.messages l.number l.yielded l.call-iterator.rest.items l.fn.calls
