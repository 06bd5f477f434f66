use Rattle.wm_run.proofs.invocation.invoke_traced.Goals as goal

pub returns-clause-backtrace : goal.returns-clause-backtrace
returns-clause-backtrace g c = λ f e. c.in_ok-backtrace.ensures f (c.in_ok-halted.ensures.under_way f e)
