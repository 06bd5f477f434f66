use Rattle.std.proofs.Common.{◌∙◌, ap, sym}
use Rattle.wm_run_tests.specs.Counting.{result_in, result_of_call, result_at}
use Rattle.wm_run_tests.proofs.runs.hosts.result_of.Goals as goal

pub returns-in-Some : goal.returns-in-Some
returns-in-Some c = c.result.ensures ∙ sym (result_of_call c.args.import c.in-Some.call (sym c.in-Some.ensures))

pub returns-in-None : goal.returns-in-None
unfolding result_at
returns-in-None c = ap result_in c.in-None.ensures
