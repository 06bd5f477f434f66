use Rattle.std.proofs.Common.{map, string_bytes, arith}
use Rattle.ic_script_runner.specs.Options.{default_options}
use Rattle.ic_options.specs.Options.{options_of}
use Rattle.std.specs.Prelude.{unwrap_or}
use Rattle.ic_script_runner.proofs.Counts.{sink_count_after-later}
use Rattle.ic_script_runner.proofs.Keeps.{rules_keep}
use Rattle.ic_host.proofs.Cuts.{run_is_printed, nothing_runs}
use Rattle.ic_host.proofs.Workers.{workers_change_nothing}
use Rattle.ic_host.proofs.Traces.{trace_is_run}
use Rattle.ic_host.proofs.Finals.{each_final}
use Rattle.ic_host.proofs.Promises.{each_trap, each_placed_once, each_answered, each_done, each_conserves}
use Rattle.ic_host.proofs.Refusals.{each_turned_away, each_refusal}
use Rattle.ic_host.proofs.top.replica.Goals as goal

pub returns-clause-run : goal.returns-clause-run
returns-clause-run g c = λ script. trace_is_run _ script

pub returns-clause-printed : goal.returns-clause-printed
returns-clause-printed g c = λ script. run_is_printed _ script

pub returns-clause-idle : goal.returns-clause-idle
returns-clause-idle g c = λ script refused. nothing_runs _ script refused

pub returns-clause-workers : goal.returns-clause-workers
returns-clause-workers g c = λ other script but. workers_change_nothing _ other script but

pub returns-clause-trapped : goal.returns-clause-trapped
returns-clause-trapped g c = λ script. each_trap _ (rules_keep (unwrap_or (options_of (map string_bytes c.args.words.now)) default_options)) _

pub returns-clause-turned_away : goal.returns-clause-turned_away
returns-clause-turned_away g c = λ script. each_turned_away _ _

pub returns-clause-placed_once : goal.returns-clause-placed_once
returns-clause-placed_once g c = λ script. each_placed_once _ (rules_keep (unwrap_or (options_of (map string_bytes c.args.words.now)) default_options)) _ (trace_is_run _ script)

pub returns-clause-cycles : goal.returns-clause-cycles
returns-clause-cycles g c = λ script. each_conserves _ (rules_keep (unwrap_or (options_of (map string_bytes c.args.words.now)) default_options)) _ (trace_is_run _ script)

pub returns-clause-refused : goal.returns-clause-refused
returns-clause-refused g c = λ script. each_refusal (unwrap_or (options_of (map string_bytes c.args.words.now)) default_options) _ (trace_is_run _ script)

pub returns-clause-final_answers : goal.returns-clause-final_answers
returns-clause-final_answers g c = λ script. each_final (unwrap_or (options_of (map string_bytes c.args.words.now)) default_options) _ (trace_is_run _ script)

pub returns-clause-answered_once : goal.returns-clause-answered_once
returns-clause-answered_once g c = λ script. each_answered _ (rules_keep (unwrap_or (options_of (map string_bytes c.args.words.now)) default_options)) _ (trace_is_run _ script)

pub returns-clause-drained : goal.returns-clause-drained
returns-clause-drained g c = λ script. each_done _ (rules_keep (unwrap_or (options_of (map string_bytes c.args.words.now)) default_options)) _ (trace_is_run _ script)

pub returns-clause-later_sink : goal.returns-clause-later_sink
returns-clause-later_sink g c =
    let fits = g.met.K.Sink.faults_fit c.args.sink.now in
    omega (arith, sink_count_after-later _ c.read_and_run.result fits, c.read_and_run.ensures.explained.counted)

pub returns-clause-counted_sink : goal.returns-clause-counted_sink
returns-clause-counted_sink g c = c.read_and_run.ensures.explained.counted
