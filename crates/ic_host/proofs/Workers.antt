-- How many workers there are changes nothing of a run.
use Rattle.std.proofs.Common.{◌≡◌, ℕ, List, [], ◌∷◌, ◌++◌, length, refl, sym, ap, ◌∙◌, subst, Option, Some, None, Result, Ok, Err}
use Rattle.std.specs.Prelude.{unwrap_or}
use Rattle.ic_outside.specs.Limits.{Excess, LongLine, LongScript, script_limits, excess_of}
use Rattle.ic_outside.specs.Pieces.{pieces, line_of}
use Rattle.ic_script.specs.Line.{command_of}
use Rattle.ic_script.specs.declared.Command.{Command}
use Rattle.ic_script.specs.declared.Command.TheVariants.{Nothing}
use Rattle.ic_script.specs.declared.LineCause.{LineCause}
use Rattle.ic_behaviour.specs.State.{State}
use Rattle.ic_behaviour.specs.Runs.{Act, after}
use Rattle.ic_options.specs.declared.Options.{Options}
use Rattle.ic_options.specs.Options.{options_of}
use Rattle.ic_script_runner.specs.AfterCommand.{acts_of, acts_of_rounds, text_of, unless, fault_of, after_command}
use Rattle.ic_script_runner.specs.AfterLine.{after_line, after_spelled}
use Rattle.ic_script_runner.specs.Options.{default_options, rules_of}
use Rattle.ic_script_runner.specs.Out.{out, out_of, output_of}
use Rattle.ic_script_runner.specs.Script.{script_for, walk_of}
use Rattle.ic_script_runner.specs.Walk.{Place, Bad, Walk, start, past_line, after_text, judge, judge_line, onward, walk}
use Rattle.ic_host.specs.Trace.{acts_of_spelled, acts_of_line, acting, acts_from, trace_of, trace, rules}
use Rattle.ic_host.specs.Printed.{ButForWorkers}

-- the options with other workers
abbrev crew : Options → ℕ → Options
crew options n = record options { workers = n }

abbrev crewed : Place → ℕ → Place
crewed at n = record at { options = crew at.options n }

-- with other workers a command does and prints what it did
same : (options : Options) (n : ℕ) (s : State) (c : Command)
    → (acts_of options s c ≡ acts_of (crew options n) s c) × (text_of options s c ≡ text_of (crew options n) s c)
unfolding acts_of_rounds
same options n s Nothing = (refl, refl)
same options n s c = (refl, refl)

after_same : (options : Options) (n : ℕ) (s : State) (r : Result Command LineCause) → after_spelled options s r ≡ after_spelled (crew options n) s r
unfolding after_command
after_same options n s (Err cause) = refl
after_same options n s (Ok c) =
    ap (λ acts. unless (fault_of s c) (after (rules_of options) s acts, text_of options s c)) (same options n s c).0
    ∙ ap (λ text. unless (fault_of s c) (after (rules_of options) s (acts_of (crew options n) s c), text)) (same options n s c).1

spelled_same : (options : Options) (n : ℕ) (s : State) (r : Result Command LineCause) → acts_of_spelled options s r ≡ acts_of_spelled (crew options n) s r
spelled_same options n s (Ok c) = (same options n s c).0
spelled_same options n s (Err cause) = refl

judge_same : (at : Place) (n : ℕ) (piece : List ℕ) (excess : Option Excess) → judge script_limits at piece excess ≡ judge script_limits (crewed at n) piece excess
unfolding after_line
judge_same at n piece (Some LongLine) = refl
judge_same at n piece (Some LongScript) = refl
judge_same at n piece None = ap (judge_line at (length piece)) (after_same at.options n at.state (command_of (line_of piece)))
    ∙ by (after_spelled (crew at.options n) at.state (command_of (line_of piece))) where
      by : (r : Result (State × List ℕ) LineCause) → judge_line at (length piece) r ≡ judge_line (crewed at n) (length piece) r
      by (Ok done) = refl
      by (Err cause) = refl

onward_same : (j : Result (State × List ℕ) Bad) (f g : State → Walk) → ((s : State) → f s ≡ g s) → onward j f ≡ onward j g
onward_same (Ok done) f g each = ap (after_text done.1) (each done.0)
onward_same (Err bad) f g each = refl

acting_same : (acts : List Act) (j : Result (State × List ℕ) Bad) (f g : State → List Act) → ((s : State) → f s ≡ g s) → acting acts j f ≡ acting acts j g
acting_same acts (Ok done) f g each = ap (λ rest. acts ++ rest) (each done.0)
acting_same acts (Err bad) f g each = refl

-- the way and the run stay as they are
walk_same : (at : Place) (n : ℕ) (ps : List (List ℕ)) → walk script_limits at ps ≡ walk script_limits (crewed at n) ps
unfolding walk
walk_same at n [] = refl
walk_same at n (piece ∷ ps) =
    let rest = λ (s : State). walk script_limits (past_line (crewed at n) (length piece) s) ps in
    onward_same (judge script_limits at piece (excess_of script_limits at.offset piece)) (λ s. walk script_limits (past_line at (length piece) s) ps) rest
    (λ s. walk_same (past_line at (length piece) s) n ps)
    ∙ ap (λ j. onward j rest) (judge_same at n piece (excess_of script_limits at.offset piece))

run_same : (at : Place) (n : ℕ) (ps : List (List ℕ)) → acts_from script_limits at ps ≡ acts_from script_limits (crewed at n) ps
unfolding acts_from acts_of_rounds
run_same at n [] = refl
run_same at n (piece ∷ ps) =
    let acts = acts_of_line at.options at.state (line_of piece) in
    let rest = λ (s : State). acts_from script_limits (past_line (crewed at n) (length piece) s) ps in
    acting_same acts (judge script_limits at piece (excess_of script_limits at.offset piece)) (λ s. acts_from script_limits (past_line at (length piece) s) ps) rest
    (λ s. run_same (past_line at (length piece) s) n ps)
    ∙ ap (λ j. acting acts j rest) (judge_same at n piece (excess_of script_limits at.offset piece))
    ∙ ap (λ acts. acting acts (judge script_limits (crewed at n) piece (excess_of script_limits at.offset piece)) rest)
    (spelled_same at.options n at.state (command_of (line_of piece)))

output_same : (g : Option ℕ) (options : Options) (n : ℕ) (text : List ℕ) (last : Result State Bad)
    → output_of g options (record { text = text; last = last }) ≡ output_of g (crew options n) (record { text = text; last = last })
unfolding acts_of_rounds
output_same None options n text (Ok s) = refl
output_same None options n text (Err bad) = refl
output_same (Some k) options n text (Ok s) = refl
output_same (Some k) options n text (Err bad) = refl

-- one output, one run, one list of rules
abbrev One : (o p : Option Options) → List ℕ → Type 0
One o p bytes = (out_of o bytes ≡ out_of p bytes) × (trace_of o bytes ≡ trace_of p bytes)
    × (rules_of (unwrap_or o default_options) ≡ rules_of (unwrap_or p default_options))

one : (options : Options) (n : ℕ) (bytes : List ℕ) → One (Some options) (Some (crew options n)) bytes
unfolding walk_of
one options n bytes =
    let ps = pieces (script_for options.generate bytes) in
    let there = walk script_limits (start (crew options n)) ps in (
      ap (output_of options.generate options) (walk_same (start options) n ps) ∙ output_same options.generate options n there.text there.last,
      run_same (start options) n ps,
      refl,
    )

pub workers_change_nothing : (words other : List (List ℕ)) (bytes : List ℕ) → ButForWorkers words other
    → (out words bytes ≡ out other bytes) × (trace words bytes ≡ trace other bytes) × (rules words ≡ rules other)
unfolding out trace
workers_change_nothing words other bytes but =
    let P = λ (o : Option Options). One o (options_of other) bytes in
    let Q = λ (o : Option Options). One (Some but.0) o bytes in
    subst P (sym but.2) (subst Q (sym (but.3 ∙ ap (λ o. Some o) (sym but.4))) (one but.0 but.1.workers bytes))
