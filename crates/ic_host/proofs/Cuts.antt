-- At each cut of a script: the run, and what is printed.
use Rattle.std.proofs.Common.{◌≡◌, ℕ, ◌+◌, List, [], ◌∷◌, ◌++◌, length, refl, sym, ap, ◌∙◌, append_assoc, append-nil, arith, Option, Some, None, Result, Ok, Err}
use Rattle.std.specs.Prelude.{unwrap_or}
use Rattle.std.specs.List.{concat}
use Rattle.std.proofs.Math.ListN.{length-append}
use Rattle.ic_outside.specs.Given.{IsFront}
use Rattle.ic_outside.specs.Limits.{Excess, LongLine, LongScript, script_limits, excess_of}
use Rattle.ic_outside.specs.Pieces.{pieces, line_of}
use Rattle.ic_script.specs.Line.{command_of}
use Rattle.ic_script.specs.declared.Command.{Command}
use Rattle.ic_script.specs.declared.LineCause.{LineCause}
use Rattle.ic_behaviour.specs.State.{State}
use Rattle.ic_behaviour.specs.Submitted.{empty}
use Rattle.ic_behaviour.specs.Runs.{Act, after, last_state}
use Rattle.ic_behaviour.proofs.RunLaws.{after-append}
use Rattle.ic_options.specs.declared.Options.{Options}
use Rattle.ic_options.specs.Options.{options_of}
use Rattle.ic_output.specs.Texts.{bad_text}
use Rattle.ic_script_runner.specs.declared.status.Status.TheVariants.{Done, BadLine}
use Rattle.ic_script_runner.specs.AfterCommand.{acts_of, acts_of_rounds, text_of, fault_of, unless, after_command}
use Rattle.ic_script_runner.specs.AfterLine.{after_line, after_spelled}
use Rattle.ic_script_runner.specs.EndPart.{end_state, end_part}
use Rattle.ic_script_runner.specs.Options.{default_options, rules_of}
use Rattle.ic_script_runner.specs.Out.{Output, out, out_of, output_of}
use Rattle.ic_script_runner.specs.Script.{script_for, walk_of}
use Rattle.ic_script_runner.specs.Walk.{Place, Bad, Walk, start, past_line, after_text, judge, judge_line, onward, walk}
use Rattle.ic_host.specs.Trace.{acts_of_spelled, acts_of_line, acting, acts_from, trace_of, trace, rules}
use Rattle.ic_host.specs.Printed.{way, judged, lines_shown, state_shown, Cut, PrintedRun, RunIsPrinted}

-- ---- one piece

-- a good line spells a command that may come now, and does what this does
pub record Spells (options : Options) (s : State) (line : List ℕ) (done : State × List ℕ) : Type 0 where
  pub command : Command
  pub is : command_of line ≡ Ok command
  pub free : fault_of s command ≡ None
  pub state : done.0 ≡ after (rules_of options) s (acts_of options s command)
  pub text : done.1 ≡ text_of options s command

pub spells : (options : Options) (s : State) (line : List ℕ) (done : State × List ℕ) → after_line options s line ≡ Ok done → Spells options s line done
unfolding after_line after_command
spells options s line done is = spelled (command_of line) refl is where
  now : (c : Command) (fault : Option LineCause) → command_of line ≡ Ok c → fault_of s c ≡ fault
      → unless fault (after (rules_of options) s (acts_of options s c), text_of options s c) ≡ Ok done → Spells options s line done
  now c None from free is =
      let same : (after (rules_of options) s (acts_of options s c), text_of options s c) ≡ done = cc in
      record { command = c; is = from; free = free; state = ap (λ (d : State × List ℕ). d.0) (sym same); text = ap (λ (d : State × List ℕ). d.1) (sym same) }
  now c (Some cause) from free is = absurd cc

  spelled : (r : Result Command LineCause) → command_of line ≡ r → after_spelled options s r ≡ Ok done → Spells options s line done
  spelled (Ok c) from is = now c (fault_of s c) from refl is
  spelled (Err cause) from is = absurd cc

-- a good piece passes no limit
judge-ok : (at : Place) (piece : List ℕ) (excess : Option Excess) (done : State × List ℕ) → judge script_limits at piece excess ≡ Ok done
    → after_line at.options at.state (line_of piece) ≡ Ok done
judge-ok at piece (Some LongLine) done is = absurd cc
judge-ok at piece (Some LongScript) done is = absurd cc
judge-ok at piece None done is = by (after_line at.options at.state (line_of piece)) is where
  by : (r : Result (State × List ℕ) LineCause) → judge_line at (length piece) r ≡ Ok done → r ≡ Ok done
  by (Ok d) is = let same : d ≡ done = cc in ap (λ x. Ok x) same
  by (Err cause) is = absurd cc

-- the acts of pieces from a place on, without the rounds at the end
unfoldable acts_along : Place → List (List ℕ) → List Act
acts_along at [] = []
acts_along at (piece ∷ pieces) =
    acting (acts_of_line at.options at.state (line_of piece)) (judge script_limits at piece (excess_of script_limits at.offset piece))
    (λ state. acts_along (past_line at (length piece) state) pieces)

abbrev next : Place → List ℕ → State × List ℕ → Place
next at piece done = past_line at (length piece) done.0

module _ (at : Place) (piece : List ℕ) (done : State × List ℕ) (is : judge script_limits at piece (excess_of script_limits at.offset piece) ≡ Ok done) where
  line : Spells at.options at.state (line_of piece) done
  line = spells at.options at.state (line_of piece) done (judge-ok at piece (excess_of script_limits at.offset piece) done is)

  acts_are : acts_of_line at.options at.state (line_of piece) ≡ acts_of at.options at.state line.command
  acts_are = ap (acts_of_spelled at.options at.state) line.is

  walk_on : (ps : List (List ℕ)) → walk script_limits at (piece ∷ ps) ≡ after_text done.1 (walk script_limits (next at piece done) ps)
  unfolding walk
  walk_on ps = ap (λ j. onward j (λ s. walk script_limits (past_line at (length piece) s) ps)) is

  from_on : (ps : List (List ℕ)) → acts_from script_limits at (piece ∷ ps) ≡ acts_of at.options at.state line.command ++ acts_from script_limits (next at piece done) ps
  unfolding acts_from
  from_on ps = ap (λ j. acting (acts_of_line at.options at.state (line_of piece)) j (λ s. acts_from script_limits (past_line at (length piece) s) ps)) is
      ∙ ap (λ acts. acts ++ acts_from script_limits (next at piece done) ps) acts_are

  along_on : (ps : List (List ℕ)) → acts_along at (piece ∷ ps) ≡ acts_of at.options at.state line.command ++ acts_along (next at piece done) ps
  unfolding acts_along
  along_on ps = ap (λ j. acting (acts_of_line at.options at.state (line_of piece)) j (λ s. acts_along (past_line at (length piece) s) ps)) is
      ∙ ap (λ acts. acts ++ acts_along (next at piece done) ps) acts_are

-- ---- a front

-- a way that ends where it begins
abbrev stopped : Result State Bad → Walk
stopped last = record { text = []; last = last }

two_texts : (first second : List ℕ) (way : Walk) → after_text first (after_text second way) ≡ after_text (first ++ second) way
two_texts first second way = ap (λ text. record { text = text; last = way.last }) (sym (append_assoc first second way.text))

-- the place after a front that leads to a state
abbrev place_after : Place → List (List ℕ) → State → Place
place_after at front state = record { options = at.options; state = state; number = length front + at.number; offset = length (concat front) + at.offset }

same_place : (options : Options) (s t : State) (n m o p : ℕ) → s ≡ t → n ≡ m → o ≡ p
    → ◌≡◌ {A = Place} (record { options = options; state = s; number = n; offset = o }) (record { options = options; state = t; number = m; offset = p })
same_place options s t n m o p same number offset = cc

-- the run and the way go through a front to the place after it
record Leads (at : Place) (front back : List (List ℕ)) (s : State) : Type 0 where
  pub trace : acts_from script_limits at (front ++ back) ≡ acts_along at front ++ acts_from script_limits (place_after at front s) back
  pub acts : acts_along at (front ++ back) ≡ acts_along at front ++ acts_along (place_after at front s) back
  pub state : s ≡ after (rules_of at.options) at.state (acts_along at front)
  pub way : walk script_limits at (front ++ back) ≡ after_text (walk script_limits at front).text (walk script_limits (place_after at front s) back)

-- through a good piece, and a front after it
further : (at : Place) (piece : List ℕ) (front back : List (List ℕ)) (state : State) (done : State × List ℕ)
    → judge script_limits at piece (excess_of script_limits at.offset piece) ≡ Ok done
    → Leads (next at piece done) front back state → Leads at (piece ∷ front) back state
further at piece front back state done is leads =
    let A = acts_of at.options at.state (line at piece done is).command in
    let there = place_after (next at piece done) front state in
    let place : there ≡ place_after at (piece ∷ front) state =
    same_place at.options state state (length front + (at.number + 1)) (length (piece ∷ front) + at.number)
    (length (concat front) + (at.offset + length piece)) (length (concat (piece ∷ front)) + at.offset)
    refl (omega arith) (omega (arith, length-append piece (concat front))) in
    let more = walk_on at piece done is front in
    record {
      trace =
          let from = from_on at piece done is (front ++ back) in
          let along = along_on at piece done is front in
          let assoc = append_assoc A (acts_along (next at piece done) front) (acts_from script_limits there back) in cc;
      acts =
          let from = along_on at piece done is (front ++ back) in
          let along = along_on at piece done is front in
          let assoc = append_assoc A (acts_along (next at piece done) front) (acts_along there back) in cc;
      state =
          let along = along_on at piece done is front in
          let split = after-append (rules_of at.options) at.state A (acts_along (next at piece done) front) in
          let first = (line at piece done is).state in cc;
      way =
          walk_on at piece done is (front ++ back) ∙ ap (after_text done.1) leads.way
          ∙ two_texts done.1 (walk script_limits (next at piece done) front).text (walk script_limits there back)
          ∙ ap (λ p. after_text (done.1 ++ (walk script_limits (next at piece done) front).text) (walk script_limits p back)) place
          ∙ ap (λ (w : Walk). after_text w.text (walk script_limits (place_after at (piece ∷ front) state) back)) (sym more);
    }

leads : (at : Place) (front back : List (List ℕ)) (state : State) → (walk script_limits at front).last ≡ Ok state → Leads at front back state
unfolding acts_along walk
leads at [] back state is =
    let same : at.state ≡ state = cc in
    let place : at ≡ place_after at [] state = same_place at.options at.state state at.number (0 + at.number) at.offset (0 + at.offset) same (omega arith) (omega arith) in
    record {
      trace = ap (λ p. acts_from script_limits p back) place;
      acts = ap (λ p. acts_along p back) place;
      state = sym same;
      way = ap (λ p. walk script_limits p back) place;
    }
leads at (piece ∷ front) back state is =
    by (λ done last. leads (next at piece done) front back state last) (judge script_limits at piece (excess_of script_limits at.offset piece)) refl where
      by : ((done : State × List ℕ) → (walk script_limits (next at piece done) front).last ≡ Ok state → Leads (next at piece done) front back state)
          → (j : Result (State × List ℕ) Bad) → judge script_limits at piece (excess_of script_limits at.offset piece) ≡ j → Leads at (piece ∷ front) back state
      by more (Ok done) e = further at piece front back state done e (more done (ap (λ (w : Walk). w.last) (sym (walk_on at piece done e front)) ∙ is))
      by more (Err bad) e =
          let ends : walk script_limits at (piece ∷ front) ≡ stopped (Err bad) = ap (λ j. onward j (λ s. walk script_limits (past_line at (length piece) s) front)) e in
          let last : Err bad ≡ Ok state = sym (ap (λ (w : Walk). w.last) ends) ∙ is in absurd cc

-- ---- the output

-- what a front prints begins the output
shown : (g : Option ℕ) (options : Options) (text more : List ℕ) (last : Result State Bad)
    → IsFront (lines_shown g text) (output_of g options (record { text = text ++ more; last = last })).bytes
shown None options text more (Ok s) = (more ++ end_part options s, append_assoc text more (end_part options s))
shown None options text more (Err bad) = (more ++ bad_text bad.line bad.cause, append_assoc text more (bad_text bad.line bad.cause))
shown (Some n) options text more (Ok s) = (_, refl)
shown (Some n) options text more (Err bad) = (_, refl)

shown-bad : (g : Option ℕ) (options : Options) (text : List ℕ) (bad : Bad)
    → output_of g options (after_text text (stopped (Err bad))) ≡ record { bytes = lines_shown g text ++ bad_text bad.line bad.cause; status = BadLine bad.line bad.cause }
shown-bad None options text bad = ap (λ t. record { bytes = t ++ bad_text bad.line bad.cause; status = BadLine bad.line bad.cause }) (append-nil text)
shown-bad (Some n) options text bad = refl

shown-end : (g : Option ℕ) (options : Options) (text : List ℕ) (s : State)
    → output_of g options (after_text text (stopped (Ok s))) ≡ record { bytes = lines_shown g text ++ state_shown g (end_state options s); status = Done }
shown-end None options text s = ap (λ t. record { bytes = t ++ state_shown None (end_state options s); status = Done }) (append-nil text)
shown-end (Some n) options text s = refl

-- status Done comes of a way without a bad line
ends_well : (g : Option ℕ) (options : Options) (w : Walk) → (output_of g options w).status ≡ Done → (s : State) × (w.last ≡ Ok s)
ends_well g options w is = by g w.last is where
  by : (g : Option ℕ) (last : Result State Bad) → (output_of g options (record { text = w.text; last = last })).status ≡ Done → (s : State) × (last ≡ Ok s)
  by None (Ok s) is = (s, refl)
  by None (Err bad) is = absurd cc
  by (Some n) (Ok s) is = (s, refl)
  by (Some n) (Err bad) is = absurd cc

-- ---- each cut

judged_there : (options : Options) (front : List (List ℕ)) (s : State) (piece : List ℕ)
    → judge script_limits (place_after (start options) front s) piece (excess_of script_limits (place_after (start options) front s).offset piece) ≡ judged options front s piece
judged_there options front s piece =
    let none : length (concat front) + 0 ≡ length (concat front) = omega arith in
    ap (λ o. judge script_limits (record { options = options; state = s; number = length front + 1; offset = o }) piece (excess_of script_limits o piece)) none

module _ (words : List (List ℕ)) (bytes : List ℕ) (options : Options) (is : options_of words ≡ Some options) where
  abbrev all : List (List ℕ)
  all = pieces (script_for options.generate bytes)

  trace_is : trace words bytes ≡ acts_from script_limits (start options) all
  unfolding trace
  trace_is = ap (λ o. trace_of o bytes) is

  rules_are : rules words ≡ rules_of options
  rules_are = ap (λ o. rules_of (unwrap_or o default_options)) is

  out_is : out words bytes ≡ output_of options.generate options (way options all)
  unfolding out walk_of
  out_is = ap (λ o. out_of o bytes) is

  abbrev there : List (List ℕ) → State → Place
  there front s = place_after (start options) front s

  module _ (front back : List (List ℕ)) (s : State) (cut : Cut options bytes front back s) where
    led : Leads (start options) front back s
    led = leads (start options) front back s cut.leads

    run_is : trace words bytes ≡ acts_along (start options) front ++ acts_from script_limits (there front s) back
    run_is = trace_is ∙ ap (acts_from script_limits (start options)) cut.whole ∙ led.trace

    way_is : out words bytes ≡ output_of options.generate options (after_text (way options front).text (walk script_limits (there front s) back))
    way_is = out_is ∙ ap (λ ps. output_of options.generate options (way options ps)) cut.whole ∙ ap (output_of options.generate options) led.way

  -- the last state of a run without a bad line
  last_is : (front : List (List ℕ)) (s : State) (cut : Cut options bytes front [] s) → end_state options s ≡ last_state (rules words) (trace words bytes)
  unfolding acts_from
  last_is front s cut =
      let acts = acts_of_rounds options options.rounds s in
      ap (λ t. after (rules_of options) t acts) (led front [] s cut).state
      ∙ sym (after-append (rules_of options) empty (acts_along (start options) front) acts)
      ∙ sym (ap (last_state (rules_of options)) (run_is front [] s cut))
      ∙ ap (λ r. last_state r (trace words bytes)) (sym rules_are)

  end_is : (front : List (List ℕ)) (s : State) (cut : Cut options bytes front [] s) → out words bytes ≡ record {
    bytes = lines_shown options.generate (way options front).text ++ state_shown options.generate (last_state (rules words) (trace words bytes));
    status = Done;
  }
  unfolding walk
  end_is front s cut =
      way_is front [] s cut
      ∙ shown-end options.generate options (way options front).text s
      ∙ ap (λ t. record { bytes = lines_shown options.generate (way options front).text ++ state_shown options.generate t; status = Done }) (last_is front s cut)

  printed : PrintedRun words bytes options
  unfolding acts_from acts_along walk
  printed = record {
    acts = acts_along (start options);
    none = refl;
    state = λ front back s cut. (led front back s cut).state ∙ ap (λ r. last_state r (acts_along (start options) front)) (sym rules_are);
    text = λ front back s cut.
        let rest = walk script_limits (there front s) back in
        let it = shown options.generate options (way options front).text rest.text rest.last in
        (it.0, ap (λ (o : Output). o.bytes) (way_is front back s cut) ∙ it.1);
    good = λ front back piece s done cut e.
        let at = there front s in
        let goes = judged_there options front s piece ∙ e in
        let good = line at piece done goes in
        let single = leads (start options) front (piece ∷ []) s cut.leads in
        let A = acts_along (start options) front in (
          good.command,
          acts_from script_limits (next at piece done) back,
          good.is,
          single.acts ∙ ap (λ acts. A ++ acts) (along_on at piece done goes [] ∙ append-nil (acts_of options s good.command)),
          run_is front (piece ∷ back) s cut ∙ ap (λ acts. A ++ acts) (from_on at piece done goes back),
          single.way
              ∙ ap (after_text (way options front).text) (walk_on at piece done goes [])
              ∙ ap (λ t. record { text = (way options front).text ++ t; last = Ok done.0 }) (append-nil done.1 ∙ good.text),
        );
    bad = λ front back piece s bad cut e.
        let at = there front s in
        let ends = judged_there options front s piece ∙ e in
        let A = acts_along (start options) front in (
          run_is front (piece ∷ back) s cut
              ∙ ap (λ j. A ++ acting (acts_of_line options s (line_of piece)) j (λ t. acts_from script_limits (past_line at (length piece) t) back)) ends
              ∙ append-nil A,
          way_is front (piece ∷ back) s cut
              ∙ ap (λ j. output_of options.generate options (after_text (way options front).text (onward j (λ t. walk script_limits (past_line at (length piece) t) back)))) ends
              ∙ shown-bad options.generate options (way options front).text bad,
        );
    ended = λ front s cut. (run_is front [] s cut, last_is front s cut, end_is front s cut);
    done = λ e.
        let well = ends_well options.generate options (way options all) (ap (λ (o : Output). o.status) (sym out_is) ∙ e) in
        (_, ap (λ (o : Output). o.bytes) (end_is all well.0 (record { whole = sym (append-nil all); leads = well.1 })));
  }

pub run_is_printed : (words : List (List ℕ)) (bytes : List ℕ) → RunIsPrinted words bytes
run_is_printed words bytes options is = printed words bytes options is

-- refused words make nothing happen
pub nothing_runs : (words : List (List ℕ)) (bytes : List ℕ) → options_of words ≡ None → trace words bytes ≡ []
unfolding trace
nothing_runs words bytes is = ap (λ o. trace_of o bytes) is
