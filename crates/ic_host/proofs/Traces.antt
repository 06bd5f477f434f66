-- The run that a script makes is a run, and its states are those of the way through the script.
use Rattle.std.proofs.Common.{◌≡◌, ◌≤◌, ℕ, Bool, true, false, cond, List, [], ◌∷◌, length, Option, Some, None, Result, Ok, Err, refl, sym, ap, ◌∙◌, subst, inl, inr, arith}
use Rattle.std.specs.Prelude.{nat_lt, unwrap_or}
use Rattle.std.proofs.lemmas.Bool.{cases_Bool, ltb-true, ltb-false}
use Rattle.ic_outside.specs.Limits.{Limits, Excess, LongLine, LongScript, script_limits, excess_of}
use Rattle.ic_outside.specs.Pieces.{pieces, line_of}
use Rattle.ic_script.specs.declared.Command.{Command}
use Rattle.ic_script.specs.declared.Command.TheVariants.{Nothing, Call, Query, Run, Drain, Time, Decode, Show, Encode, Upgradable, Witness, Pick}
use Rattle.ic_script.specs.declared.Command.TheVariants as kind
use Rattle.ic_script.specs.declared.LineCause.{LineCause}
use Rattle.ic_script.specs.declared.LineCause.TheVariants.{Back, Calls}
use Rattle.ic_script.proofs.Ranges.{time_of_line}
use Rattle.ic_behaviour.specs.State.{State}
use Rattle.ic_behaviour.specs.Sound.{Sound}
use Rattle.ic_behaviour.specs.Submitted.{empty}
use Rattle.ic_behaviour.proofs.Ties.{sound as sound_from}
use Rattle.ic_behaviour.proofs.Changes.{empty_tallied}
use Rattle.ic_behaviour.specs.Steps.{IsEligible}
use Rattle.ic_behaviour.specs.Runs.{Delivers, Submits, after, AreAllowed, IsRun}
use Rattle.ic_behaviour.proofs.RunLaws.{delivers_allowed, allowed-append}
use Rattle.ic_schedule.specs.Picks.{is_eligible}
use Rattle.ic_schedule.proofs.Eligibles.{is-eligible}
use Rattle.ic_options.specs.declared.Options.{Options}
use Rattle.ic_script_runner.specs.Options.{rules_of, default_options}
use Rattle.ic_options.specs.Options.{options_of}
use Rattle.ic_script_runner.specs.AfterCommand.{accepts_now, acts_of, acts_of_rounds, fault_of}
use Rattle.ic_script_runner.specs.AfterLine.{after_line}
use Rattle.ic_script_runner.specs.Script.{script_for}
use Rattle.ic_script_runner.specs.Walk.{Place, start, past_line, judge, judge_line}
use Rattle.ic_host.specs.Trace.{acts_of_spelled, acts_of_line, acting, acts_from, trace_of, trace, rules}
use Rattle.ic_asking.proofs.Keeps.{after_sound, rounds_eligible}
use Rattle.ic_script_runner.proofs.Keeps.{rules_keep}
use Rattle.ic_host.proofs.Cuts.{spells}

-- the acts of rounds, where they begin in a sound state
rounds_allowed : (options : Options) (count : ℕ) (s : State) → Sound s → AreAllowed IsEligible (rules_of options) s (acts_of_rounds options count s)
unfolding acts_of_rounds
rounds_allowed options count s sound =
    delivers_allowed (rules_of options) s _ (rounds_eligible (rules_of options) (rules_keep options) count s sound)

-- a time that a line spells
abbrev IsTimely : Command → Type 0
IsTimely c = (time : ℕ) → c ≡ Time time → time ≤ 9223372036854775807

-- a command that may come now makes allowed acts
command_allowed : (options : Options) (s : State) (c : Command) → Sound s → IsTimely c → fault_of s c ≡ None
    → AreAllowed IsEligible (rules_of options) s (acts_of options s c)
command_allowed options s Nothing sound within now = tt
command_allowed options s (Query ask) sound within now = tt
command_allowed options s (Run count) sound within now = rounds_allowed options count s sound
command_allowed options s Drain sound within now = rounds_allowed options options.rounds s sound
command_allowed options s kind.State sound within now = tt
command_allowed options s (Decode expected bytes) sound within now = tt
command_allowed options s (Show expected bytes) sound within now = tt
command_allowed options s (Encode expected text) sound within now = tt
command_allowed options s (Upgradable from to) sound within now = tt
command_allowed options s (Witness paths) sound within now = tt
command_allowed options s (Pick place) sound within now = by (is_eligible s place) refl where
  by : (b : Bool) → is_eligible s place ≡ b → AreAllowed IsEligible (rules_of options) s (cond b (Delivers place ∷ []) [])
  by true goes = (is-eligible s place goes, tt)
  by false stays = tt
command_allowed options s (Call ask) sound within now = by (accepts_now options s ask) where
  by : (b : Bool) → AreAllowed IsEligible (rules_of options) s (cond b (Submits ask.sender ask.callee ask.method ask.arg ∷ []) [])
  by true = (
    elim (cases_Bool (nat_lt (length s.requests) 1048576)) [
      | inl few ↦ omega (arith, ltb-true _ _ few)
      | inr many ↦ let bad : Some Calls ≡ None = rw many at now in cc
    ],
    tt,
  )
  by false = tt
command_allowed options s (Time time) sound within now = (
  (
    elim (cases_Bool (nat_lt time s.time)) [
      | inl before ↦ let bad : Some Back ≡ None = rw before at now in cc
      | inr later ↦ ltb-false _ _ later
    ],
    within time refl,
  ),
  tt,
)

-- a good line: its acts are allowed, and the state is that after them
line_good : (options : Options) (s : State) (line : List ℕ) (done : State × List ℕ) → Sound s → after_line options s line ≡ Ok done
    → AreAllowed IsEligible (rules_of options) s (acts_of_line options s line) × (done.0 ≡ after (rules_of options) s (acts_of_line options s line))
line_good options s line done sound is =
    let good = spells options s line done is in
    let allowed = command_allowed options s good.command sound (λ time e. time_of_line line time (good.is ∙ ap (λ c. Ok c) e)) good.free in (
      subst (λ r. AreAllowed IsEligible (rules_of options) s (acts_of_spelled options s r)) (sym good.is) allowed,
      good.state ∙ ap (λ r. after (rules_of options) s (acts_of_spelled options s r)) (sym good.is),
    )

-- what the pieces make happen is allowed in its turn
acts_allowed : (limits : Limits) (at : Place) (ps : List (List ℕ)) → Sound at.state
    → AreAllowed IsEligible (rules_of at.options) at.state (acts_from limits at ps)
unfolding acts_from
acts_allowed limits at [] sound = rounds_allowed at.options at.options.rounds at.state sound
acts_allowed limits at (piece ∷ ps) sound =
    judged (λ state there. acts_allowed limits (past_line at (length piece) state) ps there) (excess_of limits at.offset piece) where
      judged : ((state : State) → Sound state → AreAllowed IsEligible (rules_of at.options) state (acts_from limits (past_line at (length piece) state) ps))
          → (excess : Option Excess)
          → AreAllowed IsEligible (rules_of at.options) at.state
          (acting (acts_of_line at.options at.state (line_of piece)) (judge limits at piece excess) (λ state. acts_from limits (past_line at (length piece) state) ps))
      judged more (Some LongLine) = tt
      judged more (Some LongScript) = tt
      judged more None = within (after_line at.options at.state (line_of piece)) refl where
        within : (r : Result (State × List ℕ) LineCause) → after_line at.options at.state (line_of piece) ≡ r
            → AreAllowed IsEligible (rules_of at.options) at.state
            (acting (acts_of_line at.options at.state (line_of piece)) (judge_line at (length piece) r) (λ state. acts_from limits (past_line at (length piece) state) ps))
        within (Err cause) is = tt
        within (Ok done) is =
            let rules = rules_of at.options in
            let acts = acts_of_line at.options at.state (line_of piece) in
            let good = line_good at.options at.state (line_of piece) done sound is in
            let there = after_sound rules (rules_keep at.options) at.state acts sound good.0 in
            let Q = λ (t : State). AreAllowed IsEligible rules t (acts_from limits (past_line at (length piece) t) ps) in
            let rest : Q (after rules at.state acts) = more _ there in
            let P = λ (t : State). AreAllowed IsEligible rules (after rules at.state acts) (acts_from limits (past_line at (length piece) t) ps) in
            allowed-append IsEligible rules at.state acts _ good.0 (subst P (sym good.1) rest)

pub empty_sound : Sound empty
empty_sound = sound_from empty empty_tallied

-- the acts of every script are a run
pub trace_is_run : (words : List (List ℕ)) (bytes : List ℕ) → IsRun (rules words) (trace words bytes)
unfolding trace
trace_is_run words bytes = accepted (options_of words) where
  accepted : (o : Option Options) → IsRun (rules_of (unwrap_or o default_options)) (trace_of o bytes)
  accepted None = tt
  accepted (Some options) = acts_allowed script_limits (start options) (pieces (script_for options.generate bytes)) empty_sound
