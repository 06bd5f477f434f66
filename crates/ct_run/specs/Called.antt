-- What comes of what is asked: a call is submitted if its callee accepts it, and rounds are made until no message is left.
use Rattle.std.specs.Prelude.{◌≡◌, ℕ, cond, false, if◌then◌else◌, nat_lt, ◌==◌, List, [], ◌∷◌, length, map, Option, Some, None, Result, IfOk}
use Rattle.std.specs.List.{concat}
use Rattle.ic_behaviour.specs.declared.call.Response.{Response}
use Rattle.ic_behaviour.specs.declared.call.Response.TheVariants.{Reply, Reject}
use Rattle.ic_behaviour.specs.declared.charge.Charge.{Charge}
use Rattle.ic_behaviour.specs.State.{State}
use Rattle.ic_behaviour.specs.Steps.{Rules}
use Rattle.ic_behaviour.specs.Round.{rounds}
use Rattle.ic_behaviour.specs.Runs.{Act, Delivers, Submits, after}
use Rattle.ic_behaviour.specs.Submitted.{submitted}
use Rattle.ic_mgmt_laws.specs.Managed.{managed_rules}
use Rattle.ic_state.specs.Seen.{answer_at}
use Rattle.ic_script.specs.declared.Ask.{Ask}
use Rattle.ic_asking.specs.Asking.{accepts_now, answer_now}
use Rattle.ct_outcomes.specs.declared.came.Came.{Came}
use Rattle.ct_outcomes.specs.declared.came.Came.TheVariants.{Replied, Rejected, Refused, TooManyCalls, RoundsWithoutEnd, NoAnswer}
use Rattle.ct_asked.specs.declared.asked.Asked.{Asked}
use Rattle.ct_asked.specs.declared.asked.Asked.TheVariants.{Call, Query, Nothing}

-- the most calls of users, and rounds after a call
abbrev pub most_calls : ℕ
most_calls = 1048576

abbrev pub most_rounds : ℕ
most_rounds = 100000

-- the rules by which messages are delivered
abbrev pub rules_of : Charge → Rules
rules_of charge = managed_rules charge.limit charge.price

-- what happens to a state, and what comes of it
pub record Doing : Type 0 where
  pub acts : List Act
  pub came : Came

-- nothing happens
abbrev pub nothing : Came → Doing
nothing came = record { acts = []; came = came }

abbrev pub after_acts : Charge → State → List Act → State
after_acts charge s acts = after (rules_of charge) s acts

-- ---- answers

abbrev pub came_of : Response → Came
came_of (Reply bytes) = Replied bytes
came_of (Reject code text) = Rejected code text

abbrev pub answered : Option Response → Came
answered None = NoAnswer
answered (Some response) = came_of response

-- what came of the call with a number, where no more rounds are made
abbrev pub came_now : ℕ → State → Came
came_now number s = if length s.messages == 0 then answered (answer_at s number) else RoundsWithoutEnd

-- ---- calls and queries

-- the deliveries of all rounds
unfoldable pub acts_of_rounds : Charge → State → List Act
acts_of_rounds charge s = map Delivers (concat (rounds (rules_of charge) most_rounds s))

-- a call is submitted, and rounds follow
abbrev pub call_act : Ask → Act
call_act ask = Submits ask.sender ask.callee ask.method ask.arg

abbrev pub with_call : State → Ask → State
with_call s ask = submitted s ask.sender ask.callee ask.method ask.arg

abbrev pub acts_of_call : Charge → State → Ask → List Act
acts_of_call charge s ask = call_act ask ∷ acts_of_rounds charge (with_call s ask)

-- the message of an accepted call comes last, and the call has the next number; no round is made
abbrev pub if_accepted : Charge → State → Ask → State × Option ℕ
if_accepted charge s ask = cond (accepts_now charge.limit charge.price s ask) (with_call s ask, Some (length s.requests)) (s, None)

-- what comes of it, by the number that the call gets
abbrev pub accepted_call : Charge → State → Ask → Doing
accepted_call charge s ask =
    record { acts = acts_of_call charge s ask; came = came_now (length s.requests) (after_acts charge s (acts_of_call charge s ask)) }

unfoldable pub called : Charge → State → Ask → Doing
called charge s ask =
    if nat_lt (length s.requests) most_calls then cond (accepts_now charge.limit charge.price s ask) (accepted_call charge s ask) (nothing Refused)
    else nothing TooManyCalls

-- what is asked of a state, or what comes in its place; a query leaves the state as it is
abbrev pub doing : Charge → State → Asked → Doing
doing charge s (Call ask) = called charge s ask
doing charge s (Query ask) = nothing (came_of (answer_now charge.limit charge.price s ask))
doing charge s (Nothing came) = nothing came

-- the state after what was done, and what came of it, unless memory ran out
abbrev pub Done : {E : Type 0} → Charge → State → Doing → Result (State × Came) E → Type 0
Done charge s d result = IfOk result (λ done. (done.0 ≡ after_acts charge s d.acts) × (done.1 ≡ d.came))
