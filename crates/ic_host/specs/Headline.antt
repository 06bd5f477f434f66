-- What holds of the run that a script makes (IC Interface Specification, "Message execution", "Callback invocation" and "Invariants").
use Rattle.std.specs.Prelude.{◌≡◌, ℕ, ◌+◌, ◌*◌, ◌≤◌, nat_lt, true, false, cond, List, [], ◌∷◌, ◌++◌, Option, Some, None, Result, Ok, Err, is_some, slice_get}
use Rattle.std.specs.List.{remove, fold, AllByRecursion}
use Rattle.std.specs.Map.{lookup}
use Rattle.ic_behaviour.specs.declared.call.CallId.{CallId}
use Rattle.ic_behaviour.specs.declared.call.Origin.{Origin}
use Rattle.ic_behaviour.specs.declared.call.Response.{Response}
use Rattle.ic_behaviour.specs.declared.call.Message.{Message}
use Rattle.ic_behaviour.specs.declared.call.Message.TheVariants.{Call, Answer}
use Rattle.ic_behaviour.specs.declared.env.Admitted.{Admitted}
use Rattle.ic_behaviour.specs.declared.env.Refusal.{Refusal}
use Rattle.ic_behaviour.specs.declared.request.Request.{Request}
use Rattle.ic_behaviour.specs.State.{at, callee_of, Canister, State}
use Rattle.ic_behaviour.specs.Items.{places, held, Drained}
use Rattle.ic_behaviour.specs.Counted.{counted, dropped}
use Rattle.ic_behaviour.specs.Texts.{refuses, out_of_cycles, no_canister}
use Rattle.ic_behaviour.specs.Closing.{Handled, phase_after}
use Rattle.ic_behaviour.specs.Local.{admit, local}
use Rattle.ic_behaviour.specs.Deliver.{env_at, filled, answered_by, is_management, without}
use Rattle.ic_behaviour.specs.Installing.{enters_after}
use Rattle.ic_api.specs.System.{system_api}
use Rattle.ic_behaviour.specs.Steps.{Rules, step}
use Rattle.ic_behaviour.specs.Runs.{Act, Delivers, last_state}
use Rattle.ic_run_laws.specs.TrapKeeps.{TrapKeeps}
use Rattle.ic_run_laws.specs.AllDone.{AllDone}
use Rattle.ic_run_laws.specs.RulesKeep.{AnswersCall}
use Rattle.ic_mgmt_candid.specs.declared.denial.Denial.{Denial}
use Rattle.ic_mgmt_candid.specs.Checks.{◌>>=◌, ordered}
use Rattle.ic_mgmt_candid.specs.Denials.{denies}
use Rattle.ic_mgmt_laws.specs.Moves.{message_of, with_call, replied}
use Rattle.ic_behaviour.specs.declared.call.IncomingCall.{IncomingCall}
use Rattle.ic_mgmt_laws.specs.Rows.{row}
use Rattle.ic_mgmt_laws.specs.Manage.{controllers_in}

-- no call has two places
abbrev pub PlacedOnce : State → Type 0
PlacedOnce s = (id : CallId) → places s id ≤ 1

-- the cycles that are there and those that were burned are the created ones
abbrev pub Conserves : State → Type 0
Conserves s = s.created ≡ held s + s.burned

-- where no message is under way and no call waits for a canister to stop, every request is answered and no context is left
abbrev pub DoneWhenDrained : State → Type 0
DoneWhenDrained s = Drained s → AllDone s

-- the call of a canister whose answer was delivered has no place ever again
abbrev pub AnsweredOnce : Rules → List Act → Type 0
AnsweredOnce rules acts =
    (front middle back : List Act) (place : ℕ) (id : CallId) → acts ≡ front ++ Delivers place ∷ (middle ++ back)
    → AnswersCall (last_state rules front) place id → places (last_state rules (front ++ Delivers place ∷ middle)) id ≡ 0

-- a request that has an answer stays as it is, its answer too
abbrev pub AnswersAreFinal : Rules → List Act → Type 0
AnswersAreFinal rules acts =
    (front middle back : List Act) (k : ℕ) (r : Request) → acts ≡ front ++ (middle ++ back)
    → slice_get (last_state rules front).requests k ≡ Some r → is_some r.answer ≡ true
    → slice_get (last_state rules (front ++ middle)).requests k ≡ Some r

abbrev pub IsAnswer : Message → Type 0
IsAnswer (Call from sender callee method arg cycles) = ⊥
IsAnswer (Answer from sender response refund) = Unit {0}

-- what the canister that a message goes to does with it
abbrev pub work_on : Rules → State → Message → Canister → Handled
work_on rules s m c = local rules.enters (env_at s.time rules.limit rules.price) (counted s (callee_of m) c) m

-- from s to t by a message m to the canister c, which trapped after it did h
pub record TrapLeaves (rules : Rules) (s t : State) (place : ℕ) (m : Message) (c : Canister) (h : Handled) : Type 0 where
  -- the canister keeps its memories, globals and table, but for what a cleanup that returned did to them, its certified data
  -- and code, and its cycles but for the refund of an answer and the price; contexts that stay open keep theirs
  pub keeps : TrapKeeps rules.enters (env_at s.time rules.limit rules.price) (counted s (callee_of m) c) m h
  pub canister : lookup (at (callee_of m)) t.canisters ≡ Some (dropped h.canister)
  -- it stops where it was stopping and its last context closed, and else is in the phase that it was in
  pub phase : h.canister.phase ≡ phase_after c.phase h.canister.contexts
  -- every other canister stays as it was
  pub others : (key : List ℕ) → at (callee_of m) key ≡ false → lookup (at key) t.canisters ≡ lookup (at key) s.canisters
  -- no call goes out
  pub messages : (answers : List Message) × (t.messages ≡ remove s.messages place ++ answers) × AllByRecursion IsAnswer answers
  -- answers to users go into their requests
  pub requests : t.requests ≡ fold filled s.requests h.answers
  pub burned : t.burned ≡ s.burned + h.burned
  pub rest : (t.created ≡ s.created) × (t.next_canister ≡ s.next_canister) × (t.time ≡ s.time)

-- where the message at a place goes to a canister and its entry or its callback traps there
abbrev pub TrapsLeave : Rules → State → (place : ℕ) → Type 0
TrapsLeave rules s place =
    (m : Message) (c : Canister) → slice_get s.messages place ≡ Some m → lookup (at (callee_of m)) s.canisters ≡ Some c
    → is_some (work_on rules s m c).trapped ≡ true → TrapLeaves rules s (step rules s place) place m c (work_on rules s m c)

-- ---- calls that are turned away

-- what a canister tells the caller of a call that it does not begin: why it does not admit it, or that its balance is below
-- the price of all instructions that the limit allows
abbrev pub turned_away_at : Rules → Canister → Result Admitted Refusal → Option Response
turned_away_at rules c (Err refusal) = Some (refuses refusal)
turned_away_at rules c (Ok function) = cond (nat_lt c.balance (rules.limit * rules.price)) (Some out_of_cycles) None

-- what the canister that is there tells the caller, or what is told where none is; the management canister is not asked here
abbrev pub turned_away_by : Rules → State → (callee method : List ℕ) → Option Canister → Option Response
turned_away_by rules s callee method (Some c) = turned_away_at rules c (admit (counted s callee c) method)
turned_away_by rules s callee method None = cond (is_management callee) None (Some (no_canister callee))

-- what the caller is told where a call is turned away
abbrev pub turned_away : Rules → State → (callee method : List ℕ) → Option Response
turned_away rules s callee method = turned_away_by rules s callee method (lookup (at callee) s.canisters)

-- where the message at a place is a call that is turned away, all stays as it was, but that it is answered so and its cycles
-- go back
abbrev pub TurnedAwayLeaves : Rules → State → (place : ℕ) → Type 0
TurnedAwayLeaves rules s place =
    (from : Origin) (sender callee method arg : List ℕ) (cycles : ℕ) (response : Response)
    → slice_get s.messages place ≡ Some (Call from sender callee method arg cycles) → turned_away rules s callee method ≡ Some response
    → step rules s place ≡ answered_by callee (record { origin = from; response = response; refund = cycles }) (without s place)

-- ---- refused calls to the management canister

-- the state that a call leads to, or why it is refused
abbrev pub carried_out : (limit : ℕ) → State → IncomingCall → Result State Denial
carried_out limit s call = do
  asked ← ordered (controllers_in s) call.origin call.sender call.method call.arg
  row (enters_after system_api) limit (with_call call s) s call asked

-- where the message at a place is a call to the management canister and is refused, as an installation that traps is, all
-- stays as it was, but that it is answered and its cycles go back
abbrev pub RefusalsLeave : Rules → State → (place : ℕ) → Type 0
RefusalsLeave rules s place =
    (call : IncomingCall) (denial : Denial) → slice_get s.messages place ≡ Some (message_of call [])
    → carried_out rules.limit (without s place) call ≡ Err denial → step rules s place ≡ replied call (denies denial) (without s place)
