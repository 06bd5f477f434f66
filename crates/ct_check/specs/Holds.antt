-- What must hold of a test file, in the order of its tokens: for each part of the grammar what is checked, and what is known after it; None where something does not hold.
use Rattle.std.specs.Prelude.{ℕ, Bool, true, false, ◌&&◌, ◌||◌, if◌then◌else◌, List, [], ◌∷◌, length, nat_lt, Option, Some, None, option_map, is_none, codes}
use Rattle.std.specs.List.{list_any}
use Rattle.ic_base.specs.Reader.{◌>>=◌}
use Rattle.cd_types.specs.declared.entry.TyRef.{TyRef}
use Rattle.cd_tokens.specs.Token.{Token}
use Rattle.cd_tokens.specs.ReadLabel.{text_of}
use Rattle.ct_file.specs.Number.{WrittenNumber}
use Rattle.ct_file.specs.WrittenMove.{WrittenMove}
use Rattle.ct_file.specs.declared.tree.Action.{Action}
use Rattle.ct_file.specs.declared.tree.Action.TheVariants as actions
use Rattle.ct_file.specs.declared.tree.Change.{Change}
use Rattle.ct_file.specs.declared.tree.Creation.{Creation}
use Rattle.ct_file.specs.declared.tree.File.{File}
use Rattle.ct_file.specs.declared.tree.Message.{Message}
use Rattle.ct_file.specs.declared.tree.Origin.{Origin}
use Rattle.ct_file.specs.declared.tree.Origin.TheVariants as origins
use Rattle.ct_file.specs.declared.tree.Outcome.{Outcome}
use Rattle.ct_file.specs.declared.tree.Outcome.TheVariants as outcomes
use Rattle.ct_file.specs.declared.tree.StatementKind.{StatementKind}
use Rattle.ct_file.specs.declared.tree.StatementKind.TheVariants as kinds
use Rattle.ct_file.specs.declared.tree.Step.{Step}
use Rattle.ct_file.specs.declared.tree.Step.TheVariants as steps
use Rattle.ct_file.specs.declared.tree.Test.{Test}
use Rattle.ct_file.specs.declared.tree.User.{User}
use Rattle.ct_names.specs.Printed.{is_test_name}
use Rattle.ct_scope.specs.Names.{Named, found, put}
use Rattle.ct_scope.specs.Scope.{within}
use Rattle.ct_scope.specs.declared.bound.Bound.{Bound}
use Rattle.ct_scope.specs.declared.bound.InterfaceId.{InterfaceId}
use Rattle.ct_scope.specs.declared.bound.InterfaceId.TheVariants as interfaces
use Rattle.ct_scope.specs.declared.bound.Kind.TheVariants as names_of
use Rattle.ct_sources.specs.Files.{Files}
use Rattle.ct_check.specs.declared.checked.Checked.{Checked}
use Rattle.ct_check.specs.declared.checked.CheckedAction.{CheckedAction}
use Rattle.ct_check.specs.declared.checked.CheckedAction.TheVariants as checked_actions
use Rattle.ct_check.specs.declared.checked.CheckedChange.{CheckedChange}
use Rattle.ct_check.specs.declared.checked.CheckedCreation.{CheckedCreation}
use Rattle.ct_check.specs.declared.checked.CheckedKind.{CheckedKind}
use Rattle.ct_check.specs.declared.checked.CheckedKind.TheVariants as checked_kinds
use Rattle.ct_check.specs.declared.checked.CheckedMessage.{CheckedMessage}
use Rattle.ct_check.specs.declared.checked.CheckedOrigin.{CheckedOrigin}
use Rattle.ct_check.specs.declared.checked.CheckedOrigin.TheVariants as checked_origins
use Rattle.ct_check.specs.declared.checked.CheckedOutcome.{CheckedOutcome}
use Rattle.ct_check.specs.declared.checked.CheckedOutcome.TheVariants as checked_outcomes
use Rattle.ct_check.specs.declared.checked.CheckedStep.{CheckedStep}
use Rattle.ct_check.specs.declared.checked.CheckedStep.TheVariants as checked_steps
use Rattle.ct_check.specs.declared.checked.CheckedTest.{CheckedTest}
use Rattle.ct_check.specs.declared.checked.CheckedUser.{CheckedUser}
use Rattle.ct_check.specs.declared.naming.Lets.{Lets}
use Rattle.ct_check.specs.declared.naming.Lets.TheVariants.{Bind, Refused, Unknown}
use Rattle.ct_check.specs.declared.statement.Where.{Where}
use Rattle.ct_check.specs.declared.statement.Where.TheVariants.{Alone, Interleave}
use Rattle.ct_check.specs.Filling.{Filling}
use Rattle.ct_check.specs.Moving.{Moving}
use Rattle.ct_check.specs.State.{State, binding, interfaced, settling, timed}
use Rattle.ct_check.specs.Rows.{used, by, canister, may_bind, principal_said, user_principal, may_be_time, wasm, interface, method, init_types}
use Rattle.ct_check.specs.Naming.{names}
use Rattle.ct_check.specs.Values.{TypesOf, are_values}

-- one after the other
unfoldable pub all_checked : {S A B : Type 0} → (S → A → Option (B × S)) → S → List A → Option (List B × S)
all_checked check state [] = Some ([], state)
all_checked check state (x ∷ xs) = do
  y ← check state x
  ys ← all_checked check y.1 xs
  Some (y.0 ∷ ys.0, ys.1)

-- a check of an A, which makes a B of it
abbrev pub Checks : Type 0 → Type 0 → Type 0
Checks A B = State → A → Option (B × State)

-- what f makes of the result
abbrev pub with_result : {A B : Type 0} → (A → B) → Option (A × State) → Option (B × State)
with_result f None = None
with_result f (Some checked) = Some (f checked.0, checked.1)

-- ---- arguments and outcomes

abbrev pub types_of : InterfaceId → List TyRef → TypesOf
types_of interface types = record { interface = interface; types = types }

-- what may be written in place of values is no part of arguments
abbrev pub admits : Lets → Bool
admits Unknown = false
admits Bind = true
admits Refused = true

-- not a value of its type; and what must hold of the names
unfoldable pub filled : Lets → TypesOf → Checks (List Token) Filling
filled lets at state tokens = do
  found ← names lets state tokens
  if are_values (admits lets) state at tokens then Some (record { tokens = tokens; names = found.0 }, found.1) else None

abbrev pub is_empty : {A : Type 0} → List A → Bool
is_empty [] = true
is_empty (x ∷ xs) = false

-- expected '(': arguments are left out where there are types
abbrev pub installed : TypesOf → Checks (Option (List Token)) (Option Filling)
installed at state None = if is_empty at.types then Some (None, state) else None
installed at state (Some tokens) = with_result (λ filling. Some filling) (filled Unknown at state tokens)

abbrev pub maybe_text : Option (List ℕ) → Option (Option (List ℕ))
maybe_text None = Some None
maybe_text (Some written) = text_of written >>= λ text. Some (Some text)

abbrev pub rejects : Option WrittenNumber → State → Option (List ℕ) → Option (CheckedOutcome × State)
rejects code state text = Some (checked_outcomes.Rejects (option_map (λ number. number.value) code) text, state)

abbrev pub outcome : Lets → TypesOf → Checks Outcome CheckedOutcome
outcome lets at state (outcomes.Replies None) = Some (checked_outcomes.Replies None, state)
outcome lets at state (outcomes.Replies (Some tokens)) = with_result (λ filling. checked_outcomes.Replies (Some filling)) (filled lets at state tokens)
outcome lets at state (outcomes.Rejects code written) = maybe_text written >>= rejects code state
outcome lets at state outcomes.Refused = Some (checked_outcomes.Refused, state)

-- what `let` may do among outcomes: bind nothing, where there are several
abbrev pub lets_among : Lets → List Outcome → Lets
lets_among lets expected = if nat_lt 1 (length expected) then Refused else lets

abbrev pub expected_checked : Lets → TypesOf → Checks (List Outcome) (List CheckedOutcome)
expected_checked lets at state expected = all_checked (outcome (lets_among lets expected) at) state expected

-- ---- moves

-- NAME '.' (NAME | TEXT) arguments expected?
unfoldable pub message : Lets → Checks Message CheckedMessage
message lets state written = do
  called ← canister state written.canister
  found ← method state called.1 written.method
  arguments ← filled Unknown (types_of called.1 found.1.args) state written.arguments
  expected ← expected_checked lets (types_of called.1 found.1.results) arguments.1 written.expected
  Some (record { canister = called.0; interface = called.1; name = found.0; method = found.1; arguments = arguments.0; expected = expected.0 }, expected.1)

-- the interface of a file, or the one in use
abbrev pub new_interface : State → InterfaceId → Option (List ℕ) → Option InterfaceId
new_interface state before None = Some before
new_interface state before (Some written) = interface state written

abbrev pub is_reply : Outcome → Bool
is_reply (outcomes.Replies arguments) = true
is_reply (outcomes.Rejects code text) = false
is_reply outcomes.Refused = false

-- a reply is among the outcomes; none is one
abbrev pub may_reply : List Outcome → Bool
may_reply expected = is_empty expected || list_any is_reply expected

-- the interface in use from here on
abbrev pub after_change : State → List ℕ → ℕ → InterfaceId → List Outcome → State
after_change state name slot new expected = if may_reply expected then interfaced state name slot new else state

-- NAME '=' TEXT (',' TEXT)? arguments? expected?
unfoldable pub change : Checks Change CheckedChange
change state written = do
  called ← canister state written.canister
  place ← wasm state written.wasm
  new ← new_interface state called.1 written.interface
  arguments ← installed (types_of new (init_types state new)) state written.arguments
  expected ← expected_checked Bind (types_of new []) arguments.1 written.expected
  Some (
    record { canister = called.0; wasm = place; before = called.1; interface = new; arguments = arguments.0; expected = expected.0 },
    after_change expected.1 written.canister called.0 new written.expected,
  )

-- in an interleave a query binds no name
abbrev pub lets_of_query : Where → Lets
lets_of_query Alone = Bind
lets_of_query Interleave = Refused

abbrev pub action : Where → Checks Action CheckedAction
action place state (actions.Call written) = with_result checked_actions.Call (message Bind state written)
action place state (actions.Query written) = with_result checked_actions.Query (message (lets_of_query place) state written)
action place state (actions.Upgrade written) = with_result checked_actions.Upgrade (change state written)
action place state (actions.Reinstall written) = with_result checked_actions.Reinstall (change state written)

-- move ::= by? action
abbrev pub made_move : Where → Checks WrittenMove Moving
made_move place state written = do
  sender ← by state written.by
  done ← action place state written.action
  Some (record { by = sender; action = done.0 }, done.1)

-- ---- statements

abbrev pub user_said : List ℕ → Option (List ℕ) → Option (List ℕ)
user_said name None = Some (user_principal name)
user_said name (Some written) = principal_said written

-- user ::= NAME ('=' 'principal' TEXT)?
abbrev pub user : Checks User CheckedUser
user state written = do
  principal ← if may_bind state written.name then user_said written.name written.principal else None
  Some (record { name = written.name; principal = principal }, binding state written.name names_of.User)

abbrev pub time : Checks WrittenNumber ℕ
time state number = if may_be_time state number.value then Some (number.value, timed state number.value) else None

-- TEXT ',' TEXT arguments? ('with' 'cycles' NUMBER)? expected?
unfoldable pub creation : Checks Creation CheckedCreation
creation state written = do
  place ← wasm state written.wasm
  new ← interface state written.interface
  arguments ← installed (types_of new (init_types state new)) state written.arguments
  expected ← expected_checked Bind (types_of new []) arguments.1 written.expected
  Some (record { wasm = place; interface = new; arguments = arguments.0; cycles = option_map (λ number. number.value) written.cycles; expected = expected.0 }, expected.1)

-- with the interface that the canister has
abbrev pub origin : State → Origin → Option ((CheckedOrigin × InterfaceId) × State)
origin state (origins.Made written) = do
  made ← creation state written
  Some ((checked_origins.Made made.0, made.0.interface), made.1)
origin state (origins.Principal id written) = do
  principal ← principal_said id
  new ← interface state written
  Some ((checked_origins.Principal principal new, new), state)
origin state (origins.Named id written) = do
  slot ← used state id
  new ← interface state written
  Some ((checked_origins.Named slot new, new), state)

-- the name is bound after all else
abbrev pub new_canister : State → List ℕ → Origin → Option (CheckedOrigin × State)
new_canister state name written = do
  from ← if may_bind state name then origin state written else None
  Some (from.0.0, binding from.1 name (names_of.Canister from.0.1))

abbrev pub kind : Checks StatementKind CheckedKind
kind state (kinds.Users users) = with_result checked_kinds.Users (all_checked user state users)
kind state (kinds.Time number) = with_result checked_kinds.Time (time state number)
kind state (kinds.Canister sender name written) = do
  maker ← by state sender
  from ← new_canister state name written
  Some (checked_kinds.Canister maker name from.0, from.1)
kind state (kinds.Move written) = with_result checked_kinds.Move (made_move Alone state written)

-- what a part binds is seen after it
abbrev pub settling_after : {B : Type 0} → Option (B × State) → Option (B × State)
settling_after None = None
settling_after (Some checked) = Some (checked.0, settling checked.1)

abbrev pub statement : Checks StatementKind CheckedKind
statement state written = settling_after (kind state written)

abbrev pub interleave : Checks (List WrittenMove) (List Moving)
interleave state moves = settling_after (all_checked (made_move Interleave) state moves)

abbrev pub step : Checks Step CheckedStep
step state (steps.Statement written) = with_result checked_steps.Statement (statement state written)
step state (steps.Interleave moves) = with_result checked_steps.Interleave (interleave state moves)

-- ---- the file

-- what is known where a test begins: the files, the names of the preamble and how many slots they have, its last time, and the names of the tests before
pub record Suite : Type 0 where
  pub sources : Files
  pub names : Named Bound
  pub slots : ℕ
  pub time : ℕ
  pub known : Named (Unit {0})

abbrev pub at_test : Suite → State
at_test suite = record { sources = suite.sources; scope = within suite.names suite.slots; time = suite.time }

abbrev pub knowing : Suite → List ℕ → Suite
knowing suite name = record { sources = suite.sources; names = suite.names; slots = suite.slots; time = suite.time; known = put suite.known name tt }

-- bad name of a test; two tests of one name
abbrev pub named_test : Suite → List ℕ → Option (List ℕ × Suite)
named_test suite written = text_of written >>= λ name. if is_test_name name && is_none (found suite.known name) then Some (name, knowing suite name) else None

-- what a test binds is not seen in the next
abbrev pub test : Suite → Test → Option (CheckedTest × Suite)
test suite written = do
  name ← named_test suite written.name
  parts ← all_checked step (at_test suite) written.steps
  Some (record { name = name.0; steps = parts.0 }, name.1)

-- `anonymous` and `ic` are bound
abbrev pub bind_first : State → State
bind_first state = settling (binding (binding state (codes "anonymous") names_of.User) (codes "ic") (names_of.Canister interfaces.Management))

-- what is known where the preamble begins
abbrev pub first : Files → State
first sources =
    bind_first (record { sources = sources; scope = within [] 0; time = 0 })

-- what is known where the first test begins
abbrev pub suite_after : State → Suite
suite_after state = record { sources = state.sources; names = state.scope.inner; slots = state.scope.slots; time = state.time; known = [] }

abbrev pub tests_after : State → List Test → Option (List CheckedTest)
tests_after state tests = option_map (λ checked. checked.0) (all_checked test (suite_after state) tests)

-- the file with slots in place of its names, if all holds that must
unfoldable pub checked_file : Files → File → Option Checked
checked_file sources file = do
  preamble ← all_checked statement (first sources) file.preamble
  tests ← tests_after preamble.1 file.tests
  Some (record { preamble = preamble.0; tests = tests })
