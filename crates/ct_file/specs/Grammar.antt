-- Which tokens are which test file: a function for each rule of the grammar, with the rule before it.
use Rattle.std.specs.Prelude.{ℕ, List, [], ◌∷◌, ◌++◌, Option, Some, None, flat_map}
use Rattle.std.specs.List.{join_by}
use Rattle.cd_tokens.specs.Token.{Token, run, quoted}
use Rattle.ct_file.specs.declared.keyword.Keyword.TheVariants as words
use Rattle.ct_file.specs.Number.{WrittenNumber}
use Rattle.ct_file.specs.WrittenMove.{WrittenMove}
use Rattle.ct_file.specs.declared.tree.Method.{Method}
use Rattle.ct_file.specs.declared.tree.Method.TheVariants as methods
use Rattle.ct_file.specs.declared.tree.Outcome.{Outcome}
use Rattle.ct_file.specs.declared.tree.Outcome.TheVariants.{Replies, Rejects, Refused}
use Rattle.ct_file.specs.declared.tree.Message.{Message}
use Rattle.ct_file.specs.declared.tree.Change.{Change}
use Rattle.ct_file.specs.declared.tree.Action.{Action}
use Rattle.ct_file.specs.declared.tree.Action.TheVariants.{Call, Query, Upgrade, Reinstall}
use Rattle.ct_file.specs.declared.tree.User.{User}
use Rattle.ct_file.specs.declared.tree.Origin.{Origin}
use Rattle.ct_file.specs.declared.tree.Origin.TheVariants.{Made, Principal, Named}
use Rattle.ct_file.specs.declared.tree.StatementKind.{StatementKind}
use Rattle.ct_file.specs.declared.tree.StatementKind.TheVariants as kinds
use Rattle.ct_file.specs.declared.tree.Step.{Step}
use Rattle.ct_file.specs.declared.tree.Step.TheVariants as steps
use Rattle.ct_file.specs.declared.tree.Test.{Test}
use Rattle.ct_file.specs.declared.tree.File.{File}
use Rattle.cd_tokens.specs.Marks.{opening, closing, open_brace, close_brace, comma, dot, semicolon, equals}
use Rattle.ct_file.specs.Words.{word}

-- what may be left out
abbrev pub maybe : {A : Type 0} → (A → List Token) → Option A → List Token
maybe tokens None = []
maybe tokens (Some x) = tokens x

abbrev pub text_token : List ℕ → List Token
text_token written = quoted written ∷ []

abbrev pub number_token : WrittenNumber → List Token
number_token number = run number.written ∷ []

-- arguments ::= '(' tokens ')'
abbrev pub arguments_tokens : List Token → List Token
arguments_tokens tokens = opening ∷ (tokens ++ closing ∷ [])

-- outcome ::= 'replies' arguments? | 'rejects' NUMBER? TEXT? | 'refused'
abbrev pub outcome_tokens : Outcome → List Token
outcome_tokens (Replies arguments) = word words.Replies ∷ maybe arguments_tokens arguments
outcome_tokens (Rejects code text) = word words.Rejects ∷ (maybe number_token code ++ maybe text_token text)
outcome_tokens Refused = word words.Refused ∷ []

-- expected ::= outcome ('or' outcome)*, and nothing where it is left out
abbrev pub expected_tokens : List Outcome → List Token
expected_tokens outcomes = join_by outcome_tokens (word words.Or ∷ []) outcomes

-- NAME | TEXT
abbrev pub method_token : Method → Token
method_token (methods.Word name) = run name
method_token (methods.Text written) = quoted written

-- NAME '.' (NAME | TEXT) arguments expected?
abbrev pub message_tokens : Message → List Token
message_tokens message = run message.canister ∷ dot ∷ method_token message.method ∷ (arguments_tokens message.arguments ++ expected_tokens message.expected)

-- ',' TEXT
abbrev pub interface_tokens : List ℕ → List Token
interface_tokens written = comma ∷ quoted written ∷ []

-- NAME '=' TEXT (',' TEXT)? arguments? expected?
abbrev pub change_tokens : Change → List Token
change_tokens change = run change.canister ∷ equals ∷ quoted change.wasm
    ∷ (maybe interface_tokens change.interface ++ (maybe arguments_tokens change.arguments ++ expected_tokens change.expected))

-- action ::= 'call' NAME '.' (NAME | TEXT) arguments expected? | 'query' NAME '.' (NAME | TEXT) arguments expected?
--     | ('upgrade' | 'reinstall') NAME '=' TEXT (',' TEXT)? arguments? expected?
abbrev pub action_tokens : Action → List Token
action_tokens (Call message) = word words.Call ∷ message_tokens message
action_tokens (Query message) = word words.Query ∷ message_tokens message
action_tokens (Upgrade change) = word words.Upgrade ∷ change_tokens change
action_tokens (Reinstall change) = word words.Reinstall ∷ change_tokens change

-- by ::= 'as' NAME
abbrev pub by_tokens : List ℕ → List Token
by_tokens name = word words.As ∷ run name ∷ []

-- move ::= by? action
abbrev pub move_tokens : WrittenMove → List Token
move_tokens written = maybe by_tokens written.by ++ action_tokens written.action

-- 'principal' TEXT
abbrev pub principal_tokens : List ℕ → List Token
principal_tokens written = word words.Principal ∷ quoted written ∷ []

-- user ::= NAME ('=' 'principal' TEXT)?
abbrev pub user_tokens : User → List Token
user_tokens user = run user.name ∷ maybe (λ written. equals ∷ principal_tokens written) user.principal

-- 'with' 'cycles' NUMBER
abbrev pub cycles_tokens : WrittenNumber → List Token
cycles_tokens number = word words.With ∷ word words.Cycles ∷ number_token number

-- TEXT ',' TEXT arguments? ('with' 'cycles' NUMBER)? expected?, or ('principal' TEXT | NAME) ',' TEXT
abbrev pub origin_tokens : Origin → List Token
origin_tokens (Made creation) = quoted creation.wasm
    ∷ (interface_tokens creation.interface ++ (maybe arguments_tokens creation.arguments ++ (maybe cycles_tokens creation.cycles ++ expected_tokens creation.expected)))
origin_tokens (Principal id interface) = principal_tokens id ++ interface_tokens interface
origin_tokens (Named id interface) = run id ∷ interface_tokens interface

-- statement ::= 'user' user (',' user)* | 'time' NUMBER | by? (canister | action)
abbrev pub statement_tokens : StatementKind → List Token
statement_tokens (kinds.Users users) = word words.User ∷ join_by user_tokens (comma ∷ []) users
statement_tokens (kinds.Time number) = word words.Time ∷ number_token number
statement_tokens (kinds.Canister by name origin) = maybe by_tokens by ++ (word words.Canister ∷ run name ∷ equals ∷ origin_tokens origin)
statement_tokens (kinds.Move written) = move_tokens written

-- interleave ::= 'interleave' '{' (move ';')+ '}'
abbrev pub interleave_tokens : List WrittenMove → List Token
interleave_tokens moves = word words.Interleave ∷ open_brace ∷ (flat_map (λ written. move_tokens written ++ semicolon ∷ []) moves ++ close_brace ∷ [])

-- statement ';' | interleave
abbrev pub step_tokens : Step → List Token
step_tokens (steps.Statement statement) = statement_tokens statement ++ semicolon ∷ []
step_tokens (steps.Interleave moves) = interleave_tokens moves

-- test ::= 'test' TEXT '{' (statement ';' | interleave)* '}'
abbrev pub test_tokens : Test → List Token
test_tokens test = word words.Test ∷ quoted test.name ∷ open_brace ∷ (flat_map step_tokens test.steps ++ close_brace ∷ [])

-- file ::= (statement ';')* test*
abbrev pub file_tokens : File → List Token
file_tokens file = flat_map (λ statement. statement_tokens statement ++ semicolon ∷ []) file.preamble ++ flat_map test_tokens file.tests
