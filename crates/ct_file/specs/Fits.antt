-- What the names, texts, numbers and arguments of a test file may be.
use Rattle.std.specs.Prelude.{◌≡◌, ◌≢◌, ℕ, ◌-◌, ◌^◌, ◌≤◌, ◌==◌, ◌||◌, Bool, true, false, if◌then◌else◌, is_some, List, [], ◌∷◌, Option, Some, None, IfSome}
use Rattle.std.specs.List.{list_all, AllByRecursion}
use Rattle.std.specs.Str.{is_utf8}
use Rattle.cd_tokens.specs.Token.{Token, run, quoted, mark, arrow}
use Rattle.cd_tokens.specs.Label.{is_name, IsTextOf}
use Rattle.cd_tokens.specs.Lexed.{IsTokens}
use Rattle.cd_tokens.specs.Numeral.{IsNumeral}
use Rattle.cd_tokens.specs.ReadNumeral.{integer_of}
use Rattle.cd_tokens.specs.ReadString.{unescaped_of}
use Rattle.ct_file.specs.Codes.{opening_code, closing_code, semicolon_code, open_brace_code, close_brace_code}
use Rattle.ct_file.specs.declared.keyword.Keyword.TheVariants as words
use Rattle.ct_file.specs.Number.{WrittenNumber}
use Rattle.ct_file.specs.WrittenMove.{WrittenMove}
use Rattle.ct_file.specs.declared.tree.Method.{Method}
use Rattle.ct_file.specs.declared.tree.Method.TheVariants as methods
use Rattle.ct_file.specs.declared.tree.Outcome.{Outcome}
use Rattle.ct_file.specs.declared.tree.Outcome.TheVariants.{Replies, Rejects, Refused}
use Rattle.ct_file.specs.declared.tree.Message.{Message}
use Rattle.ct_file.specs.declared.tree.Change.{Change}
use Rattle.ct_file.specs.declared.tree.Action.{Action}
use Rattle.ct_file.specs.declared.tree.Action.TheVariants.{Call, Query, Upgrade, Reinstall}
use Rattle.ct_file.specs.declared.tree.User.{User}
use Rattle.ct_file.specs.declared.tree.Creation.{Creation}
use Rattle.ct_file.specs.declared.tree.Origin.{Origin}
use Rattle.ct_file.specs.declared.tree.Origin.TheVariants.{Made, Principal, Named}
use Rattle.ct_file.specs.declared.tree.StatementKind.{StatementKind}
use Rattle.ct_file.specs.declared.tree.StatementKind.TheVariants as kinds
use Rattle.ct_file.specs.declared.tree.Step.{Step}
use Rattle.ct_file.specs.declared.tree.Step.TheVariants as steps
use Rattle.ct_file.specs.declared.tree.Test.{Test}
use Rattle.ct_file.specs.declared.tree.File.{File}
use Rattle.ct_file.specs.Words.{spelling}
use Rattle.ct_file.specs.Grammar.{file_tokens}

-- NAME: any word
abbrev pub IsName : List ℕ → Type 0
IsName name = is_name name ≡ true

-- TEXT: a string whose bytes are UTF-8
abbrev pub SaysText : List ℕ → Type 0
SaysText written = (text : List ℕ) × IsTextOf text written

-- NUMBER: a number without a sign in its range
pub record IsNumber (least most : ℕ) (number : WrittenNumber) : Type 0 where
  pub says : IsNumeral number.value number.written
  pub least_is : least ≤ number.value
  pub most_is : number.value ≤ most

-- nanoseconds that a time may be
abbrev pub max_time : ℕ
max_time = 2 ^ 63 - 1

abbrev pub max_cycles : ℕ
max_cycles = 2 ^ 127 - 1

-- ---- arguments: the innermost bracket closes first, and `;` is where that is a brace

-- what is left to close after a closing mark, which must be that of the innermost bracket
abbrev pub closed_by : ℕ → List ℕ → Option (List ℕ)
closed_by m [] = None
closed_by m (k ∷ closers) = if m == k then Some closers else None

-- the innermost bracket that is open is a brace
abbrev pub in_braces : List ℕ → Bool
in_braces [] = false
in_braces (k ∷ closers) = k == close_brace_code

-- what is left to close after a token: the closing marks, the innermost first; None where the token may not be there
abbrev pub closers_after : List ℕ → Token → Option (List ℕ)
closers_after closers (mark m) =
    if m == opening_code then Some (closing_code ∷ closers) else if m == open_brace_code then Some (close_brace_code ∷ closers)
    else if m == closing_code || m == close_brace_code then closed_by m closers
    else if m == semicolon_code then (if in_braces closers then Some closers else None) else Some closers
closers_after closers (run r) = Some closers
closers_after closers (quoted s) = Some closers
closers_after closers arrow = Some closers

abbrev pub passes : {A : Type 0} → (A → Bool) → Option A → Bool
passes test None = false
passes test (Some x) = test x

-- no bracket is open
abbrev pub none_open : List ℕ → Bool
none_open [] = true
none_open (k ∷ closers) = false

-- none is open after the tokens, where these are left to close before them
unfoldable pub are_balanced : List Token → List ℕ → Bool
are_balanced [] closers = none_open closers
are_balanced (t ∷ tokens) closers = passes (are_balanced tokens) (closers_after closers t)

-- what is between the parentheses of arguments
abbrev pub AreArguments : List Token → Type 0
AreArguments tokens = are_balanced tokens [] ≡ true

-- ---- the parts of a file

-- one at least
abbrev pub OneOrMore : {A : Type 0} → (A → Type 0) → List A → Type 0
OneOrMore P [] = ⊥
OneOrMore P (x ∷ xs) = P x × AllByRecursion P xs

abbrev pub FitsOutcome : Outcome → Type 0
FitsOutcome (Replies arguments) = IfSome arguments AreArguments
FitsOutcome (Rejects code text) = IfSome code (IsNumber 1 5) × IfSome text SaysText
FitsOutcome Refused = Unit {0}

abbrev pub FitsMethod : Method → Type 0
FitsMethod (methods.Word name) = IsName name
FitsMethod (methods.Text written) = SaysText written

pub record FitsMessage (message : Message) : Type 0 where
  pub canister : IsName message.canister
  pub method : FitsMethod message.method
  pub arguments : AreArguments message.arguments
  pub expected : AllByRecursion FitsOutcome message.expected

pub record FitsChange (change : Change) : Type 0 where
  pub canister : IsName change.canister
  pub wasm : SaysText change.wasm
  pub interface : IfSome change.interface SaysText
  pub arguments : IfSome change.arguments AreArguments
  pub expected : AllByRecursion FitsOutcome change.expected

abbrev pub FitsAction : Action → Type 0
FitsAction (Call message) = FitsMessage message
FitsAction (Query message) = FitsMessage message
FitsAction (Upgrade change) = FitsChange change
FitsAction (Reinstall change) = FitsChange change

abbrev pub FitsMove : WrittenMove → Type 0
FitsMove written = IfSome written.by IsName × FitsAction written.action

abbrev pub FitsUser : User → Type 0
FitsUser user = IsName user.name × IfSome user.principal SaysText

pub record FitsCreation (creation : Creation) : Type 0 where
  pub wasm : SaysText creation.wasm
  pub interface : SaysText creation.interface
  pub arguments : IfSome creation.arguments AreArguments
  pub cycles : IfSome creation.cycles (IsNumber 0 max_cycles)
  pub expected : AllByRecursion FitsOutcome creation.expected

-- after `=` the word `principal` is no name
abbrev pub FitsOrigin : Origin → Type 0
FitsOrigin (Made creation) = FitsCreation creation
FitsOrigin (Principal id interface) = SaysText id × SaysText interface
FitsOrigin (Named id interface) = IsName id × (id ≢ spelling words.Principal) × SaysText interface

abbrev pub FitsStatement : StatementKind → Type 0
FitsStatement (kinds.Users users) = OneOrMore FitsUser users
FitsStatement (kinds.Time number) = IsNumber 0 max_time number
FitsStatement (kinds.Canister by name origin) = IfSome by IsName × IsName name × FitsOrigin origin
FitsStatement (kinds.Move written) = FitsMove written

abbrev pub FitsStep : Step → Type 0
FitsStep (steps.Statement statement) = FitsStatement statement
FitsStep (steps.Interleave moves) = OneOrMore FitsMove moves

abbrev pub FitsTest : Test → Type 0
FitsTest test = SaysText test.name × AllByRecursion FitsStep test.steps

abbrev pub FitsFile : File → Type 0
FitsFile file = AllByRecursion FitsStatement file.preamble × AllByRecursion FitsTest file.tests

-- ---- the file

-- a token of test files: a word or a number, a string without a fault, a mark
abbrev pub is_proper : Token → Bool
is_proper (run r) = is_name r || is_some (integer_of r)
is_proper (quoted s) = is_some (unescaped_of s)
is_proper (mark m) = true
is_proper arrow = false

-- the tokens of a text of test files, which is UTF-8
pub record AreTokens (tokens : List Token) (text : List ℕ) : Type 0 where
  pub utf8 : is_utf8 text ≡ true
  pub lexed : IsTokens true tokens text
  pub proper : list_all is_proper tokens ≡ true

-- the text is the file: its tokens are the file's
pub record IsFile (file : File) (text : List ℕ) : Type 0 where
  pub are : AreTokens (file_tokens file) text
  pub fits : FitsFile file
