-- Test files as functions that read tokens. No public clause cites them: they are what the reader does, and lemmas of proofs/
-- tie them to the grammar.
use Rattle.std.specs.Prelude.{ℕ, zero, suc, Bool, true, false, ◌&&◌, ◌||◌, not, nat_le, if◌then◌else◌, List, [], ◌∷◌, ◌++◌, length, drop, Option, Some, None}
use Rattle.ic_base.specs.Reader.{◌>>=◌}
use Rattle.cd_tokens.specs.Token.{Token, run, quoted, mark, arrow}
use Rattle.cd_tokens.specs.Front.{is_mark, starts}
use Rattle.cd_tokens.specs.Label.{is_name}
use Rattle.cd_tokens.specs.ReadLabel.{text_of}
use Rattle.cd_tokens.specs.ReadNumeral.{numeral_of}
use Rattle.ct_file.specs.Codes.{opening_code, closing_code, comma_code, dot_code, semicolon_code, equals_code, open_brace_code, close_brace_code}
use Rattle.ct_file.specs.declared.keyword.Keyword.TheVariants as words
use Rattle.ct_file.specs.Number.{WrittenNumber}
use Rattle.ct_file.specs.WrittenMove.{WrittenMove}
use Rattle.ct_file.specs.declared.tree.Method.{Method}
use Rattle.ct_file.specs.declared.tree.Method.TheVariants as methods
use Rattle.ct_file.specs.declared.tree.Outcome.{Outcome}
use Rattle.ct_file.specs.declared.tree.Outcome.TheVariants.{Replies, Rejects, Refused}
use Rattle.ct_file.specs.declared.tree.Message.{Message}
use Rattle.ct_file.specs.declared.tree.Change.{Change}
use Rattle.ct_file.specs.declared.tree.Action.{Action}
use Rattle.ct_file.specs.declared.tree.Action.TheVariants.{Call, Query, Upgrade, Reinstall}
use Rattle.ct_file.specs.declared.tree.User.{User}
use Rattle.ct_file.specs.declared.tree.Creation.{Creation}
use Rattle.ct_file.specs.declared.tree.Origin.{Origin}
use Rattle.ct_file.specs.declared.tree.Origin.TheVariants.{Made, Principal, Named}
use Rattle.ct_file.specs.declared.tree.StatementKind.{StatementKind}
use Rattle.ct_file.specs.declared.tree.StatementKind.TheVariants as kinds
use Rattle.ct_file.specs.declared.tree.Step.{Step}
use Rattle.ct_file.specs.declared.tree.Step.TheVariants as steps
use Rattle.ct_file.specs.declared.tree.Test.{Test}
use Rattle.ct_file.specs.declared.tree.File.{File}
use Rattle.ct_file.specs.Words.{is_word}
use Rattle.ct_file.specs.Fits.{max_time, max_cycles, closers_after, none_open}

-- a reader: a value from the front of the tokens, and the tokens after it
abbrev pub Reads : Type 0 → Type 0
Reads A = List Token → Option (A × List Token)

-- ---- single tokens

-- a word or a number that is no word
abbrev pub is_numeric : Token → Bool
is_numeric (run r) = not (is_name r)
is_numeric (quoted s) = false
is_numeric (mark m) = false
is_numeric arrow = false

abbrev pub is_quoted : Token → Bool
is_quoted (run r) = false
is_quoted (quoted s) = true
is_quoted (mark m) = false
is_quoted arrow = false

-- there are no tokens
abbrev pub are_none : List Token → Bool
are_none [] = true
are_none (t ∷ rest) = false

-- after a token that passes
abbrev pub past : (Token → Bool) → List Token → Option (List Token)
past test tokens = if starts test tokens then Some (drop 1 tokens) else None

-- what the first token is
abbrev pub first_at : {A : Type 0} → (Token → Option A) → Reads A
first_at what [] = None
first_at what (t ∷ rest) = what t >>= λ x. Some (x, rest)

abbrev pub token_name : Token → Option (List ℕ)
token_name (run r) = if is_name r then Some r else None
token_name (quoted s) = None
token_name (mark m) = None
token_name arrow = None

-- what is written between quotes, where it says a text
abbrev pub text_written : List ℕ → Option (List ℕ)
text_written s = text_of s >>= λ text. Some s

abbrev pub token_text : Token → Option (List ℕ)
token_text (run r) = None
token_text (quoted s) = text_written s
token_text (mark m) = None
token_text arrow = None

-- the number where it is in the range
abbrev pub in_range : ℕ → ℕ → Option ℕ → Option ℕ
in_range least most None = None
in_range least most (Some n) = if nat_le least n && nat_le n most then Some n else None

abbrev pub token_number : ℕ → ℕ → Token → Option WrittenNumber
token_number least most (run r) = in_range least most (numeral_of r) >>= λ n. Some (record { written = r; value = n })
token_number least most (quoted s) = None
token_number least most (mark m) = None
token_number least most arrow = None

abbrev pub token_method : Token → Option Method
token_method (run r) = if is_name r then Some (methods.Word r) else None
token_method (quoted s) = text_written s >>= λ written. Some (methods.Text written)
token_method (mark m) = None
token_method arrow = None

abbrev pub name_at : Reads (List ℕ)
name_at tokens = first_at token_name tokens

abbrev pub text_at : Reads (List ℕ)
text_at tokens = first_at token_text tokens

abbrev pub number_at : ℕ → ℕ → Reads WrittenNumber
number_at least most tokens = first_at (token_number least most) tokens

abbrev pub method_at : Reads Method
method_at tokens = first_at token_method tokens

-- ---- ways to make one function of others

-- what f makes of what is read
abbrev pub map_at : {A B : Type 0} → (A → B) → Reads A → Reads B
map_at f read tokens = read tokens >>= λ x. Some (f x.0, x.1)

-- one part and then another
abbrev pub both_at : {A B : Type 0} → Reads A → Reads B → Reads (A × B)
both_at read next tokens = do
  x ← read tokens
  y ← next x.1
  Some ((x.0, y.0), y.1)

-- a part after a token that passes
abbrev pub after_at : {A : Type 0} → (Token → Bool) → Reads A → Reads A
after_at test read tokens = past test tokens >>= read

-- a part before a token that passes
abbrev pub before_at : {A : Type 0} → (Token → Bool) → Reads A → Reads A
before_at test read tokens = do
  x ← read tokens
  rest ← past test x.1
  Some (x.0, rest)

-- a part, where a token that passes comes first
abbrev pub maybe_at : {A : Type 0} → (Token → Bool) → Reads A → Reads (Option A)
maybe_at test read tokens = if starts test tokens then map_at (λ x. Some x) read tokens else Some (None, tokens)

-- one way where a token that passes comes first, else another
abbrev pub or_at : {A : Type 0} → (Token → Bool) → Reads A → Reads A → Reads A
or_at test read other tokens = if starts test tokens then read tokens else other tokens

abbrev pub nothing_at : {A : Type 0} → Reads A
nothing_at tokens = None

-- parts in front of those that are read
abbrev pub with_front : {A : Type 0} → List A → Option (List A × List Token) → Option (List A × List Token)
with_front front read = read >>= λ xs. Some (front ++ xs.0, xs.1)

-- parts until they end, fewer than `fuel`
unfoldable pub parts_at : {A : Type 0} → (List Token → Bool) → Reads A → ℕ → Reads (List A)
parts_at ends read zero tokens = None
parts_at ends read (suc fuel) tokens =
    if ends tokens then Some ([], tokens) else (read tokens >>= λ x. with_front (x.0 ∷ []) (parts_at ends read fuel x.1))

-- parts until they end
abbrev pub many_at : {A : Type 0} → (List Token → Bool) → Reads A → Reads (List A)
many_at ends read tokens = parts_at ends read (suc (length tokens)) tokens

-- a part, and more until they end
abbrev pub some_at : {A : Type 0} → (List Token → Bool) → Reads A → Reads A → Reads (List A)
some_at ends read next tokens = read tokens >>= λ x. with_front (x.0 ∷ []) (many_at ends next x.1)

-- ---- arguments

-- a token of arguments, and what is left to close after it
abbrev pub token_inside : List ℕ → List Token → Option (Token × List ℕ × List Token)
token_inside closers [] = None
token_inside closers (t ∷ rest) = closers_after closers t >>= λ more. Some (t, more, rest)

-- a token in front of those that are read
abbrev pub with_token : Token → Option (List Token × List Token) → Option (List Token × List Token)
with_token t read = read >>= λ x. Some (t ∷ x.0, x.1)

-- tokens before the parenthesis that closes
unfoldable pub inside_at : List ℕ → Reads (List Token)
inside_at closers [] = None
inside_at closers (t ∷ rest) =
    if none_open closers && is_mark closing_code t then Some ([], t ∷ rest) else (closers_after closers t >>= λ more. with_token t (inside_at more rest))

unfoldable pub arguments_at : Reads (List Token)
arguments_at tokens = after_at (is_mark opening_code) (before_at (is_mark closing_code) (inside_at [])) tokens

abbrev pub maybe_arguments_at : Reads (Option (List Token))
maybe_arguments_at tokens = maybe_at (is_mark opening_code) arguments_at tokens

-- ---- outcomes

abbrev pub maybe_code_at : Reads (Option WrittenNumber)
maybe_code_at tokens = maybe_at is_numeric (number_at 1 5) tokens

abbrev pub maybe_text_at : Reads (Option (List ℕ))
maybe_text_at tokens = maybe_at is_quoted text_at tokens

abbrev pub rejects_of : Option WrittenNumber × Option (List ℕ) → Outcome
rejects_of x = Rejects x.0 x.1

-- the code and the text of a reject, after its word
unfoldable pub reject_at : Reads (Option WrittenNumber × Option (List ℕ))
reject_at tokens = both_at maybe_code_at maybe_text_at tokens

abbrev pub refused_at : Reads Outcome
refused_at tokens = past (is_word words.Refused) tokens >>= λ rest. Some (Refused, rest)

unfoldable pub outcome_at : Reads Outcome
outcome_at tokens =
    or_at (is_word words.Replies) (map_at (λ x. Replies x) (after_at (is_word words.Replies) maybe_arguments_at))
    (or_at (is_word words.Rejects) (map_at rejects_of (after_at (is_word words.Rejects) reject_at)) (or_at (is_word words.Refused) refused_at nothing_at)) tokens

abbrev pub starts_outcome : List Token → Bool
starts_outcome tokens = starts (is_word words.Replies) tokens || starts (is_word words.Rejects) tokens || starts (is_word words.Refused) tokens

-- the token before another part does not come first
abbrev pub starts_not : (Token → Bool) → List Token → Bool
starts_not test tokens = not (starts test tokens)

-- an outcome after `or`
abbrev pub alternative_at : Reads Outcome
alternative_at tokens = after_at (is_word words.Or) outcome_at tokens

unfoldable pub outcomes_at : Reads (List Outcome)
outcomes_at tokens = some_at (starts_not (is_word words.Or)) outcome_at alternative_at tokens

unfoldable pub expected_at : Reads (List Outcome)
expected_at tokens = if starts_outcome tokens then outcomes_at tokens else Some ([], tokens)

-- ---- moves

abbrev pub message_of : List ℕ × (Method × (List Token × List Outcome)) → Message
message_of x = record { canister = x.0; method = x.1.0; arguments = x.1.1.0; expected = x.1.1.1 }

unfoldable pub message_at : Reads Message
message_at tokens = map_at message_of (both_at name_at (after_at (is_mark dot_code) (both_at method_at (both_at arguments_at expected_at)))) tokens

abbrev pub interface_at : Reads (List ℕ)
interface_at tokens = after_at (is_mark comma_code) text_at tokens

abbrev pub maybe_interface_at : Reads (Option (List ℕ))
maybe_interface_at tokens = maybe_at (is_mark comma_code) interface_at tokens

abbrev pub change_of : List ℕ × (List ℕ × (Option (List ℕ) × (Option (List Token) × List Outcome))) → Change
change_of x = record { canister = x.0; wasm = x.1.0; interface = x.1.1.0; arguments = x.1.1.1.0; expected = x.1.1.1.1 }

unfoldable pub change_at : Reads Change
change_at tokens = map_at change_of (both_at name_at (after_at (is_mark equals_code) (both_at text_at (both_at maybe_interface_at (both_at maybe_arguments_at expected_at))))) tokens

unfoldable pub action_at : Reads Action
action_at tokens =
    or_at (is_word words.Call) (map_at (λ x. Call x) (after_at (is_word words.Call) message_at))
    (or_at (is_word words.Query) (map_at (λ x. Query x) (after_at (is_word words.Query) message_at))
    (or_at (is_word words.Upgrade) (map_at (λ x. Upgrade x) (after_at (is_word words.Upgrade) change_at))
    (or_at (is_word words.Reinstall) (map_at (λ x. Reinstall x) (after_at (is_word words.Reinstall) change_at)) nothing_at))) tokens

abbrev pub maybe_by_at : Reads (Option (List ℕ))
maybe_by_at tokens = maybe_at (is_word words.As) (after_at (is_word words.As) name_at) tokens

abbrev pub move_of : Option (List ℕ) × Action → WrittenMove
move_of x = record { by = x.0; action = x.1 }

-- a move by someone
abbrev pub move_by_at : Option (List ℕ) → Reads WrittenMove
move_by_at by tokens = map_at (λ action. move_of (by, action)) action_at tokens

-- ---- statements

abbrev pub principal_at : Reads (List ℕ)
principal_at tokens = after_at (is_word words.Principal) text_at tokens

abbrev pub maybe_principal_at : Reads (Option (List ℕ))
maybe_principal_at tokens = maybe_at (is_mark equals_code) (after_at (is_mark equals_code) principal_at) tokens

abbrev pub user_of : List ℕ × Option (List ℕ) → User
user_of x = record { name = x.0; principal = x.1 }

unfoldable pub user_at : Reads User
user_at tokens = map_at user_of (both_at name_at maybe_principal_at) tokens

-- a user after a comma
abbrev pub next_user_at : Reads User
next_user_at tokens = after_at (is_mark comma_code) user_at tokens

unfoldable pub users_at : Reads (List User)
users_at tokens = some_at (starts_not (is_mark comma_code)) user_at next_user_at tokens

abbrev pub cycles_at : Reads WrittenNumber
cycles_at tokens = after_at (is_word words.With) (after_at (is_word words.Cycles) (number_at 0 max_cycles)) tokens

abbrev pub maybe_cycles_at : Reads (Option WrittenNumber)
maybe_cycles_at tokens = maybe_at (is_word words.With) cycles_at tokens

abbrev pub creation_of : List ℕ × (List ℕ × (Option (List Token) × (Option WrittenNumber × List Outcome))) → Creation
creation_of x = record { wasm = x.0; interface = x.1.0; arguments = x.1.1.0; cycles = x.1.1.1.0; expected = x.1.1.1.1 }

unfoldable pub creation_at : Reads Creation
creation_at tokens = map_at creation_of (both_at text_at (both_at interface_at (both_at maybe_arguments_at (both_at maybe_cycles_at expected_at)))) tokens

-- a canister that is there under a principal, and by a name
abbrev pub principal_origin : List ℕ × List ℕ → Origin
principal_origin x = Principal x.0 x.1

abbrev pub named_origin : List ℕ × List ℕ → Origin
named_origin x = Named x.0 x.1

abbrev pub principal_origin_at : Reads Origin
principal_origin_at tokens = map_at principal_origin (both_at principal_at interface_at) tokens

abbrev pub named_origin_at : Reads Origin
named_origin_at tokens = map_at named_origin (both_at name_at interface_at) tokens

unfoldable pub origin_at : Reads Origin
origin_at tokens = or_at is_quoted (map_at (λ x. Made x) creation_at) (or_at (is_word words.Principal) principal_origin_at named_origin_at) tokens

abbrev pub canister_by : Option (List ℕ) → List ℕ × Origin → StatementKind
canister_by by x = kinds.Canister by x.0 x.1

-- the name of a canister and where it comes from, after its word
unfoldable pub canister_at : Reads (List ℕ × Origin)
canister_at tokens = both_at name_at (after_at (is_mark equals_code) origin_at) tokens

-- a canister or a move, after who makes it
abbrev pub canister_or_move_by_at : Option (List ℕ) → Reads StatementKind
canister_or_move_by_at by tokens = or_at (is_word words.Canister) (map_at (canister_by by) (after_at (is_word words.Canister) canister_at)) (map_at (λ x. kinds.Move x) (move_by_at by)) tokens

unfoldable pub canister_or_move_at : Reads StatementKind
canister_or_move_at tokens = maybe_by_at tokens >>= λ by. canister_or_move_by_at by.0 by.1

unfoldable pub kind_at : Reads StatementKind
kind_at tokens =
    or_at (is_word words.User) (map_at (λ x. kinds.Users x) (after_at (is_word words.User) users_at))
    (or_at (is_word words.Time) (map_at (λ x. kinds.Time x) (after_at (is_word words.Time) (number_at 0 max_time))) canister_or_move_at) tokens

unfoldable pub statement_at : Reads StatementKind
statement_at tokens = before_at (is_mark semicolon_code) kind_at tokens

-- ---- tests and files

abbrev pub move_at : Reads WrittenMove
move_at tokens = map_at move_of (both_at maybe_by_at action_at) tokens

unfoldable pub move_line_at : Reads WrittenMove
move_line_at tokens = before_at (is_mark semicolon_code) move_at tokens

unfoldable pub moves_at : Reads (List WrittenMove)
moves_at tokens = some_at (starts (is_mark close_brace_code)) move_line_at move_line_at tokens

unfoldable pub interleave_at : Reads (List WrittenMove)
interleave_at tokens = after_at (is_word words.Interleave) (after_at (is_mark open_brace_code) (before_at (is_mark close_brace_code) moves_at)) tokens

unfoldable pub step_at : Reads Step
step_at tokens = or_at (is_word words.Interleave) (map_at (λ x. steps.Interleave x) interleave_at) (map_at (λ x. steps.Statement x) statement_at) tokens

unfoldable pub steps_at : Reads (List Step)
steps_at tokens = many_at (starts (is_mark close_brace_code)) step_at tokens

abbrev pub test_of : List ℕ × List Step → Test
test_of x = record { name = x.0; steps = x.1 }

unfoldable pub test_at : Reads Test
test_at tokens = map_at test_of (after_at (is_word words.Test) (both_at text_at (after_at (is_mark open_brace_code) (before_at (is_mark close_brace_code) steps_at)))) tokens

unfoldable pub tests_at : Reads (List Test)
tests_at tokens = many_at are_none test_at tokens

-- the preamble ends before the first test
abbrev pub ends_preamble : List Token → Bool
ends_preamble tokens = are_none tokens || starts (is_word words.Test) tokens

unfoldable pub preamble_at : Reads (List StatementKind)
preamble_at tokens = many_at ends_preamble statement_at tokens

abbrev pub file_of : List StatementKind × List Test → File
file_of x = record { preamble = x.0; tests = x.1 }

-- the file that all the tokens are
unfoldable pub file_at : Reads File
file_at tokens = map_at file_of (both_at preamble_at tests_at) tokens
