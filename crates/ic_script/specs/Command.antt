-- What the words of a command mean.
use Rattle.std.specs.Prelude.{ℕ, ◌&&◌, nat_le, nat_lt, bytes_eq, codes, List, [], ◌∷◌, length, if◌then◌else◌, Result, Ok, Err, ok_or}
use Rattle.std.specs.Result.{result_ok}
use Rattle.std.specs.Str.Parse.{digits_value}
use Rattle.ic_principal.specs.Text.{principal_of}
use Rattle.hex.specs.Hex.{decode_of}
use Rattle.ic_script.specs.declared.command.Ask.{Ask}
use Rattle.ic_script.specs.declared.command.Command.{Command}
use Rattle.ic_script.specs.declared.command.Command.TheVariants.{Call, Query, Run, Drain, Time, State, Decode, Show, Encode, Upgradable, Witness, Pick}
use Rattle.ic_script.specs.declared.line_cause.LineCause.{LineCause}
use Rattle.ic_script.specs.declared.line_cause.LineCause.TheVariants.{Form, Principal, Hex, Number, Size}
use Rattle.ic_script.specs.Steps.{◌>>=◌}
use Rattle.ic_script.specs.Words.{is_numeral}
use Rattle.ic_script.specs.Paths.{are_few, paths_word}

-- the principal that a word names
abbrev pub principal_word : List ℕ → Result (List ℕ) LineCause
principal_word word = ok_or (principal_of word) Principal

-- bytes that are not too many
abbrev pub within_size : List ℕ → Result (List ℕ) LineCause
within_size bytes = if nat_lt 2097152 (length bytes) then Err Size else Ok bytes

-- the bytes that a word spells: none for a dash, else those of its hexadecimal digits, in either case
abbrev pub bytes_word : List ℕ → Result (List ℕ) LineCause
bytes_word word =
    if bytes_eq word (codes "-") then Ok [] else (ok_or (result_ok (decode_of word)) Hex >>= within_size)

-- the number that a word spells, where it is at most so large
abbrev pub number_word : (most : ℕ) → List ℕ → Result ℕ LineCause
number_word most word =
    if is_numeral word && nat_le (digits_value 10 word) most then Ok (digits_value 10 word) else Err Number

-- a request in four words: sender, callee, method of at most 20,000 bytes, argument
unfoldable pub ask_of : List (List ℕ) → Result Ask LineCause
ask_of (sender ∷ callee ∷ method ∷ arg ∷ []) =
    if nat_lt 20000 (length method) then Err Form
    else (principal_word sender >>= λ from. principal_word callee >>= λ to. bytes_word arg >>= λ bytes.
    Ok (record { sender = from; callee = to; method = method; arg = bytes }))
ask_of _ = Err Form

-- bytes in two words
unfoldable pub bytes_pair : List (List ℕ) → Result (List ℕ × List ℕ) LineCause
bytes_pair (first ∷ second ∷ []) =
    bytes_word first >>= λ one. bytes_word second >>= λ other. Ok (one, other)
bytes_pair _ = Err Form

-- up to that many rounds
unfoldable pub run_command : List (List ℕ) → Result Command LineCause
run_command (count ∷ []) = number_word 1000000 count >>= λ n. Ok (Run n)
run_command _ = Err Form

-- the delivery of the message at a place
unfoldable pub pick_command : List (List ℕ) → Result Command LineCause
pick_command (place ∷ []) = number_word 1000000 place >>= λ n. Ok (Pick n)
pick_command _ = Err Form

-- what proves the state at some paths: not too many, which is looked at before their digits are
unfoldable pub witness_command : List (List ℕ) → Result Command LineCause
witness_command (paths ∷ []) = if are_few paths then (paths_word paths >>= λ ps. Ok (Witness ps)) else Err Form
witness_command _ = Err Form

-- a command without further words
abbrev pub alone : Command → List (List ℕ) → Result Command LineCause
alone command [] = Ok command
alone command (word ∷ words) = Err Form

-- the time
unfoldable pub time_command : List (List ℕ) → Result Command LineCause
time_command (time ∷ []) = number_word 9223372036854775807 time >>= λ n. Ok (Time n)
time_command _ = Err Form

-- a command by its first word
unfoldable pub command_of_words : List (List ℕ) → Result Command LineCause
command_of_words [] = Err Form
command_of_words (verb ∷ words) =
    if bytes_eq verb (codes "call") then (ask_of words >>= λ ask. Ok (Call ask))
    else if bytes_eq verb (codes "query") then (ask_of words >>= λ ask. Ok (Query ask))
    else if bytes_eq verb (codes "run") then run_command words
    else if bytes_eq verb (codes "drain") then alone Drain words
    else if bytes_eq verb (codes "time") then time_command words
    else if bytes_eq verb (codes "state") then alone State words
    else if bytes_eq verb (codes "decode") then (bytes_pair words >>= λ x. Ok (Decode x.0 x.1))
    else if bytes_eq verb (codes "show") then (bytes_pair words >>= λ x. Ok (Show x.0 x.1))
    else if bytes_eq verb (codes "encode") then (bytes_pair words >>= λ x. Ok (Encode x.0 x.1))
    else if bytes_eq verb (codes "upgradable") then (bytes_pair words >>= λ x. Ok (Upgradable x.0 x.1))
    else if bytes_eq verb (codes "witness") then witness_command words
    else if bytes_eq verb (codes "pick") then pick_command words
    else Err Form
