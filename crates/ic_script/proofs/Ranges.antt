-- The ranges of what lines spell.
use Rattle.std.proofs.Common.{◌≡◌, ℕ, ◌≤◌, Bool, true, false, cond, List, [], ◌∷◌, length, refl, subst, arith, inl, inr, Option, Some, None, Result, Ok, Err}
use Rattle.std.specs.Prelude.{◌&&◌, nat_le, nat_lt, bytes_eq, codes, ok_or}
use Rattle.std.specs.Result.{result_ok}
use Rattle.hex.specs.Hex.{decode_of}
use Rattle.std.specs.Str.Parse.{digits_value}
use Rattle.std.proofs.lemmas.Bool.{and_parts, leb-true, cases_Bool}
use Rattle.ic_script.specs.Line.{command_of, says_nothing}
use Rattle.ic_script.specs.Words.{words_of, is_well_formed, is_numeral}
use Rattle.ic_script.specs.Steps.{◌>>=◌}
use Rattle.ic_script.specs.Paths.{are_few, paths_word}
use Rattle.ic_script.specs.Command.{within_size, bytes_word, ask_of, number_word, run_command, pick_command, witness_command, alone, time_command, bytes_pair, command_of_words}
use Rattle.ic_script.specs.declared.command.Command.{Command}
use Rattle.ic_script.specs.declared.command.Command.TheVariants.{Nothing, Call, Query, Run, Drain, Time, State, Decode, Show, Encode, Upgradable, Witness, Pick}
use Rattle.ic_script.specs.declared.line_cause.LineCause.{LineCause}
use Rattle.ic_script.specs.declared.line_cause.LineCause.TheVariants.{Form, Hex, Number, Size}

-- a command whose time, or whose interface files, if it has some, are in their range
abbrev IsInRange : Command → Type 0
IsInRange Nothing = Unit {0}
IsInRange (Call ask) = Unit {0}
IsInRange (Query ask) = Unit {0}
IsInRange (Run count) = Unit {0}
IsInRange Drain = Unit {0}
IsInRange (Time time) = time ≤ 9223372036854775807
IsInRange State = Unit {0}
IsInRange (Decode expected bytes) = Unit {0}
IsInRange (Show expected bytes) = Unit {0}
IsInRange (Encode expected text) = Unit {0}
IsInRange (Upgradable from to) = (length from ≤ 2097152) × (length to ≤ 2097152)
IsInRange (Witness paths) = Unit {0}
IsInRange (Pick place) = Unit {0}

unfoldable GivesInRange : Result Command LineCause → Type 0
GivesInRange (Ok command) = IsInRange command
GivesInRange (Err cause) = Unit {0}

refuses : (cause : LineCause) → GivesInRange (Err cause)
unfolding GivesInRange
refuses cause = tt

either : (b : Bool) (x y : Result Command LineCause) → GivesInRange x → GivesInRange y → GivesInRange (cond b x y)
either true x y p q = p
either false x y p q = q

of_made : {A : Type 0} (said : Result A LineCause) (make : A → Command) → ((a : A) → IsInRange (make a)) → GivesInRange (said >>= λ a. Ok (make a))
unfolding GivesInRange
of_made (Ok a) make h = h a
of_made (Err cause) make h = tt

number-most : (most : ℕ) (word : List ℕ) (n : ℕ) → number_word most word ≡ Ok n → n ≤ most
number-most most word n e = elim (cases_Bool (is_numeral word && nat_le (digits_value 10 word) most)) [
  | inl good ↦
      let given : Ok (digits_value 10 word) ≡ Ok n = rw good at e in
      let is : digits_value 10 word ≡ n = cc in
      let small : nat_le (digits_value 10 word) most ≡ true = (and_parts (is_numeral word) (nat_le (digits_value 10 word) most) good).1 in
      omega (arith, leb-true (digits_value 10 word) most small, is)
  | inr bad ↦ let given : Err Number ≡ Ok n = rw bad at e in cc
]

of_number : (r : Result ℕ LineCause) (make : ℕ → Command) → ((n : ℕ) → r ≡ Ok n → IsInRange (make n)) → GivesInRange (r >>= λ n. Ok (make n))
unfolding GivesInRange
of_number (Ok n) make h = h n refl
of_number (Err cause) make h = tt

bytes-most : (word bytes : List ℕ) → bytes_word word ≡ Ok bytes → length bytes ≤ 2097152
bytes-most word bytes e = by (bytes_eq word (codes "-")) (result_ok (decode_of word)) bytes e
  where
    sized : (read bytes : List ℕ) → within_size read ≡ Ok bytes → length bytes ≤ 2097152
    sized read bytes e = elim (cases_Bool (nat_lt 2097152 (length read))) [
      | inl great ↦ let given : Err Size ≡ Ok bytes = rw great at e in cc
      | inr small ↦
          let given : Ok read ≡ Ok bytes = rw small at e in
          let same : read ≡ bytes = cc in
          subst (λ (l : List ℕ). length l ≤ 2097152) same (grind (arith, small))
    ]

    by : (dash : Bool) (read : Option (List ℕ)) (bytes : List ℕ) → cond dash (Ok []) (ok_or read Hex >>= within_size) ≡ Ok bytes → length bytes ≤ 2097152
    by true read bytes e = let same : [] ≡ bytes = cc in subst (λ (l : List ℕ). length l ≤ 2097152) same (omega arith)
    by false None bytes e = cc
    by false (Some read) bytes e = sized read bytes e

abbrev both : Result (List ℕ) LineCause → Result (List ℕ) LineCause → Result (List ℕ × List ℕ) LineCause
both first second = first >>= λ one. second >>= λ other. Ok (one, other)

two-most : (first second : Result (List ℕ) LineCause) → ((b : List ℕ) → first ≡ Ok b → length b ≤ 2097152) → ((b : List ℕ) → second ≡ Ok b → length b ≤ 2097152)
    → GivesInRange (both first second >>= λ x. Ok (Upgradable x.0 x.1))
unfolding GivesInRange
two-most (Err cause) second one other = tt
two-most (Ok from) (Err cause) one other = tt
two-most (Ok from) (Ok to) one other = (one from refl, other to refl)

of_upgrade : (words : List (List ℕ)) → GivesInRange (bytes_pair words >>= λ x. Ok (Upgradable x.0 x.1))
unfolding bytes_pair GivesInRange
of_upgrade [] = tt
of_upgrade (first ∷ []) = tt
of_upgrade (first ∷ second ∷ []) = two-most (bytes_word first) (bytes_word second) (bytes-most first) (bytes-most second)
of_upgrade (first ∷ second ∷ third ∷ words) = tt

of_run : (words : List (List ℕ)) → GivesInRange (run_command words)
unfolding run_command GivesInRange
of_run [] = tt
of_run (count ∷ []) = of_number (number_word 1000000 count) Run (λ n e. tt)
of_run (count ∷ other ∷ words) = tt

of_pick : (words : List (List ℕ)) → GivesInRange (pick_command words)
unfolding pick_command GivesInRange
of_pick [] = tt
of_pick (place ∷ []) = of_number (number_word 1000000 place) Pick (λ n e. tt)
of_pick (place ∷ other ∷ words) = tt

of_witness : (words : List (List ℕ)) → GivesInRange (witness_command words)
unfolding witness_command GivesInRange
of_witness [] = tt
of_witness (paths ∷ []) = either (are_few paths) _ _ (of_made (paths_word paths) Witness (λ ps. tt)) tt
of_witness (paths ∷ other ∷ words) = tt

of_alone : (command : Command) (words : List (List ℕ)) → IsInRange command → GivesInRange (alone command words)
unfolding GivesInRange
of_alone command [] h = h
of_alone command (word ∷ words) h = tt

of_time : (words : List (List ℕ)) → GivesInRange (time_command words)
unfolding time_command GivesInRange
of_time [] = tt
of_time (time ∷ []) = of_number (number_word 9223372036854775807 time) Time (λ n e. number-most 9223372036854775807 time n e)
of_time (time ∷ other ∷ words) = tt

of_words : (words : List (List ℕ)) → GivesInRange (command_of_words words)
unfolding command_of_words
of_words [] = refuses Form
of_words (verb ∷ words) =
    either _ _ _ (of_made (ask_of words) Call (λ a. tt))
    (either _ _ _ (of_made (ask_of words) Query (λ a. tt))
    (either _ _ _ (of_run words)
    (either _ _ _ (of_alone Drain words tt)
    (either _ _ _ (of_time words)
    (either _ _ _ (of_alone State words tt)
    (either _ _ _ (of_made (bytes_pair words) (λ x. Decode x.0 x.1) (λ x. tt))
    (either _ _ _ (of_made (bytes_pair words) (λ x. Show x.0 x.1) (λ x. tt))
    (either _ _ _ (of_made (bytes_pair words) (λ x. Encode x.0 x.1) (λ x. tt))
    (either _ _ _ (of_upgrade words)
    (either _ _ _ (of_witness words)
    (either _ _ _ (of_pick words) (refuses Form))))))))))))

nothing : GivesInRange (Ok Nothing)
unfolding GivesInRange
nothing = tt

of_line : (line : List ℕ) → GivesInRange (command_of line)
unfolding command_of
of_line line = either (says_nothing line) _ _ nothing (either (is_well_formed line) _ _ (of_words (words_of line)) (refuses Form))

-- the time that a line spells is in its range
pub time_of_line : (line : List ℕ) (time : ℕ) → command_of line ≡ Ok (Time time) → time ≤ 9223372036854775807
unfolding GivesInRange
time_of_line line time e = subst GivesInRange e (of_line line)

-- the interface files that a line spells are in their range
pub size_of_line : (line from to : List ℕ) → command_of line ≡ Ok (Upgradable from to) → (length from ≤ 2097152) × (length to ≤ 2097152)
unfolding GivesInRange
size_of_line line from to e = subst GivesInRange e (of_line line)
