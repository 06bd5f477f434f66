-- What a command does.
use Rattle.std.specs.Prelude.{ℕ, Bool, cond, nat_lt, if◌then◌else◌, List, [], ◌∷◌, length, map, Option, Some, None, Result, Ok, Err}
use Rattle.std.specs.List.{concat}
use Rattle.ic_script.specs.declared.Ask.{Ask}
use Rattle.ic_script.specs.declared.Command.{Command}
use Rattle.ic_script.specs.declared.Command.TheVariants.{Nothing, Call, Query, Run, Drain, Time, Decode, Show, Encode, Upgradable, Witness, Pick}
use Rattle.ic_script.specs.declared.Command.TheVariants as kind
use Rattle.ic_script.specs.declared.LineCause.{LineCause}
use Rattle.ic_script.specs.declared.LineCause.TheVariants.{Back, Calls}
use Rattle.ic_behaviour.specs.declared.call.Response.{Response}
use Rattle.ic_behaviour.specs.State.{State}
use Rattle.ic_behaviour.specs.Round.{rounds}
use Rattle.ic_behaviour.specs.Runs.{Act, Delivers, Submits, SetsTime, after}
use Rattle.ic_asking.specs.Asking as asking
use Rattle.ic_schedule.specs.Picks.{is_eligible}
use Rattle.ic_options.specs.declared.Options.{Options}
use Rattle.ic_script_runner.specs.Options.{rules_of}
use Rattle.ic_output.specs.Texts.{accepted_text, call_refused_text, query_text, ran_text, pick_text, state_line, witness_text}
use Rattle.ic_candid_lines.specs.Decoding.{decode_text, show_text}
use Rattle.ic_candid_lines.specs.Encoding.{encode_text}
use Rattle.ic_candid_lines.specs.Upgrading.{upgrade_text}

-- ---- rounds

-- the deliveries of up to this many rounds
unfoldable pub acts_of_rounds : Options → ℕ → State → List Act
acts_of_rounds options count s = map Delivers (concat (rounds (rules_of options) count s))

-- the state after them
abbrev pub after_rounds : Options → ℕ → State → State
after_rounds options count s = after (rules_of options) s (acts_of_rounds options count s)

-- what is printed of them: how many rounds handled a message, and how many messages are left
abbrev pub text_of_rounds : Options → ℕ → State → List ℕ
text_of_rounds options count s =
    ran_text (length (rounds (rules_of options) count s)) (length (after_rounds options count s).messages)

-- ---- what users ask

-- the answer to a query; the state stays as it is
abbrev pub answer_now : Options → State → Ask → Response
answer_now options s ask = asking.answer_now options.limit options.price s ask

-- whether the callee accepts a call before it is submitted
abbrev pub accepts_now : Options → State → Ask → Bool
accepts_now options s ask = asking.accepts_now options.limit options.price s ask

-- ---- commands

-- what happens to the state when a command is done
abbrev pub acts_of : Options → State → Command → List Act
acts_of options s Nothing = []
acts_of options s (Call ask) = cond (accepts_now options s ask) (Submits ask.sender ask.callee ask.method ask.arg ∷ []) []
acts_of options s (Query ask) = []
acts_of options s (Run count) = acts_of_rounds options count s
acts_of options s Drain = acts_of_rounds options options.rounds s
acts_of options s (Time time) = SetsTime time ∷ []
acts_of options s kind.State = []
acts_of options s (Decode expected bytes) = []
acts_of options s (Show expected bytes) = []
acts_of options s (Encode expected text) = []
acts_of options s (Upgradable from to) = []
acts_of options s (Witness paths) = []
acts_of options s (Pick place) = cond (is_eligible s place) (Delivers place ∷ []) []

-- what a command prints
abbrev pub text_of : Options → State → Command → List ℕ
text_of options s Nothing = []
text_of options s (Call ask) = cond (accepts_now options s ask) (accepted_text (length s.requests)) call_refused_text
text_of options s (Query ask) = query_text (answer_now options s ask)
text_of options s (Run count) = text_of_rounds options count s
text_of options s Drain = text_of_rounds options options.rounds s
text_of options s (Time time) = []
text_of options s kind.State = state_line s
text_of options s (Decode expected bytes) = decode_text expected bytes
text_of options s (Show expected bytes) = show_text expected bytes
text_of options s (Encode expected text) = encode_text expected text
text_of options s (Upgradable from to) = upgrade_text from to
text_of options s (Witness paths) = witness_text s paths
text_of options s (Pick place) = pick_text (is_eligible s place)

-- why a command may not come now: 2^20 calls were submitted, or the time would go back
abbrev pub fault_of : State → Command → Option LineCause
fault_of s Nothing = None
fault_of s (Call ask) = if nat_lt (length s.requests) 1048576 then None else Some Calls
fault_of s (Query ask) = None
fault_of s (Run count) = None
fault_of s Drain = None
fault_of s (Time time) = if nat_lt time s.time then Some Back else None
fault_of s kind.State = None
fault_of s (Decode expected bytes) = None
fault_of s (Show expected bytes) = None
fault_of s (Encode expected text) = None
fault_of s (Upgradable from to) = None
fault_of s (Witness paths) = None
fault_of s (Pick place) = None

abbrev pub unless : {T : Type 0} → Option LineCause → T → Result T LineCause
unless None done = Ok done
unless (Some cause) done = Err cause

-- what a command does to the state and what it prints, or why it may not come now
unfoldable pub after_command : Options → State → Command → Result (State × List ℕ) LineCause
after_command options s command =
    unless (fault_of s command) (after (rules_of options) s (acts_of options s command), text_of options s command)
