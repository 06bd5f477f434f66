-- What a line of a script means.
use Rattle.std.specs.Prelude.{◌≡◌, ℕ, Bool, true, ◌==◌, List, [], ◌∷◌, if◌then◌else◌, Result, Ok, Err}
use Rattle.ic_script.specs.Words.{words_of, is_well_formed}
use Rattle.ic_script.specs.Command.{command_of_words}
use Rattle.ic_script.specs.declared.command.Command.{Command}
use Rattle.ic_script.specs.declared.command.Command.TheVariants.{Nothing}
use Rattle.ic_script.specs.declared.line_cause.LineCause.{LineCause}
use Rattle.ic_script.specs.declared.line_cause.LineCause.TheVariants as cause
use Rattle.ic_script.specs.declared.line_cause.LineError.{LineError}
use Rattle.ic_script.specs.declared.line_cause.LineError.TheVariants.{Form, Principal, Hex, Number, Size, NoMemory}

-- an empty line, or a comment, which begins with #
abbrev pub says_nothing : List ℕ → Bool
says_nothing [] = true
says_nothing (first ∷ _) = first == 35

-- the command that a line spells, or the first cause for which it spells none
unfoldable pub command_of : List ℕ → Result Command LineCause
command_of line =
    if says_nothing line then Ok Nothing
    else if is_well_formed line then command_of_words (words_of line)
    else Err cause.Form

-- an answer that agrees with what was said, or out of memory
abbrev pub Agrees : {T : Type 0} → Result T LineError → Result T LineCause → Type 0
Agrees (Ok value) said = said ≡ Ok value
Agrees (Err Form) said = said ≡ Err cause.Form
Agrees (Err Principal) said = said ≡ Err cause.Principal
Agrees (Err Hex) said = said ≡ Err cause.Hex
Agrees (Err Number) said = said ≡ Err cause.Number
Agrees (Err Size) said = said ≡ Err cause.Size
Agrees (Err NoMemory) said = Unit {0}
