use Rattle.std.proofs.Common.{◌≡◌, ℕ, ◌<◌, List, [], ◌∷◌, length, refl, arith, Err}
use Rattle.ic_script.specs.Words.{words_of}
use Rattle.ic_script.specs.Command.{alone}
use Rattle.ic_script.specs.declared.command.Command.{Command}
use Rattle.ic_script.specs.declared.line_cause.LineCause.TheVariants.{Form}
use Rattle.ic_script.proofs.Text.{length-words_of}
use Rattle.ic_script.proofs.parse.parse_alone.Goals as goal

alone-some : (command : Command) (words : List (List ℕ)) → 0 < length words → alone command words ≡ Err Form
alone-some command [] h = absurd (omega (arith, h))
alone-some command (word ∷ words) h = refl

pub returns-in-Some : goal.returns-in-Some
returns-in-Some c = rw c.in-Some.is (alone-some c.args.command (words_of c.in-Some.field-0.now) (length-words_of c.in-Some.field-0.now))
