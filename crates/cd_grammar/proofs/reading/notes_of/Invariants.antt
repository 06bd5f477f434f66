use Rattle.std.proofs.Common.{◌≡◌, length}
use Rattle.cd_tokens.specs.View.{token_views}
use Rattle.cd_grammar.proofs.Loops.{NotesStill}
use Rattle.cd_grammar.proofs.reading.notes_of.Given as goal

abbrev pub invariant-loop-note : goal.invariant-loop-note
invariant-loop-note l = NotesStill l.notes.items (token_views l.reader.rest.now) (token_views l.fn.reader.rest.now) × (l.reader.types.items ≡ l.fn.reader.types.items)

abbrev pub decreases-loop-note : goal.decreases-loop-note
decreases-loop-note l = length l.reader.rest.now
