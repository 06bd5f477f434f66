use Rattle.std.proofs.Common.{Some, sym, ap, ◌∙◌, List, ℕ}
use Rattle.cd_tokens.specs.Token.{Token}
use Rattle.cd_tokens.specs.View.{token_views}
use Rattle.cd_grammar.proofs.Loops.{one_note, all_notes}
use Rattle.cd_grammar.proofs.reading.notes_of.Goals as goal

pub loop-note-preserved : goal.loop-note-preserved
loop-note-preserved c = (
  rw (c.rest_of-reader.ensures, c.in_ok-push.ensures.items) (one_note c.loop-note.notes.items (token_views c.loop-note.reader.rest.now) (token_views c.args.reader.now.rest.now) c.in-Some.note (sym c.first_note.ensures.value ∙ c.in-Some.is) c.loop-note.invariant.0),
  c.loop-note.invariant.1,
)

pub returns-clause-notes : goal.returns-clause-notes
returns-clause-notes c =
    ap (λ (x : List ℕ × List Token). Some x) (all_notes c.loop-note.notes.items (token_views c.loop-note.reader.rest.now) (token_views c.args.reader.now.rest.now) (sym c.first_note.ensures.value ∙ c.in_default.is) c.loop-note.invariant.0)
