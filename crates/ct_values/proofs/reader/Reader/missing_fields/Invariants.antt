use Rattle.std.proofs.Common.{◌≡◌, drop}
use Rattle.ct_values.specs.Steps.{reading, said_view}
use Rattle.ct_values.specs.Spelled.{missing_from}
use Rattle.ct_values.proofs.reader.Reader.missing_fields.Given as goal

-- what is still to be read is what is read in all
abbrev pub invariant-loop-place : goal.invariant-loop-place
invariant-loop-place l = missing_from l.depth l.self.table.now l.place (drop l.place l.fields) (said_view l.said) (reading l.cursor) ≡ missing_from l.depth l.self.table.now 0 l.fields (said_view l.fn.said) (reading l.fn.cursor)
