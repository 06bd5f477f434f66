use Rattle.std.proofs.Common.{◌≡◌, drop}
use Rattle.ct_values.specs.Steps.{reading}
use Rattle.ct_values.specs.Spelled.{value_at, arguments_at}
use Rattle.ct_values.proofs.reader.Reader.arguments.Given as goal

-- what is still to be read is what is read in all
abbrev pub invariant-loop-ty : goal.invariant-loop-ty
invariant-loop-ty l =
    let read = value_at l.self.admitted l.self.table.now 128 in
    arguments_at read (drop l.ty-index l.types) (reading l.cursor) ≡ arguments_at read l.types (reading l.fn.cursor)
