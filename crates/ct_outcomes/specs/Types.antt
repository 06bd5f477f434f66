-- Types of an interface.
use Rattle.std.specs.Prelude.{List}
use Rattle.cd_types.specs.declared.entry.TyRef.{TyRef}
use Rattle.cd_types.specs.declared.entry.Entry.{Entry}
use Rattle.ct_outcomes.specs.declared.at.At.{At}

-- a table, and references into it
abbrev pub Types : Type 0
Types = List Entry × List TyRef

abbrev pub types_at : At → Types
types_at at = (at.interface.now.table, at.types.now)
