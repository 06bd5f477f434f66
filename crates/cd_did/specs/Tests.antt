-- The tests of the types that are in a file.
use Rattle.std.specs.Prelude.{Bool}
use Rattle.cd_did.specs.declared.checks.Test.{Test}
use Rattle.cd_did.specs.declared.checks.Test.TheVariants.{NoFloat, Bound}
use Rattle.cd_grammar.specs.declared.written.Part.{Part}
use Rattle.cd_did.specs.Faults.{is_no_float, is_bound}

abbrev pub passes : Test → Part → Bool
passes NoFloat part = is_no_float part
passes (Bound names) part = is_bound names.now.definitions part
