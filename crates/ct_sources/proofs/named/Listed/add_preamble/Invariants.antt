use Rattle.std.proofs.Common.{◌≡◌, drop}
use Rattle.std.specs.Prelude.{flat_map}
use Rattle.ct_sources.specs.Named.{statement_files, with_texts}
use Rattle.ct_sources.proofs.named.Listed.add_preamble.Given as goal

-- the names of those before are there
abbrev pub invariant-loop-statement : goal.invariant-loop-statement
invariant-loop-statement l = with_texts l.self (flat_map statement_files (drop l.statement-index l.statements)) ≡ with_texts l.fn.self (flat_map statement_files l.statements)
