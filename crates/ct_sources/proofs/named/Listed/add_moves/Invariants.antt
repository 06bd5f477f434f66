use Rattle.std.proofs.Common.{◌≡◌, drop}
use Rattle.std.specs.Prelude.{flat_map}
use Rattle.ct_sources.specs.Named.{move_files, with_texts}
use Rattle.ct_sources.proofs.named.Listed.add_moves.Given as goal

-- the names of those before are there
abbrev pub invariant-loop-written : goal.invariant-loop-written
invariant-loop-written l = with_texts l.self (flat_map move_files (drop l.written-index l.moves)) ≡ with_texts l.fn.self (flat_map move_files l.moves)
