use Rattle.std.proofs.Common.{◌≡◌, drop}
use Rattle.std.specs.Prelude.{flat_map}
use Rattle.ct_sources.specs.Named.{step_files, with_texts}
use Rattle.ct_sources.proofs.named.Listed.add_test.Given as goal

-- the names of those before are there
abbrev pub invariant-loop-step : goal.invariant-loop-step
invariant-loop-step l = with_texts l.self (flat_map step_files (drop l.step-index l.step-items)) ≡ with_texts l.fn.self (flat_map step_files l.step-items)
