use Rattle.std.proofs.Common.{◌≡◌, drop}
use Rattle.std.specs.Prelude.{flat_map}
use Rattle.ct_sources.specs.Named.{test_files, with_texts}
use Rattle.ct_sources.proofs.named.Listed.add_tests.Given as goal

-- the names of those before are there
abbrev pub invariant-loop-test : goal.invariant-loop-test
invariant-loop-test l = with_texts l.self (flat_map test_files (drop l.test-index l.tests)) ≡ with_texts l.fn.self (flat_map test_files l.tests)
