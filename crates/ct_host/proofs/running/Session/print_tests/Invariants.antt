use Rattle.std.proofs.Common.{◌≡◌, List, ℕ, drop}
use Rattle.std.specs.Io.KnownBytes.{append_known}
use Rattle.ct_host.proofs.Tests.{Telling}
use Rattle.ct_host.proofs.running.Session.print_tests.Given as goal

-- what was told of those before, and printed
abbrev pub invariant-loop-chosen : goal.invariant-loop-chosen
invariant-loop-chosen g l =
    ((told : List ℕ) × Telling l.self.limits l.tests l.fn.counts told l.counts (drop l.chosen-index l.tests) × (g.K.Sink.taken l.outputs.out ≡ append_known (g.K.Sink.taken l.fn.outputs.out) told))
    × (g.K.Sink.faults l.outputs.out ≡ g.K.Sink.faults l.fn.outputs.out)
