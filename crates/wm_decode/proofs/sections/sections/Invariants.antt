use Rattle.std.proofs.Common.{◌≡◌, ◌-◌, length}
use Rattle.wm_decode.specs.Readers.{sections_at}
use Rattle.wm_decode.proofs.LoopSteps.{and_sections}
use Rattle.wm_decode.proofs.sections.sections.Given as goal

abbrev pub invariant-loop : goal.invariant-loop
invariant-loop l = and_sections l.found.items (sections_at (length l.bytes - l.counter) l.last l.rest) ≡ sections_at (length l.bytes) 0 l.bytes
