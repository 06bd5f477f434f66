use Rattle.std.proofs.Common.{◌≡◌, drop}
use Rattle.wm_decode.specs.Mod.{content_of}
use Rattle.wm_decode.proofs.sections.content.Given as goal

abbrev pub invariant-loop-section : goal.invariant-loop-section
invariant-loop-section l = content_of l.id (drop l.section-index l.sections) ≡ content_of l.id l.sections
