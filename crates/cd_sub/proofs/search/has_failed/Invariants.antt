use Rattle.std.proofs.Common.{◌≡◌, drop}
use Rattle.std.specs.List.{list_any}
use Rattle.cd_sub.specs.Marks.{mark_at, is_failed}
use Rattle.cd_sub.proofs.search.has_failed.Given as goal

-- the answer is that for what is left
abbrev pub invariant-loop-part : goal.invariant-loop-part
invariant-loop-part l = list_any (λ part. is_failed (mark_at l.marks part)) (drop l.part-index l.parts) ≡ list_any (λ part. is_failed (mark_at l.marks part)) l.parts
