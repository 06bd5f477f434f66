use Rattle.std.proofs.Common.{arith, rules}
use Rattle.std.proofs.lemmas.List.{places, same_lists}
use Rattle.wm_pages.specs.Over.{over}
use Rattle.wm_pages.proofs.ranges.shift.Goals as goal

pub returns : goal.returns
unfolding over
returns c = rw c.copy_within.ensures.after (same_lists _ _ (search (rules, places, c.requires)) (λ k d h. grind (arith, places, c.requires, h)))
