use Rattle.std.proofs.Common.{sym, subst}
use Rattle.std.specs.List.Sorted.{IsStrictlySortedBy}
use Rattle.std.specs.Ordering.{nat_cmp}
use Rattle.std.specs.Cmp.Lexicographic.{slice_cmp}
use Rattle.ic_workers_tests.proofs.canisters.empty_canister.Goals as goal

-- no controllers rise
pub new-requires-2-clause-rising : goal.new-requires-2-clause-rising
unfolding IsStrictlySortedBy
new-requires-2-clause-rising c = subst (IsStrictlySortedBy (slice_cmp nat_cmp)) (sym c.new.ensures.items) tt
