use Rattle.std.proofs.Common.{sym, subst}
use Rattle.std.specs.List.Sorted.{IsStrictlySortedBy}
use Rattle.std.specs.Ordering.{nat_cmp}
use Rattle.std.specs.Cmp.Lexicographic.{slice_cmp}
use Rattle.ic_mgmt.proofs.Makes.{alone}
use Rattle.ic_mgmt.proofs.making.first_controllers.Goals as goal

pub returns-in_ok-from_slice-in-None-clause-rising : goal.returns-in_ok-from_slice-in-None-clause-rising
returns-in_ok-from_slice-in-None-clause-rising c = subst (IsStrictlySortedBy (slice_cmp nat_cmp)) (sym c.in_ok-from_slice-in-None.ensures.items) (alone c.args.sender)
