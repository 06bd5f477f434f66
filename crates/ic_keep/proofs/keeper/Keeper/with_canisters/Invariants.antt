use Rattle.std.proofs.Common.{◌≡◌, map, drop}
use Rattle.ic_keep.specs.Kept.{entry_at}
use Rattle.ic_keep.specs.Key.{with_canisters}
use Rattle.ic_keep.proofs.keeper.Keeper.with_canisters.Given as goal

abbrev pub invariant-loop-canister : goal.invariant-loop-canister
invariant-loop-canister l =
    with_canisters l.key (map (entry_at l.self) (drop l.canister-index l.canisters)) ≡ with_canisters l.fn.key (map (entry_at l.self) l.canisters)
