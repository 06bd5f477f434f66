use Rattle.ic_keep.proofs.Entering.{Entered}
use Rattle.ic_keep.proofs.keeper.Keeper.keep_canisters.Given as goal

-- the canisters that are kept, and those that are left
abbrev pub invariant-loop-canister : goal.invariant-loop-canister
invariant-loop-canister l = Entered l.fn.self l.self l.kept.items l.near l.canister-iterator l.canisters.entries l.same_codes
