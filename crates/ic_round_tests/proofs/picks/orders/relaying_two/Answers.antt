use Rattle.std.proofs.Common.{◌≡◌, rules, sym, subst}
use Rattle.ic_behaviour.specs.Counted.{dropped}
use Rattle.ic_behaviour.specs.Submitted.{IsNew}
use Rattle.ic_state.specs.Seen.{seen}
use Rattle.ic_round_tests.proofs.picks.orders.relaying_two.Goals as goal

-- one was added before
pub add-requires-2-clause-new : goal.add-requires-2-clause-new
add-requires-2-clause-new c =
    let one : c.in_ok-world.world.next_canister ≡ 1 = search rules in
    subst (λ n. IsNew n (dropped (seen c.in_ok-second.second))) (sym one) c.in_ok-second.ensures.new
