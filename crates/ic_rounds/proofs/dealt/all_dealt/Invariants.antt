use Rattle.std.proofs.Common.{◌≡◌, map, vec_len}
use Rattle.std.specs.Prelude.{vec_capacity}
use Rattle.ic_rounds.proofs.Deals.{slot_from}
use Rattle.ic_rounds.proofs.dealt.all_dealt.Given as goal

abbrev pub invariant-loop-canister : goal.invariant-loop-canister
invariant-loop-canister l = (l.slots.items ≡ map slot_from l.yielded) × (vec_capacity l.slots ≡ vec_len l.fn.firsts)
