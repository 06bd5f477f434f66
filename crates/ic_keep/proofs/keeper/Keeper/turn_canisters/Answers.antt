use Rattle.std.proofs.Common.{◌≡◌, ◌+◌, ◌-◌, ◌≤◌, length, take, drop, map, ap, sym, subst, ◌∙◌, arith}
use Rattle.std.specs.Prelude.{slice_index_or}
use Rattle.ic_keep.specs.declared.parts.KeptCanister.{KeptCanister}
use Rattle.ic_keep.specs.Kept.{counted_at}
use Rattle.ic_keep.proofs.Makes.{Rise, one_more_made}
use Rattle.ic_keep.proofs.Turns.{one_popped}
use Rattle.ic_keep.proofs.keeper.Keeper.turn_canisters.Goals as goal

pub loop-left-preserved-in_ok-insert : goal.loop-left-preserved-in_ok-insert
unfolding Rise
loop-left-preserved-in_ok-insert c =
    let back : c.loop-left.left ≡ c.loop-left.left - 1 + 1 = omega (arith, c.loop-left-test.true) in
    let below : c.loop-left.left - 1 ≤ length c.args.to.now = omega (arith, c.loop-left.invariant.0) in
    let next : c.get-next.result.now ≡ slice_index_or c.args.to.now (c.loop-left.left - 1) c.get-next.result.now =
    subst (λ (k : KeptCanister). k ≡ slice_index_or c.args.to.now (c.loop-left.left - 1) k) (sym c.get-next.ensures) c.index-to-left.is in
    let made = one_more_made c.args.self.now c.args.to.now (c.loop-left.left - 1) c.get-next.result.now c.in_ok-place.place c.loop-left.canisters.entries c.insert.new.self.entries
    c.requires.rising (omega (arith, c.loop-left.invariant.0, c.loop-left-test.true)) next c.in_ok-insert.ensures.entries c.in_ok-place.ensures.canister c.in_ok-place.ensures.begun
    (c.loop-left.invariant.1 ∙ ap (λ n. map (counted_at c.args.self.now) (drop n c.args.to.now)) back) c.loop-left.invariant.2 in
    let popped = one_popped c.args.self.now c.args.from.now (c.loop-left.left - 1) c.get-next.result.now c.loop-left.old.entries c.pop_last.new.self.entries _
    (omega (arith, c.loop-left.invariant.0, c.loop-left-test.true, c.requires.lengths)) c.in-Some.ensures.removal
    (c.loop-left.invariant.3 ∙ ap (λ n. map (counted_at c.args.self.now) (take n c.args.from.now)) back) c.loop-left.invariant.4 in
    (below, made.0, made.1, popped.0, popped.1)

pub loop-left-preserved : goal.loop-left-preserved
unfolding Rise
loop-left-preserved c =
    let back : c.loop-left.left ≡ c.loop-left.left - 1 + 1 = omega (arith, c.loop-left-test.true) in
    let below : c.loop-left.left - 1 ≤ length c.args.to.now = omega (arith, c.loop-left.invariant.0) in
    let next : c.get-next.result.now ≡ slice_index_or c.args.to.now (c.loop-left.left - 1) c.get-next.result.now =
    subst (λ (k : KeptCanister). k ≡ slice_index_or c.args.to.now (c.loop-left.left - 1) k) (sym c.get-next.ensures) c.index-to-left.is in
    let made = one_more_made c.args.self.now c.args.to.now (c.loop-left.left - 1) c.get-next.result.now c.in_ok-place.place c.loop-left.canisters.entries c.insert.new.self.entries
    c.requires.rising (omega (arith, c.loop-left.invariant.0, c.loop-left-test.true)) next c.in_ok-insert.ensures.entries c.in_ok-place.ensures.canister c.in_ok-place.ensures.begun
    (c.loop-left.invariant.1 ∙ ap (λ n. map (counted_at c.args.self.now) (drop n c.args.to.now)) back) c.loop-left.invariant.2 in
    let popped = one_popped c.args.self.now c.args.from.now (c.loop-left.left - 1) c.get-next.result.now c.loop-left.old.entries c.pop_last.new.self.entries _
    (omega (arith, c.loop-left.invariant.0, c.loop-left-test.true, c.requires.lengths)) c.in-Some.ensures.removal
    (c.loop-left.invariant.3 ∙ ap (λ n. map (counted_at c.args.self.now) (take n c.args.from.now)) back) c.loop-left.invariant.4 in
    (below, made.0, made.1, popped.0, popped.1)
