use Rattle.std.proofs.Common.{◌≡◌, ◌∷◌, ap, ◌∙◌, subst}
use Rattle.ic_state.specs.Seen.{seen}
use Rattle.ic_keep.proofs.Entering.{Entered, Entries, one_more_entered}
use Rattle.ic_keep.proofs.keeper.Keeper.keep_canisters.Goals as goal

pub loop-canister-preserved : goal.loop-canister-preserved
loop-canister-preserved c =
    let next : c.loop-canister.canister-iterator ≡ (c.in-Some.field-0-0.now, c.in-Some.canister.now) ∷ c.next.new.self = c.in-Some.ensures.steps in
    one_more_entered c.args.self.now c.loop-canister.self c.keep_next.new.self c.loop-canister.kept.items c.push.new.self.items c.loop-canister.near.now c.in_ok-place.others.now
    (c.in-Some.field-0-0.now, c.in-Some.canister.now) c.next.new.self c.args.canisters.now.entries c.args.same_codes c.in_ok-place.place
    (subst (λ (es : Entries). Entered c.args.self.now c.loop-canister.self c.loop-canister.kept.items c.loop-canister.near.now es c.args.canisters.now.entries c.args.same_codes) next c.loop-canister.invariant)
    c.in_ok-place.ensures.grows c.in_ok-place.ensures.stored (c.in_ok-place.ensures.canister ∙ ap seen c.get.ensures) c.in_ok-push.ensures.items c.in_ok-place.ensures.others
