use Rattle.std.proofs.Common.{◌≡◌, ◌∙◌, ◌/◌, ◌%◌, ◌++◌, ap}
use Rattle.ic_principal.specs.CanisterId.{canister_id_of}
use Rattle.ic_generate.specs.Script.{counter_at, route}
use Rattle.ic_generate.proofs.Lines.{route_more}
use Rattle.ic_generate.proofs.calls.route.Goals as goal

pub loop-place-init : goal.loop-place-init
unfolding route
loop-place-init c = c.new-ids.ensures.items

pub loop-place-preserved : goal.loop-place-preserved
loop-place-preserved c =
    let id : c.bytes.result.now ≡ canister_id_of (counter_at c.args.y c.loop-place.place) =
    c.bytes.ensures.value ∙ (c.canister_id-id.ensures.id ∙ ap (λ s. canister_id_of (c.args.y / s % 8)) c.scale.ensures.scale) in
    c.in_ok-extend_from_slice.ensures.items ∙ ((λ i. c.loop-place.invariant i ++ id i) ∙ route_more c.args.y c.loop-place.place)
