use Rattle.std.proofs.Common.{length, sym, ◌∙◌, arith}
use Rattle.std.proofs.lemmas.List.{map-id}
use Rattle.std.proofs.lemmas.Iterator.Consumers.{YieldsList-turn, YieldsList-end}
use Rattle.std.proofs.lemmas.Iterator.Adapters.{YieldsList-from_vec}
use Rattle.ic_rounds.proofs.OutboxPlaces.{filled-some, takes}
use Rattle.ic_rounds.proofs.places.take_handled.Goals as goal

pub unwrap-requires : goal.unwrap-requires
unwrap-requires c =
    let gives = c.into_iter-place-iterator.ensures.into_iter_gives in
    let road = YieldsList-from_vec {s = c.into_iter-place-iterator.result} c.args.places.items gives.0 (gives.1 ∙ c.args.places.ok.0) in
    let here = YieldsList-turn road c.loop-place.yielded c.loop-place.place-iterator c.loop-place.yielded_by c.next.result c.next.new.self c.in-Some.place c.in-Some.is c.next.ensures.steps in
    filled-some c.args.slots.now.value.items c.args.env c.args.places.items (length c.loop-place.yielded) c.in-Some.place
    (c.requires.filled (length c.loop-place.yielded) (omega (arith, here.0, c.args.places.ok.0))) here.0 here.1

pub returns : goal.returns
returns c =
    let gives = c.into_iter-place-iterator.ensures.into_iter_gives in
    let road = YieldsList-from_vec {s = c.into_iter-place-iterator.result} c.args.places.items gives.0 (gives.1 ∙ c.args.places.ok.0) in
    let all = YieldsList-end road c.loop-place.yielded c.loop-place.place-iterator c.loop-place.yielded_by c.next.result c.next.new.self c.in-None.is c.next.ensures.steps in
    takes c.args.env c.args.slots.now.value.items c.args.places.items c.loop-place.all.items (omega (arith, c.requires.len, c.args.places.ok.0, c.args.slots.now.value.ok.0))
    (c.loop-place.invariant.0 ∙ sym (map-id c.loop-place.yielded) ∙ all.0) (λ k inside. c.requires.filled k (omega (arith, inside, c.args.places.ok.0)))
