use Rattle.std.proofs.Common.{[], ◌∷◌, ◌++◌, length, sym, ◌∙◌, subst, arith, length-append}
use Rattle.std.specs.List.{AllZip}
use Rattle.std.proofs.lemmas.List.{map-id}
use Rattle.std.proofs.lemmas.Iterator.Consumers.{YieldsList-turn, YieldsList-end}
use Rattle.std.proofs.lemmas.Iterator.Adapters.{YieldsList-from_vec}
use Rattle.ic_rounds.specs.Slots.{IsReady}
use Rattle.ic_rounds.specs.HandledSlots.{IsHandled}
use Rattle.ic_rounds.proofs.Elements.{each-read}
use Rattle.ic_workers_tests.proofs.Parts.{zip-parts}
use Rattle.ic_workers_tests.proofs.chunks.handled_by_one.Goals as goal

pub handled-requires : goal.handled-requires
handled-requires g c =
    let gives = c.into_iter-slot-iterator.ensures.into_iter_gives in
    let road = YieldsList-from_vec {s = c.into_iter-slot-iterator.result} c.args.share.slots.items gives.0 (gives.1 ∙ c.args.share.slots.ok.0) in
    let here = YieldsList-turn road c.loop-slot.yielded c.loop-slot.slot-iterator c.loop-slot.yielded_by c.next.result c.next.new.self c.in-Some.slot c.in-Some.is c.next.ensures.steps in
    record { ready = each-read IsReady c.args.share.slots.items (length c.loop-slot.yielded) c.in-Some.slot c.requires.ready here.0 here.1 }

pub push_reserved-requires : goal.push_reserved-requires
push_reserved-requires g c =
    let gives = c.into_iter-slot-iterator.ensures.into_iter_gives in
    let road = YieldsList-from_vec {s = c.into_iter-slot-iterator.result} c.args.share.slots.items gives.0 (gives.1 ∙ c.args.share.slots.ok.0) in
    let here = YieldsList-turn road c.loop-slot.yielded c.loop-slot.slot-iterator c.loop-slot.yielded_by c.next.result c.next.new.self c.in-Some.slot c.in-Some.is c.next.ensures.steps in
    omega (arith, here.0, c.loop-slot.invariant.many, c.loop-slot.invariant.room, c.args.share.slots.ok.0)

pub loop-slot-preserved : goal.loop-slot-preserved
loop-slot-preserved g c = record {
  turns = subst (AllZip (IsHandled c.args.env) (c.loop-slot.yielded ++ c.in-Some.slot ∷ [])) (sym c.push_reserved.ensures.items)
      (zip-parts (IsHandled c.args.env) c.loop-slot.yielded (c.in-Some.slot ∷ []) c.loop-slot.turns.items (c.in_ok-turn.turn ∷ []) c.loop-slot.invariant.turns (c.in_ok-turn.ensures, tt));
  many = omega (arith, c.push_reserved.ensures.len, c.loop-slot.invariant.many, length-append c.loop-slot.yielded (c.in-Some.slot ∷ []));
  room = c.push_reserved.ensures.capacity ∙ c.loop-slot.invariant.room;
}

pub returns : goal.returns
returns g c =
    let gives = c.into_iter-slot-iterator.ensures.into_iter_gives in
    let road = YieldsList-from_vec {s = c.into_iter-slot-iterator.result} c.args.share.slots.items gives.0 (gives.1 ∙ c.args.share.slots.ok.0) in
    let all = YieldsList-end road c.loop-slot.yielded c.loop-slot.slot-iterator c.loop-slot.yielded_by c.next.result c.next.new.self c.in-None.is c.next.ensures.steps in
    subst (λ l. AllZip (IsHandled c.args.env) l c.loop-slot.turns.items) (sym (map-id c.loop-slot.yielded) ∙ all.0) c.loop-slot.invariant.turns
