use Rattle.std.proofs.Common.{[], ◌∷◌, ◌++◌, ℕ, List, sym, ap, ◌∙◌, subst, arith, length-append}
use Rattle.std.specs.List.{AllByRecursion}
use Rattle.std.proofs.lemmas.List.{map-id}
use Rattle.std.proofs.lemmas.Iterator.Consumers.{YieldsList-so_far, YieldsList-turn}
use Rattle.std.proofs.lemmas.Iterator.Adapters.{YieldsList-from_vec}
use Rattle.ic_state.specs.declared.canister.Canister.{Canister}
use Rattle.ic_state.specs.IsCanister.{IsCanister}
use Rattle.ic_rounds.specs.Slots.{Stored, stored_of}
use Rattle.ic_rounds.proofs.HandledSlots.{handled_fits, Aside, Aside-more}
use Rattle.ic_rounds.proofs.putting_back.put_all_handled.Goals as goal

pub settle-requires : goal.settle-requires
settle-requires c =
    let handled = c.args.handled in
    let gives = c.into_iter-slot-iterator.ensures.into_iter_gives in
    let road = YieldsList-from_vec {s = c.into_iter-slot-iterator.result} handled.items gives.0 (gives.1 ∙ handled.ok.0) in
    let here = YieldsList-turn road c.loop-slot.yielded c.loop-slot.slot-iterator c.loop-slot.yielded_by c.next.result c.next.new.self c.in-Some.slot c.in-Some.is c.next.ensures.steps in
    let so_far = YieldsList-so_far road c.loop-slot.yielded c.loop-slot.slot-iterator c.loop-slot.yielded_by in
    let fits = handled_fits (stored_of c.args.parts) handled.items c.loop-slot.yielded c.in-Some.slot c.requires.handled here.0 here.1 (sym (map-id c.loop-slot.yielded) ∙ so_far) in
    let burned = ap (λ (w : Stored). w.burned) c.loop-slot.invariant.aside.others in
    record { room = omega (arith, fits.1, burned) }

pub loop-slot-preserved : goal.loop-slot-preserved
loop-slot-preserved c =
    let handled = c.args.handled in
    let gives = c.into_iter-slot-iterator.ensures.into_iter_gives in
    let road = YieldsList-from_vec {s = c.into_iter-slot-iterator.result} handled.items gives.0 (gives.1 ∙ handled.ok.0) in
    let here = YieldsList-turn road c.loop-slot.yielded c.loop-slot.slot-iterator c.loop-slot.yielded_by c.next.result c.next.new.self c.in-Some.slot c.in-Some.is c.next.ensures.steps in
    let so_far = YieldsList-so_far road c.loop-slot.yielded c.loop-slot.slot-iterator c.loop-slot.yielded_by in
    let fits = handled_fits (stored_of c.args.parts) handled.items c.loop-slot.yielded c.in-Some.slot c.requires.handled here.0 here.1 (sym (map-id c.loop-slot.yielded) ∙ so_far) in
    record {
      aside = subst (Aside (stored_of c.args.parts) (c.loop-slot.yielded ++ c.in-Some.slot ∷ []) c.settle.new.parts) (sym c.push_reserved.ensures.items)
          (Aside-more (stored_of c.args.parts) c.loop-slot.yielded c.loop-slot.parts c.settle.new.parts c.loop-slot.canisters.items c.in-Some.slot c.loop-slot.invariant.aside fits.0 c.in_ok-settle.ensures.sent);
      many = omega (arith, c.push_reserved.ensures.len, c.loop-slot.invariant.many, length-append c.loop-slot.yielded (c.in-Some.slot ∷ []));
      room = c.push_reserved.ensures.capacity ∙ c.loop-slot.invariant.room;
    }

pub returns-clause-keep : goal.returns-clause-keep
returns-clause-keep c = subst (AllByRecursion (λ (e : List ℕ × Canister). IsCanister e.1)) (sym c.in_ok-parts.ensures) c.loop-slot.invariant.aside.keep
