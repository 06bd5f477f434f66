use Rattle.std.proofs.Common.{◌≡◌, ◌+◌, ◌-◌, ◌≤◌, ◌^◌, ℕ, sym, ap, ◌∙◌, subst}
use Rattle.std.specs.List.{fold}
use Rattle.std.proofs.lemmas.List.{map-id}
use Rattle.std.proofs.lemmas.Result.{IfOk-weaker}
use Rattle.std.proofs.lemmas.Iterator.Consumers.{YieldsList-so_far, YieldsList-turn, YieldsList-end}
use Rattle.std.proofs.lemmas.Iterator.Adapters.{YieldsList-from_vec}
use Rattle.ic_rounds.specs.Slots.{Stored, stored_of}
use Rattle.ic_rounds.specs.HandledSlots.{put_handled}
use Rattle.ic_rounds.proofs.HandledSlots.{all-ready, are_handled, handled_fits, handled_all}
use Rattle.ic_rounds.proofs.putting_back.handle_and_put_back.Goals as goal

pub handle_slots-requires-clause-ready : goal.handle_slots-requires-clause-ready
handle_slots-requires-clause-ready g c κs within = all-ready c.args.env (stored_of c.args.parts) c.args.slots.items c.requires.ready

pub put_all_handled-requires-clause-handled : goal.put_all_handled-requires-clause-handled
put_all_handled-requires-clause-handled g c = are_handled c.args.env (stored_of c.args.parts) c.args.slots.items c.in_ok-handled.handled.items c.requires.ready c.in_ok-handled.ensures

pub returns-then-is_empty-clause-stored : goal.returns-then-is_empty-clause-stored
returns-then-is_empty-clause-stored g c =
    let handled = c.in_ok-handled.handled.items in
    IfOk-weaker c.put_all_handled.result (λ p. stored_of p ≡ fold put_handled (stored_of c.args.parts) handled) _
    (λ p is. is ∙ handled_all c.args.env (stored_of c.args.parts) c.args.slots.items handled c.in_ok-handled.ensures) c.put_all_handled.ensures.stored

pub put_handled-requires-clause-keeps : goal.put_handled-requires-clause-keeps
put_handled-requires-clause-keeps g c =
    let gives = c.into_iter-slot-iterator.ensures.into_iter_gives in
    let handled = c.in_ok-handled.handled in
    let road = YieldsList-from_vec {s = c.into_iter-slot-iterator.result} handled.items gives.0 (gives.1 ∙ handled.ok.0) in
    let here = YieldsList-turn road c.loop-slot.yielded c.loop-slot.slot-iterator c.loop-slot.yielded_by c.next.result c.next.new.self c.in-Some.slot c.in-Some.is c.next.ensures.steps in
    let so_far = YieldsList-so_far road c.loop-slot.yielded c.loop-slot.slot-iterator c.loop-slot.yielded_by in
    (handled_fits (stored_of c.args.parts) handled.items c.loop-slot.yielded c.in-Some.slot (are_handled c.args.env (stored_of c.args.parts) c.args.slots.items handled.items c.requires.ready c.in_ok-handled.ensures) here.0 here.1
    (sym (map-id c.loop-slot.yielded) ∙ so_far)).0

pub put_handled-requires-clause-room : goal.put_handled-requires-clause-room
put_handled-requires-clause-room g c =
    let gives = c.into_iter-slot-iterator.ensures.into_iter_gives in
    let handled = c.in_ok-handled.handled in
    let road = YieldsList-from_vec {s = c.into_iter-slot-iterator.result} handled.items gives.0 (gives.1 ∙ handled.ok.0) in
    let here = YieldsList-turn road c.loop-slot.yielded c.loop-slot.slot-iterator c.loop-slot.yielded_by c.next.result c.next.new.self c.in-Some.slot c.in-Some.is c.next.ensures.steps in
    let so_far = YieldsList-so_far road c.loop-slot.yielded c.loop-slot.slot-iterator c.loop-slot.yielded_by in
    let fits = handled_fits (stored_of c.args.parts) handled.items c.loop-slot.yielded c.in-Some.slot (are_handled c.args.env (stored_of c.args.parts) c.args.slots.items handled.items c.requires.ready c.in_ok-handled.ensures) here.0 here.1
    (sym (map-id c.loop-slot.yielded) ∙ so_far) in
    subst (λ (n : ℕ). n + c.in-Some.slot.done.burned ≤ 2 ^ 127 - 1) (sym (ap (λ (w : Stored). w.burned) c.loop-slot.invariant.stored)) fits.1

pub returns-clause-stored : goal.returns-clause-stored
returns-clause-stored g c =
    let gives = c.into_iter-slot-iterator.ensures.into_iter_gives in
    let handled = c.in_ok-handled.handled in
    let road = YieldsList-from_vec {s = c.into_iter-slot-iterator.result} handled.items gives.0 (gives.1 ∙ handled.ok.0) in
    let all = YieldsList-end road c.loop-slot.yielded c.loop-slot.slot-iterator c.loop-slot.yielded_by c.next.result c.next.new.self c.in-None.is c.next.ensures.steps in
    c.loop-slot.invariant.stored ∙ ap (fold put_handled (stored_of c.args.parts)) (sym (map-id c.loop-slot.yielded) ∙ all.0)
    ∙ handled_all c.args.env (stored_of c.args.parts) c.args.slots.items handled.items c.in_ok-handled.ensures
