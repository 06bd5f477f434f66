use Rattle.std.proofs.Common.{length, map, sym, ap, subst, arith}
use Rattle.std.specs.List.{fold}
use Rattle.ic_rounds.specs.Dealing.{slots_of}
use Rattle.ic_rounds.specs.Slots.{Stored, stored_of, slot_of, after_slot_in_place}
use Rattle.ic_rounds.proofs.InPlaces.{AreLeft, begin, next, more}
use Rattle.ic_rounds.proofs.in_place.handle_in_place.Goals as goal

pub loop-key-init : goal.loop-key-init
loop-key-init g c =
    let p = c.args.parts in
    let firsts = c.args.firsts.items in
    let end : Stored = fold (after_slot_in_place c.args.env) (stored_of p) (map slot_of (slots_of p.canisters.entries firsts)) in
    record {
      left = subst (AreLeft c.args.env end p) (sym c.from_vec-firsts.ensures.items) (begin c.args.env p firsts c.requires.firsts c.requires.ready c.requires.keep);
      place = omega (arith, ap length c.from_vec-firsts.ensures.items);
    }

pub deliver_first-requires-clause-next : goal.deliver_first-requires-clause-next
deliver_first-requires-clause-next g c =
    let p = c.args.parts in
    let end : Stored = fold (after_slot_in_place c.args.env) (stored_of p) (map slot_of (slots_of p.canisters.entries c.args.firsts.items)) in
    next c.args.env end c.loop-key.parts _ c.pop_front.new.self.items (subst (AreLeft c.args.env end c.loop-key.parts) c.in-Some.ensures.items c.loop-key.invariant.left)

pub loop-key-preserved : goal.loop-key-preserved
loop-key-preserved g c =
    let p = c.args.parts in
    let end : Stored = fold (after_slot_in_place c.args.env) (stored_of p) (map slot_of (slots_of p.canisters.entries c.args.firsts.items)) in
    record {
      left = more c.args.env end c.loop-key.parts c.deliver_first.new.parts _ c.pop_front.new.self.items (subst (AreLeft c.args.env end c.loop-key.parts) c.in-Some.ensures.items c.loop-key.invariant.left)
          c.in_ok-number.ensures.handled c.in_ok-number.ensures.keep;
      place = omega (arith, ap length c.in-Some.ensures.items, c.loop-key.invariant.place, c.in_ok-number.ensures.number, c.pass-permit.ensures.number);
    }
