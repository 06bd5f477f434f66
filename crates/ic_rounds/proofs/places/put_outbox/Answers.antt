use Rattle.std.proofs.Common.{◌<◌, length, sym, ◌∙◌, subst, arith}
use Rattle.std.proofs.lemmas.List.{map-id}
use Rattle.std.proofs.lemmas.Iterator.Consumers.{YieldsList-turn, YieldsList-end}
use Rattle.std.proofs.lemmas.Iterator.Adapters.{YieldsList-from_vec}
use Rattle.ic_tickets.specs.Rule.{times}
use Rattle.ic_rounds.specs.Workers.{entry_numbers, IsAt}
use Rattle.ic_rounds.proofs.Elements.{each-read}
use Rattle.ic_rounds.proofs.OutboxPlaces.{Puts-inside, Puts-more}
use Rattle.ic_rounds.proofs.places.put_outbox.Goals as goal

pub put_entry-requires : goal.put_entry-requires
put_entry-requires c =
    let gives = c.into_iter-entry-iterator.ensures.into_iter_gives in
    let road = YieldsList-from_vec {s = c.into_iter-entry-iterator.result} c.args.outbox.items gives.0 (gives.1 ∙ c.args.outbox.ok.0) in
    let here = YieldsList-turn road c.loop-entry.yielded c.loop-entry.entry-iterator c.loop-entry.yielded_by c.next.result c.next.new.self c.in-Some.entry c.in-Some.is c.next.ensures.steps in
    let at = each-read (IsAt c.args.slots.now.value.items c.args.env) c.args.outbox.items (length c.loop-entry.yielded) c.in-Some.entry c.requires.entries here.0 here.1 in
    omega (arith, Puts-inside c.args.slots.now.value.items c.args.env c.in-Some.entry at, c.requires.len, c.loop-entry.invariant.len, c.loop-entry.places.ok.0, c.args.places.now.ok.0, c.args.slots.now.value.ok.0)

pub loop-entry-preserved : goal.loop-entry-preserved
loop-entry-preserved c =
    let gives = c.into_iter-entry-iterator.ensures.into_iter_gives in
    let road = YieldsList-from_vec {s = c.into_iter-entry-iterator.result} c.args.outbox.items gives.0 (gives.1 ∙ c.args.outbox.ok.0) in
    let here = YieldsList-turn road c.loop-entry.yielded c.loop-entry.entry-iterator c.loop-entry.yielded_by c.next.result c.next.new.self c.in-Some.entry c.in-Some.is c.next.ensures.steps in
    let at = each-read (IsAt c.args.slots.now.value.items c.args.env) c.args.outbox.items (length c.loop-entry.yielded) c.in-Some.entry c.requires.entries here.0 here.1 in
    let put = c.in_ok-put_entry.ensures.put in
    let inside : c.in-Some.entry.number < length c.loop-entry.places.items =
    omega (arith, Puts-inside c.args.slots.now.value.items c.args.env c.in-Some.entry at, c.requires.len, c.loop-entry.invariant.len, c.args.places.now.ok.0, c.args.slots.now.value.ok.0) in
    Puts-more c.args.slots.now.value.items c.args.env c.args.places.now.items c.loop-entry.places.items c.put_entry.new.places.items c.loop-entry.yielded c.in-Some.entry put.0 c.loop-entry.invariant inside at put.2 put.1

pub returns-in_err-put_entry-clause-len : goal.returns-in_err-put_entry-clause-len
returns-in_err-put_entry-clause-len c = omega (arith, c.put_entry.ensures.len, c.loop-entry.invariant.len, c.loop-entry.places.ok.0, c.args.places.now.ok.0)

pub returns-clause-len : goal.returns-clause-len
returns-clause-len c = omega (arith, c.loop-entry.invariant.len, c.loop-entry.places.ok.0, c.args.places.now.ok.0)

pub returns-clause-kept : goal.returns-clause-kept
returns-clause-kept c = c.loop-entry.invariant.kept

pub returns-clause-filled : goal.returns-clause-filled
returns-clause-filled c =
    let gives = c.into_iter-entry-iterator.ensures.into_iter_gives in
    let road = YieldsList-from_vec {s = c.into_iter-entry-iterator.result} c.args.outbox.items gives.0 (gives.1 ∙ c.args.outbox.ok.0) in
    let all = YieldsList-end road c.loop-entry.yielded c.loop-entry.entry-iterator c.loop-entry.yielded_by c.next.result c.next.new.self c.in-None.is c.next.ensures.steps in
    λ k some. c.loop-entry.invariant.filled k (subst (λ l. 0 < times k (entry_numbers l)) (sym (sym (map-id c.loop-entry.yielded) ∙ all.0)) some)
