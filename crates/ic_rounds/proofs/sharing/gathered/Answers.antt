use Rattle.std.proofs.Common.{◌++◌, [], ◌∷◌, length, sym, ◌∙◌, subst, arith}
use Rattle.std.proofs.lemmas.Iterator.Consumers.{YieldsList-turn}
use Rattle.std.proofs.lemmas.Iterator.Adapters.{YieldsList-from_vec}
use Rattle.ic_rounds.specs.Workers.{IsDone}
use Rattle.ic_rounds.proofs.Elements.{each-read}
use Rattle.ic_rounds.proofs.OutboxPlaces.{Gathers, Gathers-more}
use Rattle.ic_rounds.proofs.sharing.gathered.Goals as goal

pub loop-worker-preserved : goal.loop-worker-preserved
loop-worker-preserved c =
    let gives = c.into_iter-worker-iterator.ensures.into_iter_gives in
    let road = YieldsList-from_vec {s = c.into_iter-worker-iterator.result} c.args.workers.items gives.0 (gives.1 ∙ c.args.workers.ok.0) in
    let here = YieldsList-turn road c.loop-worker.yielded c.loop-worker.worker-iterator c.loop-worker.yielded_by c.next.result c.next.new.self c.in-Some.worker c.in-Some.is c.next.ensures.steps in
    let slots = c.args.slots.now.value.items in
    let w = c.in-Some.worker in
    let done = each-read (IsDone c.args.tickets.now c.args.env) c.args.workers.items (length c.loop-worker.yielded) w c.requires.workers here.0 here.1 in
    let more = Gathers-more slots c.args.env c.args.tickets.now c.args.places.now.items c.loop-worker.places.items c.put_outbox.new.places.items c.loop-worker.yielded c.loop-worker.passes.items w
    c.loop-worker.invariant.gathers done (omega (arith, c.put_outbox.ensures.len, c.put_outbox.new.places.ok.0, c.loop-worker.places.ok.0)) c.in_ok-put_outbox.ensures.kept c.in_ok-put_outbox.ensures.filled in
    record {
      gathers = subst (Gathers slots c.args.env c.args.tickets.now c.args.places.now.items c.put_outbox.new.places.items (c.loop-worker.yielded ++ w ∷ [])) (sym c.push_reserved.ensures.items) more;
      room = c.push_reserved.ensures.capacity ∙ c.loop-worker.invariant.room;
    }
