use Rattle.std.proofs.Common.{[], ◌∷◌, length, sym, ◌∙◌, subst, arith, length-append}
use Rattle.std.specs.List.{AllByRecursion}
use Rattle.std.proofs.lemmas.Iterator.Consumers.{YieldsList-turn, YieldsList-end}
use Rattle.std.proofs.lemmas.Iterator.Adapters.{YieldsList-from_vec}
use Rattle.ic_tickets.specs.Tickets.{IsOf, IsFresh}
use Rattle.ic_rounds.specs.declared.worker.Worker.{Worker}
use Rattle.ic_rounds.specs.Workers.{IsIdle, AreNumbered}
use Rattle.ic_rounds.proofs.Elements.{each-read, each-snoc}
use Rattle.ic_rounds.proofs.Works.{numbered-snoc}
use Rattle.ic_rounds.proofs.sharing.staffed.Goals as goal

pub overflow_cast-number : goal.overflow_cast-number
overflow_cast-number c =
    let gives = c.into_iter-pass-iterator.ensures.into_iter_gives in
    let road = YieldsList-from_vec {s = c.into_iter-pass-iterator.result} c.args.passes.items gives.0 (gives.1 ∙ c.args.passes.ok.0) in
    let here = YieldsList-turn road c.loop-pass.yielded c.loop-pass.pass-iterator c.loop-pass.yielded_by c.next.result c.next.new.self c.in-Some.pass c.in-Some.is c.next.ensures.steps in
    record { fits = omega (arith, here.0, c.loop-pass.invariant.many, c.len-number.ensures, c.requires.few, c.args.passes.ok.0) }

pub push_reserved-requires : goal.push_reserved-requires
push_reserved-requires c =
    let gives = c.into_iter-pass-iterator.ensures.into_iter_gives in
    let road = YieldsList-from_vec {s = c.into_iter-pass-iterator.result} c.args.passes.items gives.0 (gives.1 ∙ c.args.passes.ok.0) in
    let here = YieldsList-turn road c.loop-pass.yielded c.loop-pass.pass-iterator c.loop-pass.yielded_by c.next.result c.next.new.self c.in-Some.pass c.in-Some.is c.next.ensures.steps in
    omega (arith, here.0, c.loop-pass.invariant.many, c.loop-pass.invariant.room, c.args.passes.ok.0)

pub loop-pass-preserved : goal.loop-pass-preserved
loop-pass-preserved c =
    let gives = c.into_iter-pass-iterator.ensures.into_iter_gives in
    let road = YieldsList-from_vec {s = c.into_iter-pass-iterator.result} c.args.passes.items gives.0 (gives.1 ∙ c.args.passes.ok.0) in
    let here = YieldsList-turn road c.loop-pass.yielded c.loop-pass.pass-iterator c.loop-pass.yielded_by c.next.result c.next.new.self c.in-Some.pass c.in-Some.is c.next.ensures.steps in
    let t = c.args.tickets.now in
    let fresh = each-read (λ p. IsOf t p × IsFresh p) c.args.passes.items (length c.loop-pass.yielded) c.in-Some.pass c.requires.passes here.0 here.1 in
    let w : Worker = record { number = c.len-number.result; pass = c.in-Some.pass; outbox = c.in_ok-outbox.outbox } in
    let idle : IsIdle t c.args.env w = record {
      own = fresh.0;
      fresh = fresh.1;
      outbox = c.in_ok-outbox.ensures.items;
      room = omega (arith, c.requires.count, c.in_ok-outbox.ensures.exact);
      ready = c.requires.ready;
    } in
    record {
      workers = subst (AllByRecursion (IsIdle t c.args.env)) (sym c.push_reserved.ensures.items) (each-snoc (IsIdle t c.args.env) c.loop-pass.workers.items w c.loop-pass.invariant.workers idle);
      numbers = subst (AreNumbered 0) (sym c.push_reserved.ensures.items) (numbered-snoc 0 c.loop-pass.workers.items w c.loop-pass.invariant.numbers (omega (arith, c.len-number.ensures, c.loop-pass.workers.ok.0)));
      many = omega (arith, c.push_reserved.ensures.len, c.loop-pass.invariant.many, length-append c.loop-pass.yielded (c.in-Some.pass ∷ []));
      room = c.push_reserved.ensures.capacity ∙ c.loop-pass.invariant.room;
    }

pub returns-clause-len : goal.returns-clause-len
returns-clause-len c =
    let gives = c.into_iter-pass-iterator.ensures.into_iter_gives in
    let road = YieldsList-from_vec {s = c.into_iter-pass-iterator.result} c.args.passes.items gives.0 (gives.1 ∙ c.args.passes.ok.0) in
    let all = YieldsList-end road c.loop-pass.yielded c.loop-pass.pass-iterator c.loop-pass.yielded_by c.next.result c.next.new.self c.in-None.is c.next.ensures.steps in
    omega (arith, c.loop-pass.invariant.many, all.1, c.args.passes.ok.0)
