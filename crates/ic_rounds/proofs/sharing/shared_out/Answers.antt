use Rattle.std.proofs.Common.{◌≡◌, ◌<◌, length, sym, ap, subst, arith}
use Rattle.std.specs.List.{AllByRecursion}
use Rattle.std.proofs.lemmas.Slice.Zip.{AllZip-long}
use denote.Exit as exit
use denote.Param.Send.{param_send, arg_send}
use Rattle.ic_tickets.specs.Tickets.{items_of, HasEnded, IsOf}
use Rattle.ic_rounds.specs.declared.worker.Worker.{Worker}
use Rattle.ic_rounds.specs.Workers.{IsDone}
use Rattle.ic_rounds.proofs.Crossings.{worker_send}
use Rattle.ic_rounds.proofs.Elements.{zip-after, take-front, each-weaker}
use Rattle.ic_rounds.proofs.OutboxPlaces.{once-there, some-ended}
use Rattle.ic_rounds.proofs.sharing.shared_out.Goals as goal

pub all_work-requires-send-W : goal.all_work-requires-send-W
all_work-requires-send-W g c κs within = param_send 2 _ (arg_send _ exit.no _ worker_send)

pub gathered-requires-clause-workers : goal.gathered-requires-clause-workers
gathered-requires-clause-workers g c =
    let t = c.in_ok-tickets.tickets in
    let before = c.in_ok-workers.workers in
    let lent = c.as_mut_slice.result.now in
    let worked = λ (x w : Worker). (w.number ≡ x.number) × IsDone t c.args.env w in
    let after = c.all_work.new.workers in
    let long : before.len ≡ length after = omega (arith, before.ok.0, ap (λ l. length l) c.as_mut_slice.ensures.value, AllZip-long worked lent after c.all_work.ensures) in
    subst (AllByRecursion (IsDone t c.args.env)) (sym (take-front before.len after _ long)) (zip-after worked (IsDone t c.args.env) (λ x w both. both.1) lent after c.all_work.ensures)

pub close-requires-clause-own : goal.close-requires-clause-own
close-requires-clause-own g c = each-weaker (λ p. IsOf c.in_ok-tickets.tickets p × HasEnded p) (IsOf c.in_ok-tickets.tickets) (λ p both. both.0) c.in_ok-passes.passes.items c.in_ok-passes.ensures.passes

pub take_handled-requires-clause-filled : goal.take_handled-requires-clause-filled
take_handled-requires-clause-filled g c = λ k inside.
    let t = c.in_ok-tickets.tickets in
    let less : k < length (items_of t) = omega (
      arith,
      inside,
      c.gathered.ensures.len,
      c.in_ok-places.ensures,
      c.len-count.ensures,
      c.args.slots.ok.0,
      ap (λ l. length l) c.in_ok-tickets.ensures.table.0,
    ) in
    let many : 0 < length c.in_ok-passes.passes.items = omega (arith, c.in_ok-passes.ensures.many, c.in_ok-workers.ensures.len, c.in_ok-tickets.ensures.many, c.args.crew.now.some, c.in_ok-passes.passes.ok.0) in
    let once = c.close.ensures.whole (some-ended t c.in_ok-passes.passes.items c.in_ok-passes.ensures.passes many) k in
    c.in_ok-passes.ensures.filled k (subst (λ n. 0 < n) (sym once) (once-there k (length (items_of t)) less))
