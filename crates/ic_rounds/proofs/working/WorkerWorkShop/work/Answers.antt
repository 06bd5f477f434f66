use Rattle.std.proofs.Common.{arith}
use Rattle.ic_rounds.proofs.Works.{Works-ready, Works-room, Works-falls, Works-more}
use Rattle.ic_rounds.proofs.working.WorkerWorkShop.work.Goals as goal

pub handle_drawn-requires-clause-ready : goal.handle_drawn-requires-clause-ready
handle_drawn-requires-clause-ready g c =
    Works-ready c.args.shop.now.tickets.now c.args.shop.now.env c.loop-drawn.self.number c.loop-drawn.self.pass c.draw.new.pass c.loop-drawn.self.outbox.items c.loop-drawn.invariant.works _ _ c.in-Some.ensures.some c.requires.ready

pub handle_drawn-requires-clause-room : goal.handle_drawn-requires-clause-room
handle_drawn-requires-clause-room g c =
    let more = Works-room c.args.shop.now.tickets.now c.args.shop.now.env c.loop-drawn.self.number c.loop-drawn.self.pass c.draw.new.pass c.loop-drawn.self.outbox.items c.loop-drawn.invariant.works _ _ c.in-Some.ensures.some in
    omega (arith, more, c.loop-drawn.self.outbox.ok.0, c.loop-drawn.invariant.room)

pub loop-drawn-smaller : goal.loop-drawn-smaller
loop-drawn-smaller g c =
    Works-falls c.args.shop.now.tickets.now c.args.shop.now.env c.loop-drawn.self.number c.loop-drawn.self.pass c.draw.new.pass c.loop-drawn.self.outbox.items c.loop-drawn.invariant.works _ _ c.in-Some.ensures.some

pub loop-drawn-preserved : goal.loop-drawn-preserved
loop-drawn-preserved g c =
    record {
      works = Works-more c.args.shop.now.tickets.now c.args.shop.now.env c.loop-drawn.self.number c.loop-drawn.self.pass c.draw.new.pass c.loop-drawn.self.outbox.items c.loop-drawn.invariant.works _ _ c.in-Some.ensures.some
          c.draw.ensures.own c.handle_drawn.new.outbox.items c.handle_drawn.ensures.entry;
      number = c.loop-drawn.invariant.number;
      room = omega (arith, c.loop-drawn.invariant.room, c.handle_drawn.ensures.capacity);
    }
