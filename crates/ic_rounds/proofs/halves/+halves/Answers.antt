use Rattle.std.proofs.Common.{refl}
use Rattle.ic_rounds.proofs.Elements.{zip-halves}
use Rattle.ic_rounds.proofs.halves.+halves.Goals as goal

pub all_work-returns : goal.all_work-returns
all_work-returns g n c =
    let cut = c.split_at_mut-front in
    zip-halves (g.W.Work.did c.args.shared.now) c.args.workers.now cut.result.0.now cut.result.1.now _ _ _ cut.ensures.value refl c.both_halves.ensures.front c.both_halves.ensures.back
