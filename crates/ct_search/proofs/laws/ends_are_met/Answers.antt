use Rattle.ct_search.proofs.Complete.{ends_met}
use Rattle.ct_search.proofs.laws.ends_are_met.Goals as goal

pub returns : goal.returns
returns g c = λ starts cases k from order complete is allowed none.
    ends_met (g.M.Machine.meaning c.args.machine.now) (g.met.M.Machine.lawful c.args.machine.now) cases starts complete k from is order allowed none
