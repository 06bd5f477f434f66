use Rattle.std.proofs.Common.{arith}
use Rattle.cd_sub.proofs.ArrangeLemmas.{written_back}
use Rattle.cd_sub.proofs.search.arrange.Goals as goal

pub returns-clause-same : goal.returns-clause-same
returns-clause-same c =
    let met = c.args.met.now in
    written_back met.items c.deref_mut.result.now c.sort_unstable.new.self c.args.next met.len c.deref_mut.ensures.value (omega (arith, met.ok.0)) c.requires c.sort_unstable.ensures.permutation
