use Rattle.std.proofs.Common.{sym, subst}
use Rattle.ic_rounds.specs.Taking.{is_key, AreTheirs}
use Rattle.ic_rounds.proofs.Gathers.{none_theirs}
use Rattle.ic_rounds.proofs.taken.taken_out.Goals as goal

pub gather-requires : goal.gather-requires
gather-requires c =
    let is = is_key c.args.canisters.now.entries in
    record { theirs = subst (AreTheirs is) (sym c.new.ensures) (none_theirs is) }
