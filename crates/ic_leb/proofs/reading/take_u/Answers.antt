use Rattle.std.proofs.Common.{sym, ◌∙◌, ap}
use Rattle.std.proofs.lemmas.List.{take_rest}
use Rattle.std.proofs.lemmas.Result.{err_from_is_err_and}
use Rattle.ic_leb.specs.Reading.{and_rest, unsigned_reader}
use Rattle.ic_leb.proofs.Places.{read_from_start}
use Rattle.ic_leb.proofs.reading.take_u.Goals as goal

pub returns-in_err-n-clause-exact : goal.returns-in_err-n-clause-exact
unfolding unsigned_reader
returns-in_err-n-clause-exact c =
    let p = err_from_is_err_and c.from_residual.result c.from_residual.ensures.1 in
    rw p.1 (ap (λ r. and_rest r c.args.bytes.now) (sym (c.in_err-n.ensures.exact ∙ read_from_start _)))

pub returns-in_err-n-clause-fault : goal.returns-in_err-n-clause-fault
returns-in_err-n-clause-fault c =
    let p = err_from_is_err_and c.from_residual.result c.from_residual.ensures.1 in
    rw (p.1, p.2) (sym (c.in_err-n.ensures.exact ∙ read_from_start _))

pub returns-clause-exact : goal.returns-clause-exact
unfolding unsigned_reader
returns-clause-exact c =
    rw (take_rest c.args.bytes.now c.in_ok-n.place)
    (ap (λ r. and_rest r c.args.bytes.now) (sym (c.in_ok-n.ensures.exact ∙ read_from_start _)))
