use Rattle.std.proofs.Common.{sym, ◌∙◌, ap, rules}
use Rattle.std.specs.Prelude.{FitsSigned}
use Rattle.std.specs.Int.{w128}
use Rattle.std.proofs.lemmas.Int.{to_z-of_z}
use Rattle.std.proofs.lemmas.List.{take_rest}
use Rattle.std.proofs.lemmas.Result.{err_from_is_err_and}
use Rattle.ic_leb.specs.Reading.{and_rest, signed_reader}
use Rattle.ic_leb.proofs.Places.{read_from_start}
use Rattle.ic_leb.proofs.reading.take_s.Goals as goal

pub returns-in_err-z-clause-exact : goal.returns-in_err-z-clause-exact
unfolding signed_reader
returns-in_err-z-clause-exact c =
    let p = err_from_is_err_and c.from_residual.result c.from_residual.ensures.1 in
    rw p.1 (ap (λ r. and_rest r c.args.bytes.now) (sym (c.in_err-z.ensures.exact ∙ read_from_start _)))

pub returns-in_err-z-clause-fault : goal.returns-in_err-z-clause-fault
returns-in_err-z-clause-fault c =
    let p = err_from_is_err_and c.from_residual.result c.from_residual.ensures.1 in
    rw (p.1, p.2) (sym (c.in_err-z.ensures.exact ∙ read_from_start _))

pub returns-clause-exact : goal.returns-clause-exact
unfolding signed_reader
returns-clause-exact c =
    let fit : FitsSigned w128 c.in_ok-z.z = search rules in
    rw (take_rest c.args.bytes.now c.in_ok-z.place, to_z-of_z w128 c.in_ok-z.z fit)
    (ap (λ r. and_rest r c.args.bytes.now) (sym (c.in_ok-z.ensures.exact ∙ read_from_start _)))
