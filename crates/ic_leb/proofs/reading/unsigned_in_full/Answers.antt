use Rattle.std.proofs.Common.{◌+◌, take, drop, sym, ◌∙◌, ap, false}
use Rattle.std.specs.Prelude.{Ok}
use Rattle.std.proofs.lemmas.List.{take_rest}
use Rattle.std.proofs.lemmas.Result.{err_from_is_err_and}
use Rattle.ic_leb.specs.Magnitude.{magnitude_of}
use Rattle.ic_leb.specs.Reading.{unsigned_at}
use Rattle.ic_leb.proofs.Values.{unsigned_magnitude}
use Rattle.ic_leb.proofs.Readers.{unsigned_format}
use Rattle.ic_leb.proofs.Found.{not_sized, too_large, not_too_large, unsigned_up_to}
use Rattle.ic_leb.proofs.reading.unsigned_in_full.Goals as goal

pub returns-in_err-size-clause-exact : goal.returns-in_err-size-clause-exact
unfolding unsigned_at
returns-in_err-size-clause-exact c =
    let p = err_from_is_err_and c.from_residual.result c.from_residual.ensures.1 in
    let sized = rw (c.most_bytes.ensures, take_rest c.args.bytes.now c.args.at) at c.in_err-size.ensures.exact in
    rw (p.1, p.2) (not_sized (unsigned_format c.args.width) (drop c.args.at c.args.bytes.now) c.args.at c.in_err-size.field-0.0 sized)

pub returns-in_err-n-clause-exact : goal.returns-in_err-n-clause-exact
unfolding unsigned_at
returns-in_err-n-clause-exact c =
    let p = err_from_is_err_and c.from_residual-in_err-n.result c.from_residual-in_err-n.ensures.1 in
    let rest = drop c.args.at c.args.bytes.now in
    let number = take c.in_ok-size.size rest in
    let sized = rw (c.most_bytes.ensures, take_rest c.args.bytes.now c.args.at) at c.in_ok-size.ensures.exact in
    let large = rw (take_rest c.args.bytes.now c.args.at) at c.in_err-n.ensures in
    rw (p.1, p.2)
    (too_large (unsigned_format c.args.width) rest c.args.at c.in_ok-size.size c.largest_unsigned.result (magnitude_of false number) c.in_err-n.field-0.0
    sized (unsigned_up_to c.args.width c.largest_unsigned.result number c.largest_unsigned.ensures) large)

pub returns-clause-exact : goal.returns-clause-exact
unfolding unsigned_at
returns-clause-exact c =
    let rest = drop c.args.at c.args.bytes.now in
    let number = take c.in_ok-size.size rest in
    let sized = rw (c.most_bytes.ensures, take_rest c.args.bytes.now c.args.at) at c.in_ok-size.ensures.exact in
    let small = rw (take_rest c.args.bytes.now c.args.at) at c.in_ok-n.ensures in
    let found = not_too_large (unsigned_format c.args.width) rest c.args.at c.in_ok-size.size c.largest_unsigned.result (magnitude_of false number) c.in_ok-n.n
    sized (unsigned_up_to c.args.width c.largest_unsigned.result number c.largest_unsigned.ensures) small in
    ap (λ n. Ok (n, c.args.at + c.in_ok-size.size)) (found.0 ∙ sym (unsigned_magnitude number)) ∙ found.1
