use Rattle.std.proofs.Common.{◌+◌, take, drop, sym, ◌∙◌, ap, rules}
use Rattle.std.specs.Prelude.{Ok, FitsSigned}
use Rattle.std.specs.Int.{w128, complement_if}
use Rattle.std.proofs.lemmas.Int.{to_z-of_z}
use Rattle.std.proofs.lemmas.List.{take_rest}
use Rattle.std.proofs.lemmas.Result.{err_from_is_err_and}
use Rattle.ic_leb.specs.Value.{is_negative}
use Rattle.ic_leb.specs.Magnitude.{magnitude_of}
use Rattle.ic_leb.specs.Reading.{signed_at}
use Rattle.ic_leb.proofs.Values.{signed_magnitude}
use Rattle.ic_leb.proofs.Readers.{signed_format}
use Rattle.ic_leb.proofs.Found.{not_sized, too_large, not_too_large, signed_up_to}
use Rattle.ic_leb.proofs.reading.signed_in_full.Goals as goal

pub returns-in_err-size-clause-exact : goal.returns-in_err-size-clause-exact
unfolding signed_at
returns-in_err-size-clause-exact c =
    let p = err_from_is_err_and c.from_residual.result c.from_residual.ensures.1 in
    let sized = rw (c.most_bytes.ensures, take_rest c.args.bytes.now c.args.at) at c.in_err-size.ensures.exact in
    rw (p.1, p.2) (not_sized (signed_format c.args.width) (drop c.args.at c.args.bytes.now) c.args.at c.in_err-size.field-0.0 sized)

pub returns-in_err-n-clause-exact : goal.returns-in_err-n-clause-exact
unfolding signed_at
returns-in_err-n-clause-exact c =
    let p = err_from_is_err_and c.from_residual-in_err-n.result c.from_residual-in_err-n.ensures.1 in
    let rest = drop c.args.at c.args.bytes.now in
    let number = take c.in_ok-size.size rest in
    let sized = rw (c.most_bytes.ensures, take_rest c.args.bytes.now c.args.at) at c.in_ok-size.ensures.exact in
    let large = rw (c.is_negative-negative.ensures, take_rest c.args.bytes.now c.args.at) at c.in_err-n.ensures in
    rw (p.1, p.2)
    (too_large (signed_format c.args.width) rest c.args.at c.in_ok-size.size c.largest_signed.result (magnitude_of (is_negative number) number) c.in_err-n.field-0.0
    sized (signed_up_to c.args.width c.largest_signed.result number c.largest_signed.ensures) large)

pub returns-clause-exact : goal.returns-clause-exact
unfolding signed_at
returns-clause-exact c =
    let rest = drop c.args.at c.args.bytes.now in
    let number = take c.in_ok-size.size rest in
    let sized = rw (c.most_bytes.ensures, take_rest c.args.bytes.now c.args.at) at c.in_ok-size.ensures.exact in
    let small = rw (c.is_negative-negative.ensures, take_rest c.args.bytes.now c.args.at) at c.in_ok-n.ensures in
    let found = not_too_large (signed_format c.args.width) rest c.args.at c.in_ok-size.size c.largest_signed.result (magnitude_of (is_negative number) number) c.in_ok-n.n
    sized (signed_up_to c.args.width c.largest_signed.result number c.largest_signed.ensures) small in
    let fit : FitsSigned w128 c.with_sign.result = search rules in
    let signed = rw (c.is_negative-negative.ensures, take_rest c.args.bytes.now c.args.at) at c.with_sign.ensures in
    ap (λ z. Ok (z, c.args.at + c.in_ok-size.size))
    (to_z-of_z w128 c.with_sign.result fit ∙ signed ∙ ap (complement_if (is_negative number)) found.0 ∙ sym (signed_magnitude number))
    ∙ found.1
