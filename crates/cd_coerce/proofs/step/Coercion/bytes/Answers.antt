use Rattle.std.proofs.Common.{◌∙◌, ap, arith}
use Rattle.std.proofs.lemmas.Result.{err_from_is_err_and}
use Rattle.std.proofs.lemmas.List.{map_push}
use Rattle.cd_codec.specs.View.{view, views}
use Rattle.cd_coerce.specs.Parts.{byte_value}
use Rattle.cd_coerce.specs.Read.{coerced}
use Rattle.cd_coerce.proofs.CountLemmas.{number_push}
use Rattle.cd_coerce.proofs.LoopLemmas.{one_read, one_refused}
use Rattle.cd_coerce.proofs.step.Coercion.bytes.Goals as goal

pub returns-in_err-value-clause-values : goal.returns-in_err-value-clause-values
returns-in_err-value-clause-values c =
    let p = err_from_is_err_and c.from_residual-in_err-value.result c.from_residual-in_err-value.ensures.1 in
    rw (p.1, p.2)
    (one_refused c.in_err-value.field-0.0 (λ s b. coerced s (byte_value b) c.args.t c.args.u) c.args.self.now.0 c.loop-byte.self.0 (views c.loop-byte.items.items) c.args.bytes.now c.loop-byte.byte-index _ _
    c.loop-byte.invariant.same c.loop-byte-test.true c.in_err-value.ensures.value c.loop-byte.invariant.read)

pub loop-byte-preserved : goal.loop-byte-preserved
loop-byte-preserved c =
    let grown = ap views c.in_ok-push.ensures.items ∙ map_push view c.loop-byte.items.items c.in_ok-value.value in
    let read = one_read (λ s b. coerced s (byte_value b) c.args.t c.args.u) c.args.self.now.0 c.loop-byte.self.0 (views c.loop-byte.items.items) c.args.bytes.now c.loop-byte.byte-index 0 (view c.in_ok-value.value) _
    c.loop-byte.invariant.same c.loop-byte-test.true c.in_ok-value.ensures.value c.loop-byte.invariant.read in
    record { same = c.byte.ensures.tables ∙ c.loop-byte.invariant.same; read = rw grown read; counted = rw (grown, number_push (views c.loop-byte.items.items) (view c.in_ok-value.value)) (omega (arith, c.in_ok-value.ensures.counted, c.loop-byte.invariant.counted)) }
