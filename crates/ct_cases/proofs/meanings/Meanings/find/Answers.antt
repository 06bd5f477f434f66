use Rattle.std.proofs.Common.{◌≡◌, Some, length, sym, ap, ◌∙◌, arith}
use Rattle.std.proofs.lemmas.Bool.{false≢true}
use Rattle.std.proofs.lemmas.Option.{slice_get-get_or}
use Rattle.ct_cases.proofs.Meant.{not_so_far}
use Rattle.ct_cases.proofs.meanings.Meanings.find.Goals as goal

pub loop-place-init : goal.loop-place-init
loop-place-init c = λ k d lt. absurd (omega (arith, lt))

pub loop-place-preserved : goal.loop-place-preserved
loop-place-preserved c =
    let same : c.deref-other-items.result.now ≡ c.args.self.now = c.deref-other-items.ensures.value ∙ c.self.view_is in
    let within = rw same at c.loop-place-test.true in
    let here = rw same at c.other-item.is in
    not_so_far c.args.self.now c.args.meaning.now c.other-item.result c.loop-place.place within here (λ e. false≢true (sym c.if-is_same.false ∙ c.is_same.ensures.1 e)) c.loop-place.invariant

pub returns-then-is_same : goal.returns-then-is_same
returns-then-is_same c =
    let same : c.deref-other-items.result.now ≡ c.args.self.now = c.deref-other-items.ensures.value ∙ c.self.view_is in
    let within = rw same at c.loop-place-test.true in
    let here = rw same at c.other-item.is in
    slice_get-get_or c.args.self.now c.loop-place.place c.other-item.result within ∙ ap Some (sym here ∙ c.is_same.ensures.0 c.if-is_same.true)

pub returns : goal.returns
returns c =
    let same : c.deref-other-items.result.now ≡ c.args.self.now = c.deref-other-items.ensures.value ∙ c.self.view_is in
    let many : length c.deref-other-items.result.now ≡ length c.args.self.now = ap length same in
    λ k d lt. c.loop-place.invariant k d (omega (arith, lt, many, c.loop-place-test.false))
