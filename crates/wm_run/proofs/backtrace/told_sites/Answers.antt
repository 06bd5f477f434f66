use Rattle.std.proofs.Common.{◌≡◌, ◌-◌, [], ◌∷◌, ◌++◌, length, map, reverse, drop, arith, ap, sym, ◌∙◌}
use Rattle.wm_run.specs.Backtrace.{most, site_of, waiting}
use Rattle.wm_run.proofs.Telling.{last_reversed, one_more}
use Rattle.wm_run.proofs.backtrace.told_sites.Goals as goal

pub loop-place-preserved : goal.loop-place-preserved
loop-place-preserved c =
    let imports = length c.args.valid.now.module.imports in
    let here = site_of imports c.args.here.function c.args.here.place in (
      c.in_ok-push-2.ensures.items ∙ ap (λ ss. ss ++ c.site_at-in-loop-place.result ∷ []) c.loop-place.invariant.0
          ∙ ap (λ ss. here ∷ ss) (one_more imports c.args.callers.now (c.loop-place.place - 1) c.loop-place.place _ c.saturating_sub.result c.site_at-in-loop-place.result (omega arith) (omega arith)
          c.site_at-in-loop-place.ensures c.saturating_sub.ensures),
      omega (arith, c.loop-place-test.true, c.saturating_sub-place-start.ensures),
    )

pub returns : goal.returns
returns c =
    let imports = length c.args.valid.now.module.imports in
    let here = site_of imports c.args.here.function c.args.here.place in
    let first : c.loop-place.place ≡ length c.args.callers.now - 31 = omega (arith, c.loop-place-test.false, c.loop-place.invariant.1, c.saturating_sub-place-start.ensures) in
    c.loop-place.invariant.0 ∙ ap (λ as'. here ∷ map (waiting imports) as') (ap (λ k. reverse (drop k c.args.callers.now)) first ∙ sym (last_reversed (most - 1) c.args.callers.now))
