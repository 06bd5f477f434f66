use Rattle.std.proofs.Common.{List, length, reverse, arith, ap, subst, ◌∙◌}
use Rattle.std.proofs.lemmas.List.{length-reverse}
use Rattle.wm_run.specs.declared.activation.Activation.{Activation}
use Rattle.wm_run.specs.UnderWay.{EndedAt}
use Rattle.wm_run.specs.Backtrace.{sites_of}
use Rattle.wm_run.proofs.Telling.{is_told, trapped_there}
use Rattle.wm_run.proofs.backtrace.backtrace_of.Goals as goal

pub returns-in_ok-told_sites-in-Own : goal.returns-in_ok-told_sites-in-Own
returns-in_ok-told_sites-in-Own c =
    λ entered h.
    let v = c.args.valid.now in
    let here = c.in-Own.here in
    let items = c.args.stacks.now.callers.items in
    let at = subst (EndedAt v entered (reverse items) c.args.halted.now.ended) c.in-Own.is h in
    let u = trapped_there v at.0 here (reverse items) c.args.halted.now.ended c.in_default.not-Returned at.2 in
    is_told v c.module-module.ensures.valid entered at.0 at.1 here (reverse items) u _
    (c.in_ok-told_sites-in-Own.ensures ∙ ap (λ (as' : List Activation). sites_of (length v.module.imports) here (reverse as')) c.as_slice-callers.ensures.value)
    (omega (arith, c.saturating_sub.ensures, length-reverse items, c.as_slice-callers.ensures.len, ap length c.as_slice-callers.ensures.value))
