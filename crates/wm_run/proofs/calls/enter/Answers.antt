use Rattle.std.proofs.Common.{List, ◌<◌, length, reverse, subst, sym, ap, ◌∙◌, refl}
use Rattle.std.proofs.lemmas.List.{reverse-append}
use Rattle.std.proofs.lemmas.Option.{slice_get_within}
use Rattle.wm_run.specs.declared.activation.Activation.{Activation}
use Rattle.wm_run.specs.UnderWay.{UnderWay}
use Rattle.wm_run.proofs.UnderWay.{calls}
use Rattle.wm_run.proofs.calls.enter.Goals as goal

pub returns-clause-under_way : goal.returns-clause-under_way
returns-clause-under_way c =
    λ first u.
    let within = slice_get_within c.args.valid.now.codes c.args.function c.requires.can.code c.requires.can.code_is in
    subst (UnderWay c.args.valid.now first c.in_ok-called.called) (sym (ap (λ (as' : List Activation). reverse as') c.in_ok-push.ensures.items ∙ reverse-append c.args.stacks.now.callers.items _))
    (calls c.args.valid.now first c.args.here _ c.in_ok-called.called (reverse c.args.stacks.now.callers.items) refl (subst (λ f. f < length c.args.valid.now.codes) (sym c.in_ok-called.ensures.laid.function_is) within) u)
