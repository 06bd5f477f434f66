use Rattle.std.proofs.Common.{◌≡◌, ℕ, List, [], ◌∷◌, ◌++◌, Option, Some, Ok, Err, sym, ap, subst, ◌∙◌}
use Rattle.wm_semantics.specs.declared.target.Target.{Target}
use Rattle.wm_semantics.specs.declared.target.Ended.TheVariants.{Trapped}
use Rattle.wm_semantics.specs.Functions.{look_up, callback_type}
use Rattle.wm_semantics.specs.Steps.{outcome}
use Rattle.wm_semantics.specs.Begin.{Invokes}
use Rattle.wm_run.specs.Activations.{FoundBy}
use Rattle.wm_run.specs.Firsts.{EndsIn}
use Rattle.wm_run.proofs.Follow.{if_ok}
use Rattle.wm_run.proofs.Firsts.{function_invokes, element_invokes, element_traps, element_there}
use Rattle.wm_run.specs.Backtrace.{entered_function}
use Rattle.wm_run.specs.UnderWay.{HaltedIn}
use Rattle.wm_run.proofs.invocation.run_target.Goals as goal

pub returns-in-Function-clause-outcome : goal.returns-in-Function-clause-outcome
returns-in-Function-clause-outcome g c =
    let v = c.args.valid.now in
    let s = c.args.store.now.lists in
    let f = c.in-Function.function in
    let used = c.args.meter.now.used in
    let limit = c.args.meter.now.limit in
    let host = c.args.host.now in
    let r = c.run_function.new in
    if_ok c.run_function.result _ _ (λ halted e.
    subst (λ (t : Target). Invokes g.H.Host.answers v.module limit host s used t (outcome halted.ended r.host r.store.lists r.meter.used)) (sym c.in-Function.is)
    (function_invokes v c.module-module.ensures.valid s c.requires.fits c.requires.bytes g.H.Host.answers limit host used (outcome halted.ended r.host r.store.lists r.meter.used) f
    (subst (λ (ns : List ℕ). EndsIn g.H.Host.answers v limit host s used f ns (outcome halted.ended r.host r.store.lists r.meter.used)) c.requires.operands e))) c.run_function.ensures.ends

pub returns-in_ok-push-in-Ok-clause-outcome : goal.returns-in_ok-push-in-Ok-clause-outcome
returns-in_ok-push-in-Ok-clause-outcome g c =
    let v = c.args.valid.now in
    let s = c.args.store.now.lists in
    let f = c.in-Ok.function in
    let i = c.in-Element.index in
    let env = c.in-Element.env in
    let used = c.args.meter.now.used in
    let limit = c.args.meter.now.limit in
    let host = c.args.host.now in
    let r = c.run_function-in-Ok.new in
    let found : FoundBy (look_up v.module s.table callback_type i) (Ok f) = subst (λ (ts : List (Option ℕ)). FoundBy (look_up v.module ts callback_type i) (Ok f)) c.table.ensures c.in-Ok.ensures in
    let args : c.push.new.self.items ≡ env ∷ [] =
    c.in_ok-push-in-Ok.ensures.items ∙ ap (λ (xs : List ℕ). xs ++ (c.from.result ∷ [])) c.requires.operands ∙ ap (λ (k : ℕ). k ∷ []) c.from.ensures in
    if_ok c.run_function-in-Ok.result _ _ (λ halted e.
    subst (λ (t : Target). Invokes g.H.Host.answers v.module limit host s used t (outcome halted.ended r.host r.store.lists r.meter.used)) (sym c.in-Element.is)
    (element_invokes v c.module-module.ensures.valid s c.requires.fits c.requires.bytes g.H.Host.answers limit host used (outcome halted.ended r.host r.store.lists r.meter.used) i env f found
    (subst (λ (ns : List ℕ). EndsIn g.H.Host.answers v limit host s used f ns (outcome halted.ended r.host r.store.lists r.meter.used)) args e))) c.run_function-in-Ok.ensures.ends

pub returns-in-Err-clause-outcome : goal.returns-in-Err-clause-outcome
returns-in-Err-clause-outcome g c =
    let v = c.args.valid.now in
    let s = c.args.store.now.lists in
    let i = c.in-Element.index in
    let env = c.in-Element.env in
    let used = c.args.meter.now.used in
    let limit = c.args.meter.now.limit in
    let host = c.args.host.now in
    let refused : FoundBy (look_up v.module s.table callback_type i) (Err c.in-Err.trap) =
    subst (λ (ts : List (Option ℕ)). FoundBy (look_up v.module ts callback_type i) (Err c.in-Err.trap)) c.table.ensures c.in-Err.ensures in
    subst (λ (t : Target). Invokes g.H.Host.answers v.module limit host s used t (outcome (Trapped c.in-Err.trap) host s used)) (sym c.in-Element.is)
    (element_traps v c.module-module.ensures.valid s c.requires.fits c.requires.bytes g.H.Host.answers limit host used i env c.in-Err.trap refused)

-- ---- the function that is entered

pub returns-in-Function-clause-under_way : goal.returns-in-Function-clause-under_way
returns-in-Function-clause-under_way g c =
    if_ok c.run_function.result _ _ (λ halted h f e.
    let is : Some c.in-Function.function ≡ Some f = sym (ap (entered_function c.args.store.now.lists.table) c.in-Function.is) ∙ e in
    let same : c.in-Function.function ≡ f = cc in
    subst (λ (k : ℕ). HaltedIn c.args.valid.now k c.run_function.new.stacks halted) same h) c.run_function.ensures.under_way

pub returns-in_ok-push-in-Ok-clause-under_way : goal.returns-in_ok-push-in-Ok-clause-under_way
returns-in_ok-push-in-Ok-clause-under_way g c =
    let v = c.args.valid.now in
    let s = c.args.store.now.lists in
    let i = c.in-Element.index in
    let found : FoundBy (look_up v.module s.table callback_type i) (Ok c.in-Ok.function) = subst (λ (ts : List (Option ℕ)). FoundBy (look_up v.module ts callback_type i) (Ok c.in-Ok.function)) c.table.ensures c.in-Ok.ensures in
    if_ok c.run_function-in-Ok.result _ _ (λ halted h f e.
    let is : Some c.in-Ok.function ≡ Some f = sym (element_there v.module callback_type s.table i c.in-Ok.function found) ∙ sym (ap (entered_function s.table) c.in-Element.is) ∙ e in
    let same : c.in-Ok.function ≡ f = cc in
    subst (λ (k : ℕ). HaltedIn v k c.run_function-in-Ok.new.stacks halted) same h) c.run_function-in-Ok.ensures.under_way
