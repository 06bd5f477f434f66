-- What runs come to, where a host is looked at through a function: its outcome, looked at so, is that of the host which is seen.
use Rattle.std.proofs.Common.{◌≡◌, ℕ, zero, suc, List, Option, Some, None, option_map, refl, ap, ◌∙◌}
use Rattle.wm_tree.specs.declared.types.ValType.{ValType}
use Rattle.wm_tree.specs.declared.parts.Module.{Module}
use Rattle.wm_store.specs.Lists.{Lists}
use Rattle.wm_semantics.specs.declared.host.HostAnswer.{HostAnswer}
use Rattle.wm_semantics.specs.declared.host.HostAnswer.TheVariants as answer
use Rattle.wm_semantics.specs.declared.target.Target.{Target}
use Rattle.wm_semantics.specs.Configs.{Config, Next, Goes, Asks, Ends, Traps, Stuck}
use Rattle.wm_semantics.specs.Steps.{State, Outcome, After, Further, Over, state, alone, answered, paid, charged}
use Rattle.wm_semantics.specs.Begin.{begins}
use Rattle.wm_semantics.specs.Fuel.{Reply, HostOf, by_reply, made, step_of, run_on, run_for, measure, invoked}
use Rattle.wm_semantics.specs.Through.{reply_through, outcome_through, IsSeenAs}

abbrev state_through : {H G : Type 0} → (H → G) → State H → State G
state_through see s = state (see s.host) s.store s.used s.config

abbrev after_through : {H G : Type 0} → (H → G) → Option (After H) → Option (After G)
after_through see None = None
after_through see (Some (Further s)) = Some (Further (state_through see s))
after_through see (Some (Over o)) = Some (Over (outcome_through see o))

module _ {H G : Type 0} (see : H → G) where
  alone_through : (h : H) (s : Lists) (used : ℕ) (n : Next) → alone (see h) s used n ≡ after_through see (alone h s used n)
  alone_through h s used (Goes t c) = refl
  alone_through h s used (Asks import args result c) = refl
  alone_through h s used Ends = refl
  alone_through h s used (Traps t) = refl
  alone_through h s used Stuck = refl

  answered_through : (h : H) (s : Lists) (used : ℕ) (c : Config) (result : Option ValType) (a : HostAnswer)
      → answered (see h) s used c result a ≡ after_through see (answered h s used c result a)
  answered_through h s used c None answer.Nothing = refl
  answered_through h s used c None (answer.Number n) = refl
  answered_through h s used c None (answer.Trap t) = refl
  answered_through h s used c (Some v) answer.Nothing = refl
  answered_through h s used c (Some v) (answer.Number n) = refl
  answered_through h s used c (Some v) (answer.Trap t) = refl

  run_on_through : (next : State H → Option (Outcome H)) (seen_next : State G → Option (Outcome G))
      → ((t : State H) → seen_next (state_through see t) ≡ option_map (outcome_through see) (next t))
      → (a : Option (After H)) → run_on seen_next (after_through see a) ≡ option_map (outcome_through see) (run_on next a)
  run_on_through next seen_next each None = refl
  run_on_through next seen_next each (Some (Further t)) = each t
  run_on_through next seen_next each (Some (Over o)) = refl

module _ {H G : Type 0} (see : H → G) (reply : HostOf H) (seen : HostOf G) (is : IsSeenAs see reply seen) where
  made_through : (limit : ℕ) (h : H) (s : Lists) (used : ℕ) (n : Next) → made seen limit (see h) s used n ≡ after_through see (made reply limit h s used n)
  made_through limit h s used (Goes t c) = refl
  made_through limit h s used (Asks import args result c) =
      let r : Reply H = reply h import args s limit used in
      ap (by_reply c result) (is h import args s limit used) ∙ answered_through see r.host r.store r.used c result r.answer
  made_through limit h s used Ends = refl
  made_through limit h s used (Traps t) = refl
  made_through limit h s used Stuck = refl

  -- neither the charge nor the reduction looks at the host
  step_through : (m : Module) (limit : ℕ) (s : State H) → step_of seen m limit (state_through see s) ≡ after_through see (step_of reply m limit s)
  step_through m limit s = made_through limit s.host s.store (paid limit s) (charged m limit s)

  run_through : (m : Module) (limit n : ℕ) (s : State H) → run_for seen m limit n (state_through see s) ≡ option_map (outcome_through see) (run_for reply m limit n s)
  run_through m limit zero s = refl
  run_through m limit (suc n) s =
      ap (run_on (run_for seen m limit n)) (step_through m limit s)
      ∙ run_on_through see (run_for reply m limit n) (run_for seen m limit n) (λ t. run_through m limit n t) (step_of reply m limit s)

  pub invoked_through : (m : Module) (limit : ℕ) (h : H) (s : Lists) (used : ℕ) (target : Target)
      → invoked seen m limit (see h) s used target ≡ option_map (outcome_through see) (invoked reply m limit h s used target)
  invoked_through m limit h s used target =
      ap (run_on (λ t. run_for seen m limit (suc (measure limit t)) t)) (alone_through see h s used (begins m s target))
      ∙ run_on_through see (λ t. run_for reply m limit (suc (measure limit t)) t) (λ t. run_for seen m limit (suc (measure limit t)) t)
      (λ t. run_through m limit (suc (measure limit t)) t) (alone h s used (begins m s target))
