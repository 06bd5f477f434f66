-- The steps of an installation, one after the other.
use Rattle.std.proofs.Common.{◌≡◌, ℕ, Bool, List, Option, Some, None, Result, refl, sym, ap, ◌∙◌, subst}
use Rattle.std.specs.Option.{option_map, IsSome}
use Rattle.wm_store.specs.Held.{Held}
use Rattle.ic_behaviour.specs.declared.env.Env.{Env}
use Rattle.wm_valid.specs.declared.entry.EntryName.TheVariants as entry
use Rattle.ic_behaviour.specs.declared.install.Mode.{Mode}
use Rattle.ic_behaviour.specs.declared.install.Mode.TheVariants.{Upgrade}
use Rattle.ic_behaviour.specs.State.{Code}
use Rattle.ic_behaviour.specs.Installing.{Stage, Staged, Goes, ◌>>=◌, with_stable, made_of, made, started, left, upgrade_steps, steps, first_stage}
use Rattle.ic_state.specs.declared.canister.Canister.{Canister}
use Rattle.ic_state.specs.Seen.{seen, code_of}
use Rattle.wm_semantics.specs.Instance.{instance}
use Rattle.ic_state.specs.declared.canister.Code.{Code as StoredCode}
use Rattle.ic_entry.specs.declared.staging.Draft.{Draft}
use Rattle.ic_entry.specs.declared.staging.Stop.{Stop}
use Rattle.ic_entry.specs.Installed.{asked_of, stage_of, Drafts}

-- where a step goes on, the next ones decide
drafts_go : (r : Result Draft Stop) (now : Stage) (used : ℕ) (step : Staged) (next : Stage → Staged) → step ≡ Goes now → Drafts r used (next now) → Drafts r used (step >>= next)
drafts_go r now used step next is then = subst (Drafts r used) (sym (ap (λ k. k >>= next) is)) then

module _ (env : Env) (c d : Canister) (sender arg : List ℕ) (old new : Code) (skips : Bool) (certified stable : List ℕ) (store : Held) (spent : ℕ) (now : Stage)
    (rest : d ≡ record c { store = d.store }) (copied : certified ≡ c.certified) (lent : stable ≡ now.store.stable)
    (leaves : left (asked_of env c sender) old skips (stage_of c.store.lists certified spent) ≡ Goes now)
    (makes : option_map (with_stable stable) (instance new.«module») ≡ Some store.lists) where
  -- the old code is told, the new store is made, and the new code starts, on a canister of which the store is another
  pub upgrades : (r : Result Draft Stop) (used : ℕ) → Drafts r used (started (asked_of env d sender) new entry.PostUpgrade arg (stage_of store.lists now.certified now.used))
      → Drafts r used (upgrade_steps (asked_of env c sender) old new skips arg (stage_of c.store.lists c.certified spent))
  upgrades r used starts =
      let last = λ (s : Stage). started (asked_of env c sender) new entry.PostUpgrade arg s in
      let then = λ (s : Stage). made new s.store.stable s >>= last in
      let after = stage_of store.lists now.certified now.used in
      let told : left (asked_of env c sender) old skips (stage_of c.store.lists c.certified spent) ≡ Goes now = ap (λ l. left (asked_of env c sender) old skips (stage_of c.store.lists l spent)) (sym copied) ∙ leaves in
      let makes_it : made new now.store.stable now ≡ Goes after = ap (λ l. made new l now) (sym lent) ∙ ap (λ p. made_of p now) makes in
      let same : started (asked_of env d sender) new entry.PostUpgrade arg after ≡ last after = ap (λ (x : Canister). started (asked_of env x sender) new entry.PostUpgrade arg after) rest in
      drafts_go r now used (left (asked_of env c sender) old skips (stage_of c.store.lists c.certified spent)) then told
      (drafts_go r after used (made new now.store.stable now) last makes_it (subst (Drafts r used) same starts))

-- ---- the mode

has_seen : (code : Option StoredCode) → IsSome code → IsSome (option_map code_of code)
has_seen None some = absurd cc
has_seen (Some code) some = refl

by_old : (r : Result Draft Stop) (used : ℕ) (env : Env) (c : Canister) (sender : List ℕ) (old : Option Code) (new : Code) (skips : Bool) (arg : List ℕ) (now : Stage) → IsSome old
    → ((o : Code) → old ≡ Some o → Drafts r used (upgrade_steps (asked_of env c sender) o new skips arg now)) → Drafts r used (steps (asked_of env c sender) (Upgrade skips) old new arg now)
by_old r used env c sender None new skips arg now some does = absurd cc
by_old r used env c sender (Some o) new skips arg now some does = does o refl

pub upgrade_is : (r : Result Draft Stop) (used : ℕ) (env : Env) (c : Canister) (sender : List ℕ) (new : Code) (mode : Mode) (skips : Bool) (arg : List ℕ) (spent : ℕ) → mode ≡ Upgrade skips → IsSome c.code → spent ≡ 0
    → ((o : Code) → option_map code_of c.code ≡ Some o → Drafts r used (upgrade_steps (asked_of env c sender) o new skips arg (stage_of c.store.lists c.certified spent)))
    → Drafts r used (steps (asked_of env c sender) mode (option_map code_of c.code) new arg (first_stage (seen c)))
upgrade_is r used env c sender new mode skips arg spent is some fresh does =
    subst (λ m. Drafts r used (steps (asked_of env c sender) m (option_map code_of c.code) new arg (first_stage (seen c)))) (sym is)
    (by_old r used env c sender (option_map code_of c.code) new skips arg (first_stage (seen c)) (has_seen c.code some)
    (λ o e. subst (λ n. Drafts r used (upgrade_steps (asked_of env c sender) o new skips arg (stage_of c.store.lists c.certified n))) fresh (does o e)))
