-- What a move asks, by its action.
use Rattle.std.proofs.Common.{◌≡◌, ℕ, false, List, refl, sym, subst, inl, inr}
use Rattle.std.specs.Prelude.{Result, Ok, Err, IfOk}
use Rattle.ic_behaviour.specs.declared.install.Mode.TheVariants.{Upgrade}
use Rattle.ic_script.specs.declared.Ask.{Ask}
use Rattle.ct_sources.specs.Files.{Files}
use Rattle.ct_check.specs.Moving.{Moving}
use Rattle.ct_check.specs.declared.checked.CheckedAction.{CheckedAction}
use Rattle.ct_check.specs.declared.checked.CheckedAction.TheVariants as actions
use Rattle.ct_check.specs.declared.checked.CheckedChange.{CheckedChange}
use Rattle.ct_check.specs.declared.checked.CheckedMessage.{CheckedMessage}
use Rattle.ct_outcomes.specs.declared.named.Named.{Named}
use Rattle.ct_outcomes.specs.declared.came.Came.TheVariants.{NotValues, NotUpgradable}
use Rattle.ct_asked.specs.declared.asked.Asked.{Asked}
use Rattle.ct_asked.specs.declared.asked.Asked.TheVariants.{Call, Query, Nothing}
use Rattle.ct_asked.specs.Asked.{unless_too_long, IsMessage, IsChange, Asks, IsUpgradable, AsksUpgrade, AsksBy, IsAsked}

pub asks_one : (way : Ask → Asked) (IsMeant : Ask → Type 0) (ask : Ask) → IsMeant ask → Asks way IsMeant (unless_too_long way ask)
asks_one way IsMeant ask is = inl (ask, is, refl)

pub asks_none : (way : Ask → Asked) (IsMeant : Ask → Type 0) → ((ask : Ask) → IsMeant ask → ⊥) → Asks way IsMeant (Nothing NotValues)
asks_none way IsMeant none = inr (none, refl)

module _ (files : Files) (names : List Named) where
  pub upgrades : (by : ℕ) (change : CheckedChange) (asked : Asked) → IsUpgradable files change → Asks Call (IsChange files names by (Upgrade false) change) asked → AsksUpgrade files names by change asked
  upgrades by change asked may asks = inl (may, asks)

  pub never_upgrades : (by : ℕ) (change : CheckedChange) → (IsUpgradable files change → ⊥) → AsksUpgrade files names by change (Nothing NotUpgradable)
  never_upgrades by change never = inr (never, refl)

  module _ (moving : Moving) where
    by_action : (asked : Asked) (action : CheckedAction) → moving.action ≡ action → AsksBy files names moving.by action asked → IsAsked files names moving asked
    by_action asked action is asks = subst (λ (a : CheckedAction). AsksBy files names moving.by a asked) (sym is) asks

    pub asks_call : (asked : Asked) (message : CheckedMessage) → moving.action ≡ actions.Call message → Asks Call (IsMessage files names moving.by message) asked → IsAsked files names moving asked
    asks_call asked message is asks = by_action asked (actions.Call message) is asks

    pub asks_query : (asked : Asked) (message : CheckedMessage) → moving.action ≡ actions.Query message → Asks Query (IsMessage files names moving.by message) asked → IsAsked files names moving asked
    asks_query asked message is asks = by_action asked (actions.Query message) is asks

    -- the parts of a move are seen apart
    module _ (by : ℕ) (action said : CheckedAction) (parts : ◌≡◌ {A = Moving} (record { by = by; action = action }) moving) (is : action ≡ said) where
      pub asks_said : (asked : Asked) → AsksBy files names by said asked → IsAsked files names moving asked
      asks_said asked asks = subst (λ (m : Moving). IsAsked files names m asked) parts (subst (λ (a : CheckedAction). AsksBy files names by a asked) (sym is) asks)

      pub all_asked : {E : Type 0} (r : Result Asked E) → IfOk r (AsksBy files names by said) → IfOk r (IsAsked files names moving)
      all_asked (Ok asked) asks = asks_said asked asks
      all_asked (Err e) asks = tt
