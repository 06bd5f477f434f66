-- Deliveries in any order that is allowed are orders of the search.
use Rattle.std.proofs.Common.{◌≡◌, ℕ, List, [], ◌∷◌, refl, sym, ap}
use Rattle.ic_behaviour.specs.State.{State}
use Rattle.ic_behaviour.specs.Steps.{step}
use Rattle.ic_order.proofs.Places.{listed, only}
use Rattle.ct_run.specs.Called.{rules_of}
use Rattle.ct_run.specs.Statements.{Setting}
use Rattle.ct_search.specs.Meaning.{along, IsAllowed}
use Rattle.ct_worlds.specs.Worlds.{worlds}
use Rattle.ct_cases.specs.Interleaves.{Deliver}

module _ (setting : Setting) where
  pub delivered : (n : ℕ) (s : State) (order : List ℕ) (t : State) → Deliver setting s order t
      → IsAllowed (worlds setting.charge.limit setting.charge.price) (n, s) order
      × (along (worlds setting.charge.limit setting.charge.price) (n, s) order ≡ (n, t))
  delivered n s [] t same = (tt, ap (λ (x : State). (n, x)) (sym same))
  delivered n s (place ∷ order) t (may, rest) =
      let more = delivered n (step (rules_of setting.charge) s place) order t rest in
      ((listed s place may, more.0), more.1)

  -- the state that an order leads to, and the number that stays
  pub delivers : (n : ℕ) (s : State) (order : List ℕ) → IsAllowed (worlds setting.charge.limit setting.charge.price) (n, s) order
      → Deliver setting s order (along (worlds setting.charge.limit setting.charge.price) (n, s) order).1
      × ((along (worlds setting.charge.limit setting.charge.price) (n, s) order).0 ≡ n)
  delivers n s [] allowed = (refl, refl)
  delivers n s (place ∷ order) allowed =
      let more = delivers n (step (rules_of setting.charge) s place) order allowed.1 in
      ((only s place allowed.0, more.0), more.1)
