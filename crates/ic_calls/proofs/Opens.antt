-- Whether a context is open.
use Rattle.std.proofs.Common.{◌≡◌, Bool, true, false, ◌||◌, cond, List, [], ◌∷◌, refl, true≢false, sym}
use Rattle.std.specs.List.{filter, list_any}
use Rattle.ic_behaviour.specs.declared.context.Context.{Context}
use Rattle.ic_behaviour.specs.declared.phase.Waiter.{Waiter}
use Rattle.ic_behaviour.specs.declared.phase.Phase.TheVariants.{Stopping}
use Rattle.ic_behaviour.specs.Closing.{is_open, releases}

pub none_open : (xs : List Context) → list_any is_open xs ≡ false → filter is_open xs ≡ []
none_open [] e = refl
none_open (x ∷ xs) e = by (is_open x) e (none_open xs) where
  by : (b : Bool) → (b || list_any is_open xs) ≡ false → (list_any is_open xs ≡ false → filter is_open xs ≡ []) → cond b (x ∷ filter is_open xs) (filter is_open xs) ≡ []
  by true e later = absurd (true≢false e)
  by false e later = later e

-- nobody is released
pub some_open : (waiters : List Waiter) (xs : List Context) → list_any is_open xs ≡ true → releases (Stopping waiters) (filter is_open xs) ≡ []
some_open waiters [] e = absurd (true≢false (sym e))
some_open waiters (x ∷ xs) e = by (is_open x) e (some_open waiters xs) where
  by : (b : Bool) → (b || list_any is_open xs) ≡ true → (list_any is_open xs ≡ true → releases (Stopping waiters) (filter is_open xs) ≡ []) → releases (Stopping waiters) (cond b (x ∷ filter is_open xs) (filter is_open xs)) ≡ []
  by true e later = refl
  by false e later = later e
