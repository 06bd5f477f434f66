-- Nothing is left to be done. No standard has this.
use Rattle.std.specs.Prelude.{◌≡◌, ℕ, List, []}
use Rattle.std.specs.List.{AllByRecursion}
use Rattle.std.specs.Option.{IsSome}
use Rattle.ic_behaviour.specs.declared.request.Request.{Request}
use Rattle.ic_behaviour.specs.State.{Canister, State}

-- no call context is left, and every request is answered
pub record AllDone (s : State) : Type 0 where
  pub contexts : AllByRecursion (λ (e : List ℕ × Canister). e.1.contexts ≡ []) s.canisters
  pub requests : AllByRecursion (λ (r : Request). IsSome r.answer) s.requests
