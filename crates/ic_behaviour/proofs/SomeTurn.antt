-- A round handles a message where one is under way.
use Rattle.std.proofs.Common.{◌≡◌, ℕ, suc, Bool, true, false, ◌&&◌, List, [], ◌∷◌, ◌++◌, length, refl, sym, ap, ◌∙◌, subst}
use Rattle.std.specs.Prelude.{slice_get, not, is_some}
use Rattle.std.specs.List.{list_any}
use Rattle.std.specs.Map.{lookup, keys_of}
use Rattle.std.proofs.lemmas.Bool.{or_left}
use Rattle.std.proofs.lemmas.Map.Made.{is_some-lookup, is_member-filter}
use Rattle.ic_behaviour.specs.declared.call.Message.{Message}
use Rattle.ic_behaviour.specs.State.{at, callee_of, State}
use Rattle.ic_behaviour.proofs.Weights.{laws, at-is, at-self}
use Rattle.ic_behaviour.specs.Steps.{Rules, step, along}
use Rattle.ic_behaviour.specs.Round.{has_message, busy, turns, first_phase, goes, sweep, second_phase, round}

-- where no canister has a message, the first message is to none
first_outside : (s : State) (m : Message) (ms : List Message) → s.messages ≡ m ∷ ms → busy s ≡ [] → is_some (lookup (at (callee_of m)) s.canisters) ≡ false
first_outside s m ms is none =
    let has : has_message s.messages (callee_of m) ≡ true = ap (λ l. has_message l (callee_of m)) is ∙ or_left _ _ (at-self (callee_of m)) in
    let member = is_member-filter laws (has_message s.messages) (callee_of m) (λ x e. ap (has_message s.messages) (at-is (callee_of m) x e)) (keys_of s.canisters) in
    let known : (list_any (at (callee_of m)) (keys_of s.canisters) && has_message s.messages (callee_of m)) ≡ false = sym member ∙ ap (list_any (at (callee_of m))) none in
    is_some-lookup (at (callee_of m)) s.canisters ∙ and_fails (list_any (at (callee_of m)) (keys_of s.canisters)) (has_message s.messages (callee_of m)) has known
  where
    and_fails : (a b : Bool) → b ≡ true → (a && b) ≡ false → a ≡ false
    and_fails true b is fails = sym is ∙ fails
    and_fails false b is fails = refl

pub round_some : (rules : Rules) (s : State) (m : Message) (ms : List Message) → s.messages ≡ m ∷ ms → round rules s ≡ [] → ⊥
unfolding round first_phase second_phase sweep
round_some rules s m ms is none = by (busy s) refl none where
  by : (keys : List (List ℕ)) → busy s ≡ keys
      → turns rules s keys ++ sweep rules (length (along rules s (turns rules s keys)).messages) 0 (along rules s (turns rules s keys)) ≡ [] → ⊥
  by (key ∷ keys) e none = cc
  by [] e none =
      let P = λ (n : ℕ). sweep rules n 0 s ≡ [] in
      let some : P (suc (length ms)) = subst P (ap length is) none in
      let go : goes s 0 (slice_get s.messages 0) ≡ true = ap (λ l. goes s 0 (slice_get l 0)) is ∙ ap (λ b. not b && true) (first_outside s m ms is e) in
      let bad : 0 ∷ sweep rules (length ms) 0 (step rules s 0) ≡ [] = rw go at some in
      cc
