-- Rounds, one delivery after another.
use Rattle.std.proofs.Common.{◌≡◌, ℕ, suc, ◌+◌, ◌-◌, ◌≤◌, Bool, true, false, cond, nat_lt, ◌&&◌, take, List, [], ◌∷◌, length, map, Option, Some, None, inl, inr, refl, sym, ap, ◌∙◌, subst, arith}
use Rattle.std.specs.Prelude.{slice_get, is_some, not, option_map}
use Rattle.std.specs.List.{position, position_or_len}
use Rattle.std.specs.Map.{keys_of, lookup}
use Rattle.std.proofs.lemmas.Bool.{cases_Bool, ltb-false}
use Rattle.std.proofs.lemmas.List.Sums.{prefix_len-le-length}
use Rattle.std.proofs.lemmas.Map.Made.{keys_of-map_values, lookup-map_values}
use Rattle.std.proofs.lemmas.Option.{slice_get_past}
use Rattle.ic_base.proofs.Steps.{some_is}
use Rattle.ic_behaviour.specs.Counted.{dropped}
use Rattle.ic_state.specs.declared.canister.Canister.{Canister as StoredCanister}
use Rattle.ic_state.specs.Seen.{entry_of, seen}
use Rattle.ic_behaviour.specs.declared.call.Message.{Message}
use Rattle.ic_behaviour.specs.State.{State, at}
use Rattle.ic_behaviour.specs.Deliver.{deliver}
use Rattle.ic_behaviour.specs.Steps.{Rules, step, along}
use Rattle.ic_behaviour.specs.Round.{busy, turns, first_for, first_phase, goes, sweep, second_phase, round}
use Rattle.ic_queue_rounds.proofs.Roundings.{round_is}
use Rattle.ic_schedule.specs.Picks.{goes_first}
use Rattle.ct_run.specs.Inside.{is_inside}

-- ---- what is looked for

-- the first place at which a test passes, or else the end
pub first_is : {X : Type 0} (p : X → Bool) (xs : List X) (place : ℕ) → position p xs ≡ Some place → place ≡ position_or_len p xs
first_is p xs place is = by (nat_lt (position_or_len p xs) (length xs)) is where
  by : (b : Bool) → cond b (Some (position_or_len p xs)) None ≡ Some place → place ≡ position_or_len p xs
  by true e = sym (some_is (position_or_len p xs) place e)
  by false e = absurd (let bad : None ≡ Some place = e in cc)

pub first_end : {X : Type 0} (p : X → Bool) (xs : List X) → position p xs ≡ None → length xs ≡ position_or_len p xs
first_end p xs is = by (nat_lt (position_or_len p xs) (length xs)) refl is where
  by : (b : Bool) → nat_lt (position_or_len p xs) (length xs) ≡ b → cond b (Some (position_or_len p xs)) None ≡ None → length xs ≡ position_or_len p xs
  by true e none = absurd (let bad : Some (position_or_len p xs) ≡ None = none in cc)
  by false e none = omega (arith, ltb-false _ _ e, prefix_len-le-length (λ x. not (p x)) xs)

some_map : {X Y : Type 0} (g : X → Y) (o : Option X) → is_some (option_map g o) ≡ is_some o
some_map g None = refl
some_map g (Some x) = refl

pub ids_are : (canisters : List (List ℕ × StoredCanister)) → keys_of canisters ≡ keys_of (map entry_of canisters)
ids_are canisters = sym (keys_of-map_values (λ (c : StoredCanister). dropped (seen c)) canisters)

-- a canister of this id is there, as contracts see it, where one is stored
pub there_is : (id : List ℕ) (canisters : List (List ℕ × StoredCanister)) → is_some (lookup (at id) canisters) ≡ is_some (lookup (at id) (map entry_of canisters))
there_is id canisters = sym (ap (λ o. is_some o) (lookup-map_values (λ (c : StoredCanister). dropped (seen c)) (at id) canisters) ∙ some_map (λ (c : StoredCanister). dropped (seen c)) (lookup (at id) canisters))

pub goes_is : (s : State) (place : ℕ) (m : Option Message) → goes s place m ≡ (not (is_inside s m) && goes_first (take place s.messages) m)
goes_is s place None = refl
goes_is s place (Some m) = refl

-- ---- one delivery after another

module _ (rules : Rules) where
  -- where there is no message the state stays
  pub no_step : (s : State) (place : ℕ) → length s.messages ≤ place → s ≡ step rules s place
  unfolding deliver
  no_step s place none = let gone = slice_get_past s.messages place none in rw gone refl

  -- the turns of these canisters are left
  abbrev pub Turns : (end now : State) → (ids : List (List ℕ)) → Type 0
  Turns end now ids = end ≡ along rules now (turns rules now ids)

  pub turn_more : (end now next : State) (left ids : List (List ℕ)) (id : List ℕ) → left ≡ id ∷ ids → next ≡ step rules now (first_for id now.messages)
      → Turns end now left → Turns end next ids
  turn_more end now next left ids id split is so_far =
      subst (λ (t : State). Turns end t ids) (sym is) (subst (λ (l : List (List ℕ)). Turns end now l) split so_far)

  pub turns_end : (end now : State) (left : List (List ℕ)) → left ≡ [] → Turns end now left → now ≡ end
  turns_end end now left none so_far = sym (subst (λ (l : List (List ℕ)). Turns end now l) none so_far)

  -- as many messages are left to be gone through, from this place on
  abbrev pub Sweep : (end now : State) → (count place : ℕ) → Type 0
  Sweep end now count place = end ≡ along rules now (sweep rules count place now)

  -- one more is gone through
  pub sweep_next : (end now next : State) (left count place after : ℕ) → left ≡ suc count
      → (goes now place (slice_get now.messages place) ≡ true → (next ≡ step rules now place) × (after ≡ place))
      → (goes now place (slice_get now.messages place) ≡ false → (next ≡ now) × (after ≡ place + 1))
      → Sweep end now left place → Sweep end next count after × (after ≤ place + 1)
  unfolding sweep
  sweep_next end now next left count place after one goes_on stays so_far =
      elim (cases_Bool (goes now place (slice_get now.messages place))) [
        | inl go ↦
            let (is, same) = goes_on go in
            let here : Sweep end (step rules now place) count place = rw go at whole in
            (subst (λ (p : ℕ). Sweep end next count p) (sym same) (subst (λ (t : State). Sweep end t count place) (sym is) here), omega (arith, same))
        | inr stay ↦
            let (is, past) = stays stay in
            let here : Sweep end now count (place + 1) = rw stay at whole in
            (subst (λ (p : ℕ). Sweep end next count p) (sym past) (subst (λ (t : State). Sweep end t count (place + 1)) (sym is) here), omega (arith, past))
      ]
    where
      whole : Sweep end now (suc count) place
      whole = subst (λ (n : ℕ). Sweep end now n place) one so_far

  pub sweep_end : (end now : State) (left place : ℕ) → left ≡ 0 → Sweep end now left place → now ≡ end
  unfolding sweep
  sweep_end end now left place none so_far = sym (subst (λ (n : ℕ). Sweep end now n place) none so_far)

  -- a round is the turns of those that have a message, and then a sweep
  pub phases : (s mid end : State) (ids : List (List ℕ)) (count : ℕ) → ids ≡ busy s → mid ≡ along rules s (turns rules s ids)
      → count ≡ length mid.messages → end ≡ along rules mid (sweep rules count 0 mid) → end ≡ along rules s (round rules s)
  unfolding first_phase second_phase
  phases s mid end ids count are turned many swept =
      round_is rules s mid end (turned ∙ ap (λ (l : List (List ℕ)). along rules s (turns rules s l)) are)
      (swept ∙ ap (λ (n : ℕ). along rules mid (sweep rules n 0 mid)) many)
