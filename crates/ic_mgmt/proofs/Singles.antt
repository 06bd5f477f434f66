-- One call to the management canister is taken out of a world.
use Rattle.std.proofs.Common.{◌≡◌, ℕ, suc, ◌+◌, true, false, List, [], ◌∷◌, ◌++◌, take, drop, get_or, slice_get, Option, Some, None, refl, sym, ap, ap₂, ◌∙◌, subst, arith, append_assoc, append-nil}
use Rattle.std.specs.Prelude.{is_some, MatchOption}
use Rattle.std.specs.List.{AllByRecursion, remove}
use Rattle.std.specs.Map.{lookup}
use Rattle.std.specs.Int.{to_be_bytes, w64}
use Rattle.std.proofs.lemmas.List.{take-append-drop, drop_more, length-take-le}
use Rattle.std.proofs.lemmas.Option.{slice_get_within, get_or_from_slice_get}
use Rattle.ic_principal.specs.CanisterId.{canister_id_of}
use Rattle.ic_behaviour.specs.declared.call.Message.{Message}
use Rattle.ic_behaviour.specs.declared.call.Message.TheVariants.{Call, Answer}
use Rattle.ic_behaviour.specs.State.{at, callee_of, Canister, State}
use Rattle.ic_behaviour.specs.Sound.{IsNamed}
use Rattle.ic_behaviour.proofs.Weights.{at-is}
use Rattle.ic_state.specs.declared.world.Parts.{Parts}
use Rattle.ic_state.specs.Seen.{state_of}
use Rattle.ic_state.specs.IsWorld.{IsWorld}
use Rattle.ic_behaviour.specs.Steps.{step}
use Rattle.ic_mgmt_laws.specs.Managed.{managed_rules}
use Rattle.ic_mgmt.specs.Sweeping.{among, Delivers}
use Rattle.ic_mgmt.specs.ToManagement.{IsToManagement}
use Rattle.ic_mgmt.proofs.Sweeps.{seen_there}

-- ---- no canister has the id of the management canister

no_bytes : (front : List ℕ) (b : ℕ) (back : List ℕ) → at [] (front ++ b ∷ back) ≡ false
no_bytes [] b back = refl
no_bytes (a ∷ front) b back = refl

not_named : (next : ℕ) (key : List ℕ) → IsNamed next key → at [] key ≡ false
unfolding canister_id_of
not_named next key is = ap (at []) is.3 ∙ no_bytes (to_be_bytes w64 is.0) 1 (1 ∷ [])

none_named : (next : ℕ) (es : List (List ℕ × Canister)) → AllByRecursion (λ (e : List ℕ × Canister). IsNamed next e.0) es → is_some (lookup (at []) es) ≡ false
none_named next [] all = refl
none_named next (e ∷ es) all = rw (not_named next e.0 all.0) (none_named next es all.1)

pub management_absent : (p : Parts) → IsWorld p → is_some (lookup (at []) p.canisters.entries) ≡ false
management_absent p is = sym (seen_there [] p.canisters.entries) ∙ none_named p.next_canister (state_of p).canisters is.sound.names.named

-- ---- around a place of a list

around : {X : Type 0} (xs : List X) (place : ℕ) (x : X) → slice_get xs place ≡ Some x → xs ≡ take place xs ++ x ∷ drop (suc place) xs
around xs place x is =
    let next : place + 1 ≡ suc place = omega arith in
    sym (take-append-drop place xs)
    ∙ ap (λ l. take place xs ++ l) (drop_more xs place x (slice_get_within xs place x is) ∙ ap₂ (λ y n. y ∷ drop n xs) (get_or_from_slice_get xs place x x is) next)

module _ (limit : ℕ) (p : Parts) (place : ℕ) (m : Message) (is_m : slice_get p.messages place ≡ Some m) where
  abbrev front : List Message
  front = take place p.messages

  abbrev back : List Message
  back = drop (suc place) p.messages

  abbrev rest : Parts
  rest = record p { messages = [] }

  whole : among front (m ∷ back) rest ≡ p
  whole = ap (λ (l : List Message). record p { messages = front ++ (m ∷ l) }) (append-nil back) ∙ ap (λ (l : List Message). record p { messages = l }) (sym (around p.messages place m is_m))

  pub single_met : IsWorld p → IsWorld (among front (m ∷ back) rest)
  single_met is = subst IsWorld (sym whole) is

  together : (q : Parts) → among front back q ≡ among (remove p.messages place) [] q
  together q = ap (λ (l : List Message). record q { messages = l }) (sym (append_assoc front back q.messages))

  pub single_keeps : (q : Parts) → Delivers limit front m back rest q → IsWorld (among (remove p.messages place) [] q)
  single_keeps q done = subst IsWorld (together q) done.keeps

  pub single_state : (price : ℕ) (q : Parts) → Delivers limit front m back rest q → state_of (among (remove p.messages place) [] q) ≡ step (managed_rules limit price) (state_of p) place
  single_state price q done =
      ap state_of (sym (together q)) ∙ done.state price
      ∙ ap₂ (λ (o : Parts) n. step (managed_rules limit price) (state_of o) n) whole (length-take-le place p.messages (omega (arith, slice_get_within p.messages place m is_m)))

-- ---- as the code has it

to_it : (m : Message) → IsToManagement m → at [] (callee_of m) ≡ true
to_it (Call from sender callee method arg cycles) is = is
to_it (Answer from sender response refund) is = absurd is

-- the message that was taken out
pub record Single (p : Parts) (place : ℕ) (m : Message) : Type 0 where
  pub is_m : slice_get p.messages place ≡ Some m
  pub calls : IsToManagement m

pub single : (p : Parts) (w : State) (place : ℕ) (m : Message) (items : List Message) → state_of p ≡ w → items ≡ p.messages
    → MatchOption (slice_get w.messages place) ⊥ IsToManagement → m ≡ get_or items place m → Single p place m
single p w place m items is_w same call value =
    by (slice_get p.messages place) refl (subst (λ (s : State). MatchOption (slice_get s.messages place) ⊥ IsToManagement) (sym is_w) call) where
      value_there : m ≡ get_or p.messages place m
      value_there = value ∙ ap (λ l. get_or l place m) same

      by : (o : Option Message) → slice_get p.messages place ≡ o → MatchOption o ⊥ IsToManagement → Single p place m
      by None is calls = absurd calls
      by (Some x) is calls =
          let same_m : x ≡ m = sym (value_there ∙ get_or_from_slice_get p.messages place x m is) in
          record { is_m = is ∙ ap Some same_m; calls = subst IsToManagement same_m calls }

pub single_absent : (p : Parts) (place : ℕ) (m : Message) → IsWorld p → Single p place m → is_some (lookup (at (callee_of m)) p.canisters.entries) ≡ false
single_absent p place m is it = ap (λ key. is_some (lookup (at key) p.canisters.entries)) (sym (at-is [] (callee_of m) (to_it m it.calls))) ∙ management_absent p is
