-- In a sound state nothing is to be closed: each context awaits a call, and a stopping canister has a context.
use Rattle.std.proofs.Common.{◌≡◌, ℕ, ◌<◌, ◌≤◌, true, ◌&&◌, List, [], ◌∷◌, ◌++◌, map, Some, None, refl, ap, ap₂, ◌∙◌, arith, append-nil, not-suc-le-zero, filter}
use Rattle.std.specs.List.{AllByRecursion, flat_map}
use Rattle.std.specs.Map.{lookup}
use Rattle.std.proofs.lemmas.Bool.{lt-ltb}
use Rattle.std.proofs.lemmas.Map.Steps.{set_value_same}
use Rattle.ic_behaviour.specs.declared.call.Answered.{Answered}
use Rattle.ic_behaviour.specs.declared.call.CallId.{CallId}
use Rattle.ic_behaviour.specs.declared.context.Context.{Context}
use Rattle.ic_behaviour.specs.declared.phase.Phase.{Phase}
use Rattle.ic_behaviour.specs.declared.phase.Phase.TheVariants.{Running, Stopping, Stopped}
use Rattle.ic_behaviour.specs.Totals.{total, one}
use Rattle.ic_behaviour.specs.State.{at, same_id, waiting, CallContext, Canister, State}
use Rattle.ic_behaviour.specs.Items.{InContext, InWaiter, items_at, item_of, is_context, outstanding}
use Rattle.ic_behaviour.specs.Sound.{IsInPhase}
use Rattle.ic_behaviour.specs.Tallied.{Tallied}
use Rattle.ic_behaviour.specs.Counted.{bare, with_count, counted, dropped}
use Rattle.ic_behaviour.specs.Closing.{is_open, rejected, phase_after, releases, closed, closing}
use Rattle.ic_behaviour.proofs.Weights.{at-self, each-within, same_id-self, total-append, total-map}
use Rattle.ic_mgmt_laws.specs.Moves.{all_answered, with_canister, shut}
use Rattle.ic_mgmt_laws.proofs.Changed.{found_entry, found_items}

all_kept : (xs : List Context) → AllByRecursion (λ x. is_open x ≡ true) xs → filter is_open xs ≡ xs
all_kept [] all = refl
all_kept (x ∷ xs) all = rw (all.0) (ap (λ ys. x ∷ ys) (all_kept xs all.1))

none_rejected : (xs : List Context) → AllByRecursion (λ x. is_open x ≡ true) xs → flat_map (rejected None) xs ≡ []
none_rejected [] all = refl
none_rejected (x ∷ xs) all = rw (all.0) (none_rejected xs all.1)

pub bare_stored : (s : State) (key : List ℕ) (xs : List CallContext) → map bare (map (with_count s key) xs) ≡ xs
bare_stored s key [] = refl
bare_stored s key (x ∷ xs) = ap (λ ys. x ∷ ys) (bare_stored s key xs)

all_mapped : (P : Context → Type 0) (f : CallContext → Context) (xs : List CallContext) → AllByRecursion (λ x. P (f x)) xs → AllByRecursion P (map f xs)
all_mapped P f [] all = tt
all_mapped P f (x ∷ xs) all = (all.0, all_mapped P f xs all.1)

phase_stays : (s : State) (key : List ℕ) (phase : Phase) (xs : List CallContext) → IsInPhase phase xs
    → (phase_after phase (map (with_count s key) xs) ≡ phase) × (releases phase (map (with_count s key) xs) ≡ [])
phase_stays s key Running xs is = (refl, refl)
phase_stays s key (Stopping waiters) [] is = absurd (not-suc-le-zero is)
phase_stays s key (Stopping waiters) (x ∷ xs) is = (refl, refl)
phase_stays s key Stopped xs is = (refl, refl)

module _ (s : State) (sound : Tallied s) (id : List ℕ) (c : Canister) (found : lookup (at id) s.canisters ≡ Some c) (now : State) (counts : (key : List ℕ) (i : CallId) → outstanding now key i ≡ outstanding s key i) where
  abbrev stored : List Context
  stored = map (with_count now id) c.contexts

  awaits : (x : CallContext) → ((w : CallContext → ℕ) → w x ≤ total w c.contexts) → is_open (with_count now id x) ≡ true
  awaits x one_of = lt-ltb 0 (outstanding now id x.id) (omega (arith, awaited_here, counts id x.id)) where
    here : (at id id && same_id x.id x.id) ≡ true
    here = rw (at-self id, same_id-self x.id) refl

    awaited_here : 0 < outstanding s id x.id
    awaited_here = sound.awaits id x.id (omega (
      arith,
      one_of (λ y. is_context id x.id (InContext id y)),
      ap (λ b. one b) here,
      total-map (InContext id) (is_context id x.id) c.contexts,
      total-append (is_context id x.id) (map (InContext id) c.contexts) (map (InWaiter id) (waiting c.phase)),
      found_items s id c found (is_context id x.id),
      total-append (is_context id x.id) (map item_of s.messages) (flat_map items_at s.canisters),
    ))

  all_open : AllByRecursion (λ x. is_open x ≡ true) stored
  all_open = all_mapped (λ x. is_open x ≡ true) (with_count now id) c.contexts (each-within (λ x. is_open (with_count now id x) ≡ true) c.contexts awaits)

  in_phase : (phase_after c.phase stored ≡ c.phase) × (releases c.phase stored ≡ [])
  in_phase = phase_stays now id c.phase c.contexts (found_entry s id c found sound).in_phase

  same_canister : dropped (closed (counted now id c)) ≡ c
  same_canister = ap (λ l. record c { contexts = map bare l; phase = phase_after c.phase l }) (all_kept stored all_open)
      ∙ ap₂ (λ l p. record c { contexts = l; phase = p }) (bare_stored now id c.contexts) in_phase.0

  no_answers : closing None (counted now id c) ≡ []
  no_answers = ap₂ (λ (xs ys : List Answered). xs ++ ys) (none_rejected stored all_open) (ap (releases c.phase) (all_kept stored all_open) ∙ in_phase.1)

  pub nothing_shut : shut now id c s ≡ s
  nothing_shut = ap₂ (λ answers b. all_answered id answers (with_canister id b s)) no_answers same_canister
      ∙ ap₂ (λ es ms. record s { canisters = es; messages = ms }) (set_value_same (at id) s.canisters c found) (append-nil s.messages)
