-- A second phase that walks from one message to no canister to the next.
use Rattle.std.proofs.Common.{◌≡◌, ℕ, ◌+◌, true, false, ◌||◌, List, [], ◌∷◌, ◌++◌, Option, Some, None, refl, sym, ap, ◌∙◌, subst, append_assoc, append-nil}
use Rattle.std.specs.Prelude.{is_some}
use Rattle.std.specs.List.{list_any, list_all}
use Rattle.std.specs.Map.{lookup, keys_of}
use Rattle.std.proofs.lemmas.Bool.{and_parts, or_parts}
use Rattle.std.proofs.lemmas.Map.Made.{is_some-lookup}
use Rattle.ic_behaviour.specs.declared.call.Message.{Message}
use Rattle.ic_behaviour.specs.State.{at, callee_of, Canister, State}
use Rattle.ic_behaviour.specs.Steps.{same_way, along}
use Rattle.ic_behaviour.specs.Round.{second_phase}
use Rattle.ic_state.specs.declared.world.Parts.{Parts}
use Rattle.ic_state.specs.Seen.{state_of}
use Rattle.ic_mgmt_laws.specs.Managed.{managed_rules}
use Rattle.ic_mgmt.specs.Sweeping.{among, stays, Delivers, Reaches}
use Rattle.ic_mgmt.proofs.Sweeps.{seen_there, is_at_place, reaches_start, reaches_kept, reaches_gone, reaches_end}
use Rattle.ic_queues.specs.Queued.{Queued, Walked, is_steady, is_inside, AllStay, GoesPast, Takes}
use Rattle.ic_queue_rounds.specs.InQueues.{with_messages, IsInQueues}
use Rattle.ic_queue_rounds.specs.Passing.{Passing, Facing}
use Rattle.ic_queue_rounds.proofs.Steady.{steady_step}
use Rattle.ic_queue_rounds.proofs.Fronts.{ids_seen}

module _ (limit : ℕ) (start p : Parts) (keys : List (List ℕ)) (same : keys_of p.canisters.entries ≡ keys) where
  known : (m : Message) → is_some (lookup (at (callee_of m)) p.canisters.entries) ≡ is_inside keys m
  known m = is_some-lookup (at (callee_of m)) p.canisters.entries ∙ ap (list_any (at (callee_of m))) same

  stays_is : (kept : List Message) (m : Message) → stays kept p m ≡ (is_inside keys m || list_any (same_way m) kept)
  stays_is kept m = ap (λ b. b || list_any (same_way m) kept) (known m)

  -- those that stay are gone past
  past : (front kept todo : List Message) (n : ℕ) → AllStay keys kept front → Reaches limit start kept (front ++ todo) p n → Reaches limit start (kept ++ front) todo p n
  past [] kept todo n stay so_far = subst (λ (l : List Message). Reaches limit start l todo p n) (sym (append-nil kept)) so_far
  past (m ∷ front) kept todo n stay so_far =
      let next = reaches_kept kept m (front ++ todo) p limit start n (stays_is kept m ∙ stay.0) so_far in
      subst (λ (l : List Message). Reaches limit start l todo p n) (append_assoc kept (m ∷ []) front) (past front (kept ++ m ∷ []) todo n stay.1 next)

  all_stay : (kept todo : List Message) → list_all (is_inside keys) todo ≡ true → AllStay keys kept todo
  all_stay kept [] all = tt
  all_stay kept (m ∷ todo) all =
      let parts = and_parts (is_inside keys m) (list_all (is_inside keys) todo) all in
      (ap (λ b. b || list_any (same_way m) kept) parts.0, all_stay (kept ++ m ∷ []) todo parts.1)

gone_past : (limit : ℕ) (start p : Parts) (w v : Walked) (n : ℕ) → keys_of p.canisters.entries ≡ w.canisters → GoesPast w v → Reaches limit start w.kept w.todo p n → Reaches limit start v.kept v.todo p n
gone_past limit start p w v n same went so_far =
    subst (λ (l : List Message). Reaches limit start l v.todo p n) (sym went.kept)
    (past limit start p w.canisters same went.front w.kept v.todo n went.stay (subst (λ (l : List Message). Reaches limit start w.kept l p n) went.todo so_far))

pub passes-on : (limit : ℕ) (start p : Parts) (w v : Walked) → GoesPast w v → Passing limit start w p → Passing limit start v p
passes-on limit start p w v went passing = record {
  count = passing.count;
  reaches = gone_past limit start p w v passing.count passing.canisters went passing.reaches;
  canisters = passing.canisters ∙ sym went.canisters;
}

pub faces : (limit : ℕ) (start p : Parts) (w v : Walked) (m : Message) → Takes w m v → Passing limit start w p → Facing limit start v m p
faces limit start p w v m takes passing = record {
  count = passing.count;
  reaches = gone_past limit start p w (record v { todo = m ∷ v.todo }) passing.count passing.canisters takes.past passing.reaches;
  canisters = passing.canisters ∙ sym takes.past.canisters;
  goes = stays_is limit start p w.canisters passing.canisters v.kept m ∙ takes.goes;
}

-- ---- one is delivered

absent : (limit : ℕ) (start p : Parts) (w : Walked) (m : Message) → Facing limit start w m p → is_some (lookup (at (callee_of m)) p.canisters.entries) ≡ false
absent limit start p w m facing = (or_parts _ _ facing.goes).0

pub went_on : (limit : ℕ) (start p q : Parts) (w v : Walked) (m : Message) → (f : Facing limit start w m p) → Delivers limit w.kept m w.todo p q → v.kept ≡ w.kept → v.todo ≡ w.todo
    → keys_of q.canisters.entries ≡ v.canisters → Passing limit start v q
went_on limit start p q w v m f done is_kept is_todo keys =
    let reaches = reaches_gone w.kept m w.todo p limit start q f.count f.goes done f.reaches in
    record {
      count = f.count + 1;
      reaches = subst (λ (l : List Message). Reaches limit start l v.todo q (f.count + 1)) (sym is_kept) (subst (λ (l : List Message). Reaches limit start w.kept l q (f.count + 1)) (sym is_todo) reaches);
      canisters = keys;
    }

-- a steady one leaves the ids of the canisters
pub same_ids : (limit : ℕ) (start p q : Parts) (w : Walked) (m : Message) → (f : Facing limit start w m p) → Delivers limit w.kept m w.todo p q → is_steady m ≡ true → keys_of q.canisters.entries ≡ w.canisters
same_ids limit start p q w m f done steady =
    let s = state_of (among w.kept (m ∷ w.todo) p) in
    let none : lookup (at (callee_of m)) s.canisters ≡ None = no_canister (lookup (at (callee_of m)) s.canisters) (seen_there (callee_of m) p.canisters.entries ∙ absent limit start p w m f) in
    sym (ids_seen (among w.kept w.todo q)) ∙ ap (λ (t : State). keys_of t.canisters) (done.state 0)
    ∙ steady_step limit 0 s _ m (is_at_place w.kept m w.todo p) none steady ∙ ids_seen (among w.kept (m ∷ w.todo) p) ∙ f.canisters
  where
    no_canister : (o : Option Canister) → is_some o ≡ false → o ≡ None
    no_canister None is = refl
    no_canister (Some a) is = cc

-- ---- the first, and the last

pub begins : (limit : ℕ) (rest : Parts) (queues : Queued) (walk : Walked) → IsInQueues rest queues → walk ≡ record { canisters = queues.canisters; kept = []; todo = queues.messages }
    → Passing limit (with_messages rest queues.messages) walk rest
begins limit rest queues walk is is_walk =
    let whole : Parts = with_messages rest queues.messages in
    let none : with_messages whole [] ≡ rest = ap (λ l. with_messages rest l) (sym is.none) in
    subst (λ (w : Walked). Passing limit whole w rest) (sym is_walk) (record {
      count = 0;
      reaches = subst (λ (q : Parts). Reaches limit whole [] queues.messages q 0) none (reaches_start limit whole is.keeps);
      canisters = sym is.canisters;
    })

pub phase_ends : (limit price : ℕ) (start p : Parts) (w : Walked) → Passing limit start w p → list_all (is_inside w.canisters) w.todo ≡ true
    → state_of (among w.kept w.todo p) ≡ along (managed_rules limit price) (state_of start) (second_phase (managed_rules limit price) (state_of start))
phase_ends limit price start p w passing over =
    let all = past limit start p w.canisters passing.canisters w.todo w.kept [] passing.count (all_stay limit start p w.canisters passing.canisters w.kept w.todo over)
    (subst (λ (l : List Message). Reaches limit start w.kept l p passing.count) (sym (append-nil w.todo)) passing.reaches) in
    ap (λ l. state_of (record p { messages = l })) (sym (append_assoc w.kept w.todo p.messages)) ∙ (reaches_end limit price start (w.kept ++ w.todo) p passing.count all).0
