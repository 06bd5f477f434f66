-- A message at a place of the list is delivered from the queues.
use Rattle.std.proofs.Common.{◌≡◌, ℕ, ◌≤◌, zero, suc, true, List, [], ◌∷◌, ◌++◌, length, take, drop, Option, Some, None, refl, sym, ap, ap₂, ◌∙◌, subst, arith, append_assoc, append-nil}
use Rattle.std.specs.Prelude.{slice_get, is_some}
use Rattle.std.specs.List.{flat_map}
use Rattle.std.specs.Map.{lookup}
use Rattle.ic_behaviour.specs.declared.call.Message.{Message}
use Rattle.ic_behaviour.specs.declared.env.Env.{Env}
use Rattle.ic_behaviour.specs.State.{at, callee_of}
use Rattle.ic_behaviour.specs.Deliver.{env_at, routed}
use Rattle.ic_behaviour.specs.Steps.{step}
use Rattle.ic_behaviour.proofs.Lists.{remove_at}
use Rattle.ic_state.specs.declared.canister.Canister.{Canister}
use Rattle.ic_state.specs.declared.world.Parts.{Parts}
use Rattle.ic_state.specs.Seen.{state_of}
use Rattle.ic_state.specs.IsWorld.{IsWorld}
use Rattle.ic_deliver.specs.Giving.{CanTake}
use Rattle.ic_deliver.specs.Delivered.{HasHandled, with_sent}
use Rattle.ic_mgmt_laws.specs.Managed.{managed_rules}
use Rattle.ic_mgmt.specs.Sweeping.{among}
use Rattle.ic_mgmt.proofs.Handles.{managing}
use Rattle.ic_mgmt.proofs.Sweeps.{is_at_place}
use Rattle.ic_schedule.specs.Handing.{left_by}
use Rattle.ic_schedule.proofs.Handings.{takes, by_canister}
use Rattle.ic_queues.specs.Queued.{Queued, without_at}
use Rattle.ic_queue_rounds.specs.InQueues.{with_messages, IsInQueues}
use Rattle.ic_queue_rounds.specs.Picking.{DeliversAt}

-- ---- a canister handles the message, and the others are elsewhere

module _ (limit price : ℕ) (kept : List Message) (m : Message) (todo : List Message) (p : Parts) (is : IsWorld (among kept (m ∷ todo) p)) where
  abbrev whole : Parts
  whole = among kept (m ∷ todo) p

  is_m : slice_get whole.messages (length kept) ≡ Some m
  is_m = is_at_place kept m todo p

  pub takes_in : (c : Canister) → lookup (at (callee_of m)) p.canisters.entries ≡ Some c → CanTake (env_at p.time limit price) p.burned c m
  takes_in c found = takes limit price whole is (length kept) m is_m c found

  -- what comes last there comes last here
  last : (calls answers : List Message) → kept ++ (todo ++ (p.messages ++ calls ++ answers)) ≡ (left_by whole (length kept)).messages ++ calls ++ answers
  last calls answers =
      sym (
      ap (λ l. (l ++ calls) ++ answers) (remove_at kept m (todo ++ p.messages))
      ∙ ap (λ l. l ++ answers) (append_assoc kept (todo ++ p.messages) calls)
      ∙ append_assoc kept ((todo ++ p.messages) ++ calls) answers
      ∙ ap (λ l. kept ++ (l ++ answers)) (append_assoc todo p.messages calls)
      ∙ ap (λ l. kept ++ l) (append_assoc todo (p.messages ++ calls) answers))

  handled_there : (env : Env) (key : List ℕ) (c : Canister) (q : Parts) → HasHandled env key c m p q → HasHandled env key c m (left_by whole (length kept)) (among kept todo q)
  handled_there env key c q went = record {
    after = went.after;
    done = went.done;
    handled = went.handled;
    keeps = went.keeps;
    entries = went.entries;
    sent = ap (λ (z : Parts). among kept todo z) went.sent
        ∙ ap (λ l. record (with_sent key went.done (record p { canisters = q.canisters })) { messages = l }) (last went.done.calls (flat_map (routed key) went.done.answers));
  }

  pub delivered_by : (env : Env) (key : List ℕ) (q : Parts) → env ≡ env_at p.time limit price → key ≡ callee_of m → is_some (lookup (at key) p.canisters.entries) ≡ true
      → ((c : Canister) → lookup (at key) p.canisters.entries ≡ Some c → HasHandled env key c m p q) → DeliversAt limit price kept m todo p q
  delivered_by env key q is_env is_key there went = by (lookup (at (callee_of m)) p.canisters.entries) refl (ap (λ k. is_some (lookup (at k) p.canisters.entries)) (sym is_key) ∙ there) where
    by : (o : Option Canister) → lookup (at (callee_of m)) p.canisters.entries ≡ o → is_some o ≡ true → DeliversAt limit price kept m todo p q
    by None none some = cc
    by (Some c) found some =
        let here = went c (ap (λ k. lookup (at k) p.canisters.entries) is_key ∙ found) in
        let at_callee = subst (λ k. HasHandled env k c m p q) is_key here in
        let handled = subst (λ (e : Env). HasHandled e (callee_of m) c m p q) is_env at_callee in
        let done = by_canister limit price whole is (length kept) m is_m c found (among kept todo q) (handled_there (env_at p.time limit price) (callee_of m) c q handled) in
        record { keeps = done.keeps; state = done.state managing }

-- ---- from the queues, and back into them

split_at : (xs : List Message) (place : ℕ) (m : Message) → slice_get xs place ≡ Some m → take place xs ++ m ∷ drop (suc place) xs ≡ xs
split_at [] place m is = cc
split_at (x ∷ xs) zero m is = ap (λ y. y ∷ xs) (let same : m ≡ x = cc in same)
split_at (x ∷ xs) (suc place) m is = ap (λ l. x ∷ l) (split_at xs place m is)

many_before : (xs : List Message) (place : ℕ) (m : Message) → slice_get xs place ≡ Some m → length (take place xs) ≡ place
many_before [] place m is = cc
many_before (x ∷ xs) zero m is = refl
many_before (x ∷ xs) (suc place) m is = ap suc (many_before xs place m is)

pub past_end : (xs : List Message) (place : ℕ) → slice_get xs place ≡ None → length xs ≤ place
past_end [] place none = omega arith
past_end (x ∷ xs) zero none = cc
past_end (x ∷ xs) (suc place) none = omega (arith, past_end xs place none)

module _ (limit price : ℕ) (rest : Parts) (queues : Queued) (is : IsInQueues rest queues) (place : ℕ) (m : Message) (found : slice_get queues.messages place ≡ Some m) where
  abbrev kept : List Message
  kept = take place queues.messages

  abbrev todo : List Message
  todo = drop (suc place) queues.messages

  same : among kept (m ∷ todo) rest ≡ with_messages rest queues.messages
  same =
      ap (λ l. record rest { messages = l })
      (ap (λ l. kept ++ ((m ∷ todo) ++ l)) is.none ∙ ap (λ l. kept ++ l) (append-nil (m ∷ todo)) ∙ split_at queues.messages place m found)

  pub is_met : IsWorld (among kept (m ∷ todo) rest)
  is_met = subst IsWorld (sym same) is.keeps

  pub record PickEnds (rest' : Parts) (queues' : Queued) : Type 0 where
    pub keeps : IsWorld (with_messages rest' queues'.messages)
    pub none : rest'.messages ≡ []
    pub state : state_of (with_messages rest' queues'.messages) ≡ step (managed_rules limit price) (state_of (with_messages rest queues.messages)) place

  pub pick_ends : (q rest' : Parts) (left queues' : Queued) (sent : List Message) → DeliversAt limit price kept m todo rest q → left ≡ without_at place queues
      → rest' ≡ record q { messages = [] } → sent ≡ q.messages → queues'.messages ≡ left.messages ++ sent → PickEnds rest' queues'
  pick_ends q rest' left queues' sent went is_left is_rest is_sent appended =
      let lists : queues'.messages ≡ kept ++ (todo ++ q.messages) =
      appended ∙ ap₂ (λ (w : Queued) l. w.messages ++ l) is_left is_sent ∙ append_assoc kept todo q.messages in
      let all : with_messages rest' queues'.messages ≡ among kept todo q = ap₂ (λ (r : Parts) l. with_messages r l) is_rest lists in
      record {
        keeps = subst IsWorld (sym all) went.keeps;
        none = ap (λ (r : Parts). r.messages) is_rest;
        state = ap state_of all ∙ went.state ∙ ap₂ (λ (r : Parts) k. step (managed_rules limit price) (state_of r) k) same (many_before queues.messages place m found);
      }
