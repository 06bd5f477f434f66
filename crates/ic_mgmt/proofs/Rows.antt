-- What code does to one canister is what the method's row says.
use Rattle.std.proofs.Common.{◌≡◌, ℕ, List, [], ◌∷◌, ◌++◌, map, Option, Some, None, refl, sym, ap, ◌∙◌}
use Rattle.std.specs.Prelude.{option_map}
use Rattle.std.specs.List.{flat_map}
use Rattle.std.specs.Map.{lookup}
use Rattle.ic_behaviour.specs.declared.call.Response.{Response}
use Rattle.ic_behaviour.specs.declared.call.Answered.{Answered}
use Rattle.ic_behaviour.specs.declared.context.Context.{Context}
use Rattle.ic_behaviour.specs.declared.phase.Phase.TheVariants.{Stopped}
use Rattle.ic_behaviour.specs.State.{at, Code, Canister, State}
use Rattle.ic_behaviour.specs.Counted.{CountedCanister, bare, dropped}
use Rattle.ic_behaviour.specs.Closing.{empty_reply, closed, closing}
use Rattle.ic_state.specs.declared.canister.Code.{Code as StoredCode}
use Rattle.ic_state.specs.declared.canister.Canister.{Canister as StoredCanister}
use Rattle.ic_state.specs.Seen.{seen, code_of}
use Rattle.ic_mgmt_candid.specs.Replies.{memory_size, status_told, status_reply}
use Rattle.ic_calls.specs.Texts.{uninstalled}
use Rattle.ic_calls.specs.Changes.{awaiting as now_awaiting, rejected, deleted as now_deleted, emptied as now_emptied}
use Rattle.ic_mgmt_laws.specs.Moves.{with_canister, answered, replied, all_answered, waiter_of, to_context, deleted, emptied, shut}
use Rattle.ic_behaviour.specs.declared.call.IncomingCall.{IncomingCall}
use Rattle.ic_mgmt_laws.specs.Rows.{uninstalls, stops_in, stops}
use Rattle.ic_mgmt_laws.proofs.Changed.{set_twice}
use Rattle.ic_mgmt.specs.declared.ending.Ending.{Ending}
use Rattle.ic_mgmt.specs.Ending.{ended_by}
use Rattle.ic_mgmt.specs.Changes.{waits}
use Rattle.ic_mgmt.proofs.Numbers.{IsTrueOf, emptied_true}
use Rattle.ic_mgmt.proofs.Sends.{with_same, both_answered, only, answers_only}

-- contexts close, where the canister has the numbers of its calls
shut_is : (now s : State) (id : List ℕ) (b : CountedCanister) → IsTrueOf now id b → shut now id (dropped b) (with_canister id (dropped b) s) ≡ all_answered id (closing None b) (with_canister id (dropped (closed b)) s)
shut_is now s id b is =
    ap (λ k. all_answered id (closing None k) (with_canister id (dropped (closed k)) (with_canister id (dropped b) s))) is
    ∙ ap (λ es. all_answered id (closing None b) (record s { canisters = es })) (set_twice (at id) s.canisters (dropped b) (dropped (closed b)))

module _ (call : IncomingCall) (id : List ℕ) (c d : StoredCanister) where
  abbrev a : Canister
  a = dropped (seen c)

  -- ---- settings

  hashes : (o : Option StoredCode) → option_map (λ (code : Code). code.hash) (option_map code_of o) ≡ option_map (λ (code : StoredCode). code.hash) o
  hashes None = refl
  hashes (Some code) = refl

  pub status_is : (hash : Option (List ℕ)) (memory : ℕ) (reply : List ℕ) → hash ≡ option_map (λ (code : StoredCode). code.hash) c.code → memory ≡ memory_size c.store.lists
      → reply ≡ status_told c.phase c.controllers hash memory c.balance → reply ≡ status_reply a
  status_is hash memory reply h m is = is ∙ (λ i. status_told c.phase c.controllers ((h ∙ sym (hashes c.code)) i) (m i) c.balance)

  -- ---- the phase

  pub waits_is : (answers : List Answered) (b : CountedCanister) → b ≡ now_awaiting (waiter_of call) (seen c) → answers ≡ closing None b → seen d ≡ closed b
      → (now s : State) → IsTrueOf now id (seen c) → waits now s call id a ≡ ended_by call (record { reply = None; sender = id; answers = answers }) (with_canister id (dropped (seen d)) s)
  waits_is answers b b_is as_is d_is now s is =
      let w = now_awaiting (waiter_of call) (seen c) in
      let waits_true : IsTrueOf now id w = ap (λ (x : CountedCanister). record x { phase = w.phase }) is in
      shut_is now s id w waits_true
      ∙ sym (λ i. all_answered id ((as_is ∙ ap (closing None) b_is) i) (with_canister id (dropped ((d_is ∙ ap closed b_is) i)) s))

  pub stops_at_once : (e : Ending) → c.phase ≡ Stopped → e ≡ only empty_reply call.cycles → (now s : State) → lookup (at id) s.canisters ≡ Some a → stops now s call id a ≡ ended_by call e (with_canister id a s)
  stops_at_once e stopped is now s found =
      ap (λ p. stops_in p now s call id a) stopped ∙ answers_only call e empty_reply call.cycles is s ∙ ap (ended_by call e) (sym (with_same s id a found))

  -- ---- code

  rejections : (xs : List Context) → flat_map (to_context uninstalled) (map bare xs) ≡ flat_map rejected xs
  rejections [] = refl
  rejections (x ∷ xs) = ap (λ l. rejected x ++ l) (rejections xs)

  bare_deleted : (xs : List Context) → map bare (map now_deleted xs) ≡ map deleted (map bare xs)
  bare_deleted [] = refl
  bare_deleted (x ∷ xs) = ap (λ l. deleted (bare x) ∷ l) (bare_deleted xs)

  pub uninstalls_is : (response : Response) (front back answers : List Answered) (b : CountedCanister) → response ≡ empty_reply → b ≡ now_emptied (seen c) → front ≡ flat_map rejected c.contexts
      → back ≡ closing None b → answers ≡ front ++ back → seen d ≡ closed b
      → (now s : State) → IsTrueOf now id (seen c)
      → uninstalls now s call id a ≡ ended_by call (record { reply = Some (response, call.cycles); sender = id; answers = answers }) (with_canister id (dropped (seen d)) s)
  uninstalls_is response front back answers b r_is b_is f_is k_is as_is d_is now s is =
      let w = now_emptied (seen c) in
      let empty : dropped w ≡ emptied a = ap (λ xs. record (emptied a) { contexts = xs }) (bare_deleted c.contexts) in
      let t = all_answered id (flat_map rejected c.contexts) (replied call empty_reply s) in
      (λ i. shut now id (sym empty i) (with_canister id (sym empty i) (all_answered id (rejections c.contexts i) (replied call empty_reply s))))
      ∙ shut_is now t id w (emptied_true now id (seen c) is)
      ∙ sym (both_answered id (flat_map rejected c.contexts) (closing None w) (replied call empty_reply (with_canister id (dropped (closed w)) s)))
      ∙ sym (λ i. all_answered id ((as_is ∙ (λ j. f_is j ++ (k_is ∙ ap (closing None) b_is) j)) i) (answered call (r_is i) call.cycles (with_canister id (dropped ((d_is ∙ ap closed b_is) i)) s)))
