-- A list is put into queues, and given back.
use Rattle.std.proofs.Common.{◌≡◌, ℕ, List, [], ◌++◌, sym, ap, ap₂, ◌∙◌, subst, append-nil}
use Rattle.std.specs.Map.{keys_of}
use Rattle.ic_behaviour.specs.declared.call.Message.{Message}
use Rattle.ic_state.specs.declared.world.Parts.{Parts}
use Rattle.ic_state.specs.Seen.{state_of}
use Rattle.ic_state.specs.IsWorld.{IsWorld}
use Rattle.ic_rounds.proofs.PutBacks.{Rises}
use Rattle.ic_mgmt.specs.Sweeping.{among}
use Rattle.ic_queues.specs.Queued.{Queued, no_messages}
use Rattle.ic_queue_rounds.specs.InQueues.{with_messages, IsInQueues}
use Rattle.ic_queue_rounds.proofs.Fronts.{ids_rise}

module _ (p rest : Parts) (keys : List (List ℕ)) (is : IsWorld p) (is_rest : rest ≡ with_messages p []) (is_keys : keys ≡ keys_of rest.canisters.entries) where
  same_keys : keys ≡ keys_of p.canisters.entries
  same_keys = is_keys ∙ ap (λ (q : Parts). keys_of q.canisters.entries) is_rest

  pub keys_rise : Rises keys
  keys_rise = subst Rises (sym same_keys) (ids_rise p is)

  module _ (none w : Queued) (messages : List Message) (is_none : none ≡ no_messages keys) (is_messages : messages ≡ p.messages)
      (appended : w.messages ≡ none.messages ++ messages) (stayed : w.canisters ≡ none.canisters) where
    whole : with_messages rest w.messages ≡ p
    whole = ap₂ (λ (q : Parts) l. with_messages q l) is_rest (appended ∙ ap₂ (λ (q : Queued) l. q.messages ++ l) is_none is_messages)

    pub queued_keeps : IsInQueues rest w
    queued_keeps = record {
      keeps = subst IsWorld (sym whole) is;
      canisters = stayed ∙ ap (λ (q : Queued). q.canisters) is_none ∙ is_keys;
      none = ap (λ (q : Parts). q.messages) is_rest;
    }

    pub queued_state : state_of (with_messages rest w.messages) ≡ state_of p
    queued_state = ap state_of whole

module _ (rest q : Parts) (w : Queued) (messages : List Message) (is : IsInQueues rest w) (is_messages : messages ≡ w.messages) (is_q : q ≡ among messages [] rest) where
  listed : q ≡ with_messages rest w.messages
  listed = is_q ∙ ap₂ (λ l more. with_messages rest (l ++ more)) is_messages is.none ∙ ap (λ l. with_messages rest l) (append-nil w.messages)

  pub listed_keeps : IsWorld q
  listed_keeps = subst IsWorld (sym listed) is.keeps

  pub listed_state : state_of q ≡ state_of (with_messages rest w.messages)
  listed_state = ap state_of listed
