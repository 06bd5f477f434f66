-- The management canister looks at the counts of messages alone, and what it sends comes last; so it respects their order.
use Rattle.std.proofs.Common.{◌≡◌, ℕ, List, [], ◌++◌, refl, sym, ap, ◌∙◌, subst}
use Rattle.std.proofs.Common.{append-nil}
use Rattle.ic_behaviour.specs.declared.call.Message.{Message}
use Rattle.ic_behaviour.specs.declared.call.Message.TheVariants.{Call, Answer}
use Rattle.ic_behaviour.specs.declared.call.IncomingCall.{IncomingCall}
use Rattle.ic_behaviour.specs.State.{State}
use Rattle.ic_behaviour.specs.Installing.{EntersAfter}
use Rattle.ic_mgmt_laws.specs.Manage.{handled, at_call, manage}
use Rattle.ic_mgmt_laws.specs.Moves.{message_of, with_call}
use Rattle.ic_mgmt_laws.proofs.Apart.{same_counts, sends_last}
use Rattle.ic_order.specs.Order.{SameState, RespectsOrder, without_messages}
use Rattle.ic_order.proofs.Ways.{ways_append, ways_behind}
use Rattle.ic_order.proofs.Same.{outstanding_same}

module _ (enters : EntersAfter) (limit : ℕ) (call : IncomingCall) where
  -- what it does to a state without messages, put after the messages that were there
  abbrev done : State → State → State
  done now s = handled enters limit now (without_messages s) call

  sent_behind : (now s : State) → handled enters limit now s call ≡ record (done now s) { messages = s.messages ++ (done now s).messages }
  sent_behind now s =
      ap (λ (ms : List Message). handled enters limit now (record s { messages = ms }) call) (sym (append-nil s.messages))
      ∙ sends_last enters limit now (without_messages s) call s.messages

  module _ (s t : State) (same : SameState s t) where
    -- the states that still have the call
    with_call_same : SameState (with_call call s) (with_call call t)
    with_call_same = record { rest = same.rest; messages = ways_behind (message_of call []) s.messages t.messages same.messages }

    done_same : done (with_call call s) s ≡ done (with_call call t) t
    done_same =
        same_counts enters limit (with_call call t) (with_call call s) (without_messages s) call (ap (λ (u : State). u.time) same.rest) (outstanding_same (with_call call s) (with_call call t) with_call_same)
        ∙ ap (λ (u : State). handled enters limit (with_call call t) u call) same.rest

    at_call_same : SameState (at_call enters limit s call) (at_call enters limit t call)
    at_call_same =
        subst (λ u. SameState u (at_call enters limit t call)) (sym (sent_behind (with_call call s) s))
        (subst (SameState (record (done (with_call call s) s) { messages = s.messages ++ (done (with_call call s) s).messages })) (sym (sent_behind (with_call call t) t))
        (subst (λ (u : State). SameState (record (done (with_call call s) s) { messages = s.messages ++ (done (with_call call s) s).messages }) (record u { messages = t.messages ++ u.messages })) done_same
        (record { rest = refl; messages = ways_append s.messages t.messages (done (with_call call s) s).messages same.messages })))

pub respects : (enters : EntersAfter) → RespectsOrder (manage enters)
unfolding manage
respects enters limit s t (Call from sender callee method arg cycles) same =
    at_call_same enters limit (record { origin = from; sender = sender; method = method; arg = arg; cycles = cycles }) s t same
respects enters limit s t (Answer from sender response refund) same = same
