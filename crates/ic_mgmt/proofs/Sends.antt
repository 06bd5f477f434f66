-- What is sent, one after another.
use Rattle.std.proofs.Common.{◌≡◌, ℕ, List, [], ◌∷◌, ◌++◌, Some, refl, sym, ap, ap₂, ◌∙◌, append_assoc, append-nil}
use Rattle.std.specs.List.{flat_map, fold}
use Rattle.std.specs.Map.{lookup}
use Rattle.std.proofs.lemmas.Map.Steps.{set_value_same}
use Rattle.ic_behaviour.specs.declared.call.Response.{Response}
use Rattle.ic_behaviour.specs.declared.call.Answered.{Answered}
use Rattle.ic_behaviour.specs.declared.request.Request.{Request}
use Rattle.ic_behaviour.specs.State.{at, Canister, State}
use Rattle.ic_behaviour.specs.Deliver.{filled, routed}
use Rattle.ic_mgmt_laws.specs.Moves.{with_canister, answered, all_answered}
use Rattle.ic_behaviour.specs.declared.call.IncomingCall.{IncomingCall}
use Rattle.ic_mgmt.specs.declared.ending.Ending.{Ending}
use Rattle.ic_mgmt.specs.Ending.{ended_by}

both_routed : (sender : List ℕ) (front back : List Answered) → flat_map (routed sender) (front ++ back) ≡ flat_map (routed sender) front ++ flat_map (routed sender) back
both_routed sender [] back = refl
both_routed sender (a ∷ front) back = ap (λ l. routed sender a ++ l) (both_routed sender front back) ∙ sym (append_assoc (routed sender a) (flat_map (routed sender) front) (flat_map (routed sender) back))

both_filled : (front back : List Answered) (rs : List Request) → fold filled rs (front ++ back) ≡ fold filled (fold filled rs front) back
both_filled [] back rs = refl
both_filled (a ∷ front) back rs = both_filled front back (filled rs a)

pub both_answered : (sender : List ℕ) (front back : List Answered) (s : State) → all_answered sender (front ++ back) s ≡ all_answered sender back (all_answered sender front s)
both_answered sender front back s =
    ap₂ (λ ms rs. record s { messages = ms; requests = rs })
    (ap (λ l. s.messages ++ l) (both_routed sender front back) ∙ sym (append_assoc s.messages (flat_map (routed sender) front) (flat_map (routed sender) back)))
    (both_filled front back s.requests)

-- the call is answered and no other
pub only_answered : (call : IncomingCall) (response : Response) (refund : ℕ) (s : State)
    → ended_by call (record { reply = Some (response, refund); sender = []; answers = [] }) s ≡ answered call response refund s
only_answered call response refund s = ap (λ l. record (answered call response refund s) { messages = l }) (append-nil (answered call response refund s).messages)

-- the canister that stands is put in its own place
pub with_same : (s : State) (id : List ℕ) (a : Canister) → lookup (at id) s.canisters ≡ Some a → with_canister id a s ≡ s
with_same s id a found = ap (λ es. record s { canisters = es }) (set_value_same (at id) s.canisters a found)

abbrev pub only : Response → ℕ → Ending
only response refund = record { reply = Some (response, refund); sender = []; answers = [] }

-- an answer to the call and to no other
pub answers_only : (call : IncomingCall) (e : Ending) (response : Response) (refund : ℕ) → e ≡ only response refund → (s : State) → answered call response refund s ≡ ended_by call e s
answers_only call e response refund is s = sym (ap (λ x. ended_by call x s) is ∙ only_answered call response refund s)
