-- What goes out, one after another.
use Rattle.std.proofs.Common.{◌≡◌, ℕ, zero, suc, ◌<◌, ◌≤◌, List, [], ◌∷◌, ◌++◌, length, Some, refl, sym, ap, ◌∙◌, subst, arith, append_assoc, append-nil, not-suc-le-zero}
use Rattle.std.specs.Prelude.{slice_set, slice_index_or, Result, OnOk}
use Rattle.std.specs.List.{flat_map, fold}
use Rattle.ic_behaviour.specs.declared.call.Message.{Message}
use Rattle.ic_behaviour.specs.declared.call.Answered.{Answered}
use Rattle.ic_behaviour.specs.declared.call.Response.{Response}
use Rattle.ic_behaviour.specs.declared.request.Request.{Request}
use Rattle.ic_behaviour.specs.Deliver.{fill, filled, routed}
use Rattle.ic_state.specs.declared.world.Parts.{Parts}
use Rattle.ic_calls.specs.Sent.{answered_in, sent_from}

-- no request has that number
pub fill-beyond : (k : ℕ) (response : Response) (rs : List Request) → length rs ≤ k → fill k response rs ≡ rs
fill-beyond k response [] beyond = refl
fill-beyond zero response (r ∷ rs) beyond = absurd (not-suc-le-zero beyond)
fill-beyond (suc k) response (r ∷ rs) beyond = ap (λ l. r ∷ l) (fill-beyond k response rs (omega (arith, beyond)))

pub fill-at : (k : ℕ) (response : Response) (rs : List Request) (r : Request) → k < length rs → r ≡ slice_index_or rs k r
    → slice_set rs k (record r { answer = Some response }) ≡ fill k response rs
fill-at k response [] r inside is = absurd (not-suc-le-zero inside)
fill-at zero response (x ∷ rs) r inside is = ap (λ (y : Request). record y { answer = Some response } ∷ rs) is
fill-at (suc k) response (x ∷ rs) r inside is = ap (λ l. x ∷ l) (fill-at k response rs r (omega (arith, inside)) is)

-- answers given one after another
pub answers-sent : (sender : List ℕ) (p : Parts) (answers : List Answered)
    → fold (λ q given. answered_in sender given q) p answers
    ≡ record p { messages = p.messages ++ flat_map (routed sender) answers; requests = fold filled p.requests answers }
answers-sent sender p [] = ap (λ l. record p { messages = l }) (sym (append-nil p.messages))
answers-sent sender p (a ∷ answers) =
    answers-sent sender (answered_in sender a p) answers
    ∙ ap (λ l. record p { messages = l; requests = fold filled p.requests (a ∷ answers) }) (append_assoc p.messages (routed sender a) (flat_map (routed sender) answers))

pub sent-after : {X E : Type 0} (sender : List ℕ) (calls : List Message) (answers : List Answered) (p q t : Parts) (r : Result X E)
    → q ≡ record p { messages = p.messages ++ calls } → OnOk r (t ≡ fold (λ u given. answered_in sender given u) q answers)
    → OnOk r (t ≡ sent_from sender calls answers p)
sent-after sender calls answers p q t r is done =
    let P = λ (u : Parts). OnOk r (t ≡ u) in
    subst P (answers-sent sender q answers ∙ ap (λ (t : Parts). record t { messages = t.messages ++ flat_map (routed sender) answers; requests = fold filled t.requests answers }) is) done
