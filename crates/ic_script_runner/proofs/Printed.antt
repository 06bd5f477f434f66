-- The end part, answer by answer.
use Rattle.std.proofs.Common.{◌≡◌, ℕ, ◌+◌, ◌<◌, ◌≤◌, List, [], ◌∷◌, ◌++◌, length, drop, refl, sym, ap, ◌∙◌, append_assoc, append-nil, subst, get_or, Ok}
use Rattle.std.proofs.lemmas.List.{at_drop_more, at_drop_all}
use Rattle.ic_behaviour.specs.declared.request.Request.{Request}
use Rattle.ic_script_runner.specs.EndPart.{answers_from}
use Rattle.ic_script_runner.specs.Sending.{Taken, Sent, Interrupts, Gathers}
use Rattle.ic_script_runner.specs.declared.status.Status.{Status}
use Rattle.ic_output.specs.Texts.{answer_text}
use Rattle.ic_script_runner.proofs.SendLaws.{Sent-nil, Sent-append, Interrupts-after, Interrupts-more}

-- the answers before a number were sent after what was gathered at first, but for what is gathered now
pub record Printed (requests : List Request) (start at : Taken) (gathered pending : List ℕ) (number : ℕ) : Type 0 where
  pub printed : List ℕ
  pub sent : Sent start at printed
  pub whole : gathered ++ answers_from 0 requests ≡ printed ++ (pending ++ answers_from number (drop number requests))

pub Printed-none : (requests : List Request) (start : Taken) (gathered : List ℕ) → Printed requests start start gathered gathered 0
Printed-none requests start gathered = record { printed = []; sent = Sent-nil start; whole = refl }

answers_from-cons : (number : ℕ) (request : Request) (rest : List Request)
    → answers_from number (request ∷ rest) ≡ answer_text number request.answer ++ answers_from (number + 1) rest
unfolding answers_from
answers_from-cons number request rest = refl

answers_from-nil : (number : ℕ) → answers_from number [] ≡ []
unfolding answers_from
answers_from-nil number = refl

module _ (requests : List Request) (start at : Taken) (gathered pending : List ℕ) (number : ℕ) (so_far : Printed requests start at gathered pending number) where
  -- there was no memory for the next answer
  pub Printed-wanting : (new : Taken) (status : Status) → Interrupts at new pending status → Interrupts start new (gathered ++ answers_from 0 requests) status
  Printed-wanting new status interrupted =
      let rest = answers_from number (drop number requests) in
      let P = λ (l : List ℕ). Interrupts start new l status in
      subst P (sym so_far.whole) (Interrupts-after start at new so_far.printed (pending ++ rest) status so_far.sent (Interrupts-more at new pending rest status interrupted))

  module _ (request : Request) (within : number < length requests) (is : request ≡ get_or requests number request) where
    -- what is left begins with the answer of this number
    next : gathered ++ answers_from 0 requests ≡ so_far.printed ++ ((pending ++ answer_text number request.answer) ++ answers_from (number + 1) (drop (number + 1) requests))
    next =
        let rest = answers_from (number + 1) (drop (number + 1) requests) in
        so_far.whole ∙ ap (λ l. so_far.printed ++ (pending ++ l))
        (at_drop_more (answers_from number) requests number request within
        ∙ ap (λ a. answers_from number (a ∷ drop (number + 1) requests)) (sym is)
        ∙ answers_from-cons number request (drop (number + 1) requests))
        ∙ ap (λ l. so_far.printed ++ l) (sym (append_assoc pending (answer_text number request.answer) rest))

    pub Printed-more : {T : Type 0} (u : T) (new : Taken) (left : List ℕ) → Gathers at new pending (answer_text number request.answer) left (Ok u)
        → Printed requests start new gathered left (number + 1)
    Printed-more u new left more =
        let rest = answers_from (number + 1) (drop (number + 1) requests) in
        record {
          printed = so_far.printed ++ more.0;
          sent = Sent-append start at new so_far.printed more.0 so_far.sent more.1;
          whole = next ∙ ap (λ l. so_far.printed ++ (l ++ rest)) more.2 ∙ ap (λ l. so_far.printed ++ l) (append_assoc more.0 left rest)
              ∙ sym (append_assoc so_far.printed more.0 (left ++ rest));
        }

    -- an interruption of an answer interrupts them all
    pub Printed-interrupted : (new : Taken) (status : Status) → Interrupts at new (pending ++ answer_text number request.answer) status
        → Interrupts start new (gathered ++ answers_from 0 requests) status
    Printed-interrupted new status interrupted =
        let text = pending ++ answer_text number request.answer in
        let rest = answers_from (number + 1) (drop (number + 1) requests) in
        let P = λ (l : List ℕ). Interrupts start new l status in
        subst P (sym next) (Interrupts-after start at new so_far.printed (text ++ rest) status so_far.sent (Interrupts-more at new text rest status interrupted))

  -- all answers are sent or gathered
  pub Printed-all : length requests ≤ number → (sent : List ℕ) × Sent start at sent × (gathered ++ answers_from 0 requests ≡ sent ++ pending)
  Printed-all over = (
    so_far.printed,
    so_far.sent,
    so_far.whole ∙ ap (λ l. so_far.printed ++ (pending ++ l)) (at_drop_all (answers_from number) requests number over ∙ answers_from-nil number)
        ∙ ap (λ l. so_far.printed ++ l) (append-nil pending),
  )
