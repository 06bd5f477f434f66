-- The loop that sends: what was sent so far, and one write more.
use Rattle.std.proofs.Common.{◌≡◌, ℕ, ◌+◌, ◌<◌, ◌≤◌, List, [], ◌++◌, length, take, drop, Option, Some, None, IfSome, refl, sym, ap, ◌∙◌, append_assoc, take-append-drop, length-append, length-take, arith}
use Rattle.std.specs.Prelude.{unwrap_or}
use Rattle.std.specs.Io.KnownBytes.{append_known}
use Rattle.ic_outside.specs.Writing.{room_before}
use Rattle.ic_outside.proofs.KnownLaws.{append_known-append, append_known-nil, room_before-none, room_before-more}

-- the sink has taken a front of the bytes, and the rest is to be sent
pub record Sent {K : Type 0} (taken : K → Option (List ℕ)) (faults : K → ℕ) (fits : K → Option ℕ) (start : K) (bytes : List ℕ) (sink : K) (rest : List ℕ) : Type 0 where
  pub sent : List ℕ
  pub whole : bytes ≡ sent ++ rest
  pub appended : taken sink ≡ append_known (taken start) sent
  pub fell : fits start ≡ room_before (length sent) (fits sink)
  pub counted : faults sink ≡ faults start
  pub nothing : bytes ≡ [] → sink ≡ start

-- where all the bytes fit, a write of the rest does not fail
pub broke : (start at : Option ℕ) (total sent rest : ℕ) → total ≡ sent + rest → 0 < rest → start ≡ room_before sent at
    → IfSome at (λ room. (0 < rest → 0 < room) → ⊥) → IfSome start (λ room. total ≤ room → ⊥)
broke None at total sent rest whole some told h = tt
broke (Some room) None total sent rest whole some told h = cc
broke (Some room) (Some left) total sent rest whole some told h = λ fit.
    let is : room ≡ left + sent = ap (λ o. unwrap_or o 0) told in
    h (λ _. omega (arith, is))

module _ {K : Type 0} (taken : K → Option (List ℕ)) (faults : K → ℕ) (fits : K → Option ℕ) (start : K) (bytes : List ℕ) where
  pub Sent-none : Sent taken faults fits start bytes start bytes
  Sent-none = record {
    sent = [];
    whole = refl;
    appended = sym (append_known-nil (taken start));
    fell = room_before-none (fits start);
    counted = refl;
    nothing = λ e. refl;
  }

  pub Sent-more : (sink : K) (rest : List ℕ) (next : K) (left : List ℕ) (n : ℕ) → Sent taken faults fits start bytes sink rest → n ≤ length rest → 0 < length rest → 0 < n
      → left ≡ drop n rest → taken next ≡ append_known (taken sink) (take n rest) → faults next ≡ faults sink → fits sink ≡ room_before n (fits next)
      → Sent taken faults fits start bytes next left
  Sent-more sink rest next left n so_far within some took is_left appended counted fell =
      let front = take n rest in
      let whole : bytes ≡ (so_far.sent ++ front) ++ left =
      so_far.whole ∙ ap (λ l. so_far.sent ++ l) (sym (take-append-drop n rest) ∙ ap (λ l. front ++ l) (sym is_left)) ∙ sym (append_assoc so_far.sent front left) in
      let grown : length (so_far.sent ++ front) ≡ length so_far.sent + n = omega (arith, length-append so_far.sent front, length-take n rest) in
      record {
        sent = so_far.sent ++ front;
        whole = whole;
        appended = appended ∙ ap (λ k. append_known k front) so_far.appended ∙ sym (append_known-append (taken start) so_far.sent front);
        fell = so_far.fell ∙ ap (room_before (length so_far.sent)) fell ∙ room_before-more (length so_far.sent) n (fits next) ∙ ap (λ k. room_before k (fits next)) (sym grown);
        counted = counted ∙ so_far.counted;
        nothing = λ none. absurd (omega (arith, ap length none, ap length so_far.whole, length-append so_far.sent rest));
      }
