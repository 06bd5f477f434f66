-- Sending one text after another.
use Rattle.std.proofs.Common.{◌≡◌, ℕ, ◌+◌, ◌≤◌, List, [], ◌++◌, length, Option, Some, None, IfSome, refl, sym, ap, subst, ◌∙◌, append_assoc, length-append, arith, inl, inr}
use Rattle.std.specs.Prelude.{unwrap_or}
use Rattle.std.specs.Io.KnownBytes.{append_known}
use Rattle.ic_outside.specs.Faults.{next_count}
use Rattle.ic_outside.specs.Given.{IsFront}
use Rattle.ic_outside.specs.Writing.{room_before}
use Rattle.ic_outside.proofs.KnownLaws.{append_known-append, append_known-nil, room_before-none, room_before-more}
use Rattle.ic_script_runner.specs.declared.status.Status.{Status}
use Rattle.ic_script_runner.specs.declared.status.Status.TheVariants.{NoMemory}
use Rattle.ic_script_runner.specs.Out.{Output}
use Rattle.ic_script_runner.specs.Sending.{Taken, Sent, Broke, RanOut, Interrupts}
use Rattle.ic_script_runner.specs.Acts.{Concludes}

-- nothing is sent by doing nothing
pub Sent-nil : (at : Taken) → Sent at at []
Sent-nil at = record {
  bytes = sym (append_known-nil at.bytes);
  fell = room_before-none at.fits;
  counted = refl;
}

-- a room fell by two texts, one after the other
fell-append : (fits at after : Option ℕ) (first second : List ℕ) → fits ≡ room_before (length first) at → at ≡ room_before (length second) after
    → fits ≡ room_before (length (first ++ second)) after
fell-append fits at after first second one two =
    one ∙ ap (room_before (length first)) two ∙ room_before-more (length first) (length second) after
    ∙ ap (λ n. room_before n after) (sym (length-append first second))

-- a text after another
pub Sent-append : (old at new : Taken) (first second : List ℕ) → Sent old at first → Sent at new second → Sent old new (first ++ second)
Sent-append old at new first second one two = record {
  bytes = two.bytes ∙ ap (λ known. append_known known second) one.bytes ∙ sym (append_known-append old.bytes first second);
  fell = fell-append old.fits at.fits new.fits first second one.fell two.fell;
  counted = two.counted ∙ one.counted;
}

fits-broke : (fits at : Option ℕ) (first second : ℕ) → fits ≡ room_before first at
    → IfSome at (λ room. second ≤ room → ⊥) → IfSome fits (λ room. first + second ≤ room → ⊥)
fits-broke None at first second fell two = tt
fits-broke (Some room) None first second fell two = cc
fits-broke (Some room) (Some left) first second fell two = λ fit.
    let is : room ≡ left + first = ap (λ o. unwrap_or o 0) fell in
    two (omega (arith, is))

IsFront-after : (first front second : List ℕ) → IsFront front second → IsFront (first ++ front) (first ++ second)
IsFront-after first front second f = (f.0, ap (λ l. first ++ l) f.1 ∙ sym (append_assoc first front f.0))

Broke-after : (old at new : Taken) (first second : List ℕ) → Sent old at first → Broke at new second → Broke old new (first ++ second)
Broke-after old at new first second one two =
    let P = λ (n : ℕ). IfSome old.fits (λ room. n ≤ room → ⊥) in
    record {
      front = record {
        front = first ++ two.front.front;
        is_front = IsFront-after first two.front.front second two.front.is_front;
        appended = two.front.appended ∙ ap (λ known. append_known known two.front.front) one.bytes ∙ sym (append_known-append old.bytes first two.front.front);
        fell = fell-append old.fits at.fits new.fits first two.front.front one.fell two.front.fell;
      };
      counted = two.counted ∙ ap next_count one.counted;
      fitting = subst P (sym (length-append first second)) (fits-broke old.fits at.fits (length first) (length second) one.fell two.fitting);
    }

RanOut-after : (old at new : Taken) (first second : List ℕ) → Sent old at first → RanOut at new second → RanOut old new (first ++ second)
RanOut-after old at new first second one two = record {
  front = first ++ two.front;
  is_front = IsFront-after first two.front second two.is_front;
  sent = Sent-append old at new first two.front one two.sent;
}

-- an interruption after a text that was sent
pub Interrupts-after : (old at new : Taken) (first second : List ℕ) (status : Status) → Sent old at first → Interrupts at new second status
    → Interrupts old new (first ++ second) status
Interrupts-after old at new first second status one two = record {
  cause = elim two.cause [
    | inl broke ↦ inl (broke.0, Broke-after old at new first second one broke.1)
    | inr ran_out ↦ inr (ran_out.0, RanOut-after old at new first second one ran_out.1)
  ];
}

fits-longer : (fits : Option ℕ) (short long : ℕ) → short ≤ long → IfSome fits (λ room. short ≤ room → ⊥) → IfSome fits (λ room. long ≤ room → ⊥)
fits-longer None short long le one = tt
fits-longer (Some room) short long le one = λ fit. one (omega arith)

IsFront-more : (front text more : List ℕ) → IsFront front text → IsFront front (text ++ more)
IsFront-more front text more f = (f.0 ++ more, ap (λ l. l ++ more) f.1 ∙ append_assoc front f.0 more)

-- an interruption of a text interrupts a longer one too
pub Interrupts-more : (old new : Taken) (text more : List ℕ) (status : Status) → Interrupts old new text status → Interrupts old new (text ++ more) status
Interrupts-more old new text more status one = record {
  cause = elim one.cause [
    | inl broke ↦ inl (
      broke.0,
      record {
        front = record {
          front = broke.1.front.front;
          is_front = IsFront-more broke.1.front.front text more broke.1.front.is_front;
          appended = broke.1.front.appended;
          fell = broke.1.front.fell;
        };
        counted = broke.1.counted;
        fitting = fits-longer old.fits (length text) (length (text ++ more)) (omega (arith, length-append text more)) broke.1.fitting;
      },
    )
    | inr ran_out ↦ inr (
      ran_out.0,
      record {
        front = ran_out.1.front;
        is_front = IsFront-more ran_out.1.front text more ran_out.1.is_front;
        sent = ran_out.1.sent;
      },
    )
  ];
}

-- to be out of memory at once interrupts any text
pub Interrupts-at_once : (at : Taken) (text : List ℕ) → Interrupts at at text NoMemory
Interrupts-at_once at text = record {
  cause = inr (refl, record { front = []; is_front = (text, refl); sent = Sent-nil at });
}

-- an output after a text that was sent
pub Concludes-after : (old at new : Taken) (text : List ℕ) (output : Output) (status : Status) → Sent old at text → Concludes at new output status
    → Concludes old new (record output { bytes = text ++ output.bytes }) status
Concludes-after old at new text output status one two = elim two [
  | inl sent ↦ inl (sent.0, Sent-append old at new text output.bytes one sent.1)
  | inr interrupted ↦ inr (Interrupts-after old at new text output.bytes status one interrupted)
]
