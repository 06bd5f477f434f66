-- What came of slots is put into their places.
use Rattle.std.proofs.Common.{◌≡◌, ℕ, suc, ◌+◌, ◌<◌, false, cond, eqb, List, [], ◌∷◌, ◌++◌, map, length, get_or, Option, Some, inl, inr, refl, sym, ap, ◌∙◌, subst, arith, length-append}
use Rattle.std.specs.Prelude.{slice_get, slice_set}
use Rattle.std.specs.List.{AllByRecursion, AllZip}
use Rattle.std.proofs.lemmas.Bool.{cases_Bool, cases_lt, eqb-true, eqb-false}
use Rattle.std.proofs.lemmas.Bool.Decides.{nat_tests}
use Rattle.std.proofs.lemmas.List.{length-set, map-append}
use Rattle.std.specs.Option.{IsSome}
use Rattle.std.proofs.lemmas.Option.{slice_get_within, slice_get_read}
use Rattle.ic_behaviour.specs.declared.env.Env.{Env}
use Rattle.ic_tickets.specs.declared.rule.Pass.{Pass}
use Rattle.ic_tickets.specs.declared.rule.Tickets.{Tickets}
use Rattle.ic_tickets.specs.Rule.{times, once_below}
use Rattle.ic_tickets.specs.Tickets.{numbers_of, HasEnded, IsOf, times_drawn, ends_of}
use Rattle.ic_tickets.proofs.Lists.{total-append}
use Rattle.ic_rounds.specs.declared.slot.Slot.{Slot}
use Rattle.ic_rounds.specs.declared.handled_slot.HandledSlot.{HandledSlot}
use Rattle.ic_rounds.specs.declared.worker.Worker.{Worker}
use Rattle.ic_rounds.specs.HandledSlots.{IsHandled, Entry}
use Rattle.ic_rounds.specs.Workers.{entry_numbers, IsAt, IsDone, IsFilled}
use Rattle.ic_rounds.proofs.Elements.{each-snoc, get-set-here, get-set-else}

either-times : (k n before : ℕ) → eqb k n ≡ false → 0 < before + cond (eqb n k) 1 0 → 0 < before
either-times k n before is some = grind (arith, nat_tests)

pub once-there : (k n : ℕ) → k < n → 0 < once_below k n
once-there k n less = grind (arith, nat_tests)

times-entries : (k : ℕ) (entries : List Entry) (e : Entry) → times k (entry_numbers (entries ++ e ∷ [])) ≡ times k (entry_numbers entries) + cond (eqb e.number k) 1 0
times-entries k entries e =
    ap (times k) (map-append (λ (f : Entry). f.number) entries (e ∷ []))
    ∙ omega (arith, total-append (λ (y : ℕ). cond (eqb y k) 1 0) (entry_numbers entries) (e.number ∷ []))

module _ (slots : List Slot) (env : Env) where
  -- the entries are in their places, and what was there is there
  pub record Puts (before after : List (Option HandledSlot)) (entries : List Entry) : Type 0 where
    pub len : length after ≡ length before
    pub kept : (k : ℕ) → IsFilled slots env before k → IsFilled slots env after k
    pub filled : (k : ℕ) → 0 < times k (entry_numbers entries) → IsFilled slots env after k

  -- the place k after another entry
  one-more : (places : List (Option HandledSlot)) (e : Entry) (w : HandledSlot) → e.number < length places → IsAt slots env e → IsHandled e.env e.slot w
      → (k : ℕ) → (eqb k e.number ≡ false → IsFilled slots env places k) → IsFilled slots env (slice_set places e.number (Some w)) k
  one-more places e w inside at is k others = elim (cases_Bool (eqb k e.number)) [
    | inl here ↦
        let same : k ≡ e.number = eqb-true k e.number here in
        record {
          slot = e.slot;
          handled = w;
          is_slot = ap (slice_get slots) same ∙ at.0;
          is_there = ap (slice_get (slice_set places e.number (Some w))) same ∙ get-set-here places e.number (Some w) inside;
          is_handled = subst (λ v. IsHandled v e.slot w) at.1 is;
        }
    | inr there ↦
        let was = others there in
        record {
          slot = was.slot;
          handled = was.handled;
          is_slot = was.is_slot;
          is_there = get-set-else places e.number k (Some w) (eqb-false k e.number there) ∙ was.is_there;
          is_handled = was.is_handled;
        }
  ]

  pub Puts-more : (before mid after : List (Option HandledSlot)) (entries : List Entry) (e : Entry) (w : HandledSlot) → Puts before mid entries → e.number < length mid → IsAt slots env e
      → IsHandled e.env e.slot w → after ≡ slice_set mid e.number (Some w) → Puts before after (entries ++ e ∷ [])
  Puts-more before mid after entries e w so_far inside at is same = subst (λ (l : List (Option HandledSlot)). Puts before l (entries ++ e ∷ [])) (sym same) (record {
    len = length-set mid e.number (Some w) ∙ so_far.len;
    kept = λ k was. one-more mid e w inside at is k (λ other. so_far.kept k was);
    filled = λ k some. one-more mid e w inside at is k (λ other. so_far.filled k (either-times k e.number (times k (entry_numbers entries)) other (subst (λ n. 0 < n) (times-entries k entries e) some)));
  })

  -- an entry's number is that of a slot
  pub Puts-inside : (e : Entry) → IsAt slots env e → e.number < length slots
  Puts-inside e at = slice_get_within slots e.number e.slot at.0

  module _ (t : Tickets Slot) where
    -- workers gave back their passes, and what they drew is in its place
    pub record Gathers (before after : List (Option HandledSlot)) (workers : List Worker) (passes : List (Pass Slot)) : Type 0 where
      pub len : length after ≡ length before
      pub many : length passes ≡ length workers
      pub passes_are : AllByRecursion (λ (p : Pass Slot). IsOf t p × HasEnded p) passes
      pub filled : (k : ℕ) → 0 < times_drawn k passes → IsFilled slots env after k

    pub Gathers-more : (before mid after : List (Option HandledSlot)) (workers : List Worker) (passes : List (Pass Slot)) (w : Worker) → Gathers before mid workers passes → IsDone t env w
        → length after ≡ length mid → ((k : ℕ) → IsFilled slots env mid k → IsFilled slots env after k) → ((k : ℕ) → 0 < times k (entry_numbers w.outbox.items) → IsFilled slots env after k)
        → Gathers before after (workers ++ w ∷ []) (passes ++ w.pass ∷ [])
    Gathers-more before mid after workers passes w so_far done len kept filled = record {
      len = len ∙ so_far.len;
      many = length-append passes (w.pass ∷ []) ∙ ap (λ n. n + 1) so_far.many ∙ sym (length-append workers (w ∷ []));
      passes_are = each-snoc (λ (p : Pass Slot). IsOf t p × HasEnded p) passes w.pass so_far.passes_are (done.own, done.ended);
      filled = λ k some. elim (cases_lt 0 (times_drawn k passes)) [
        | inl earlier ↦ kept k (so_far.filled k earlier)
        | inr none ↦ filled k (omega (
          arith,
          some,
          none,
          total-append (λ (p : Pass Slot). times k (numbers_of p)) passes (w.pass ∷ []),
          ap (times k) done.numbers,
        ))
      ];
    }

-- where all places are filled, what is taken out of them is what came of the slots
module _ (env : Env) where
  pub takes : (slots : List Slot) (places : List (Option HandledSlot)) (all : List HandledSlot) → length places ≡ length slots → map Some all ≡ places
      → ((k : ℕ) → k < length places → IsFilled slots env places k) → AllZip (IsHandled env) slots all
  takes [] places [] long same filled = tt
  takes [] places (w ∷ all) long same filled = absurd (omega (arith, long, ap (λ (l : List (Option HandledSlot)). length l) same))
  takes (slot ∷ slots) places [] long same filled = absurd (omega (arith, long, ap (λ (l : List (Option HandledSlot)). length l) same))
  takes (slot ∷ slots) [] (w ∷ all) long same filled = absurd (omega (arith, long))
  takes (slot ∷ slots) (place ∷ places) (w ∷ all) long same filled =
      let first = filled 0 (omega arith) in
      let here : place ≡ Some w = cc in
      let is_slot : slot ≡ first.slot = (let e = first.is_slot in cc) in
      let is_there : Some w ≡ Some first.handled = (let e = first.is_there in cc) in
      let is_handled : w ≡ first.handled = cc in
      let rest : map Some all ≡ places = cc in (
        subst (λ (s : Slot). IsHandled env s w) (sym is_slot) (subst (IsHandled env first.slot) (sym is_handled) first.is_handled),
        takes slots places all (omega (arith, long)) rest (λ k inside.
            let next = filled (suc k) (omega (arith, inside)) in
            record { slot = next.slot; handled = next.handled; is_slot = next.is_slot; is_there = next.is_there; is_handled = next.is_handled }),
      )

-- a filled place has something
pub filled-some : (slots : List Slot) (env : Env) (places : List (Option HandledSlot)) (k : ℕ) (place : Option HandledSlot) → IsFilled slots env places k → k < length places → place ≡ get_or places k place → IsSome place
filled-some slots env places k place filled inside is =
    let read : slice_get places k ≡ Some place = slice_get_read places (length places) k place refl inside is in
    let both : Some place ≡ Some (Some filled.handled) = sym read ∙ filled.is_there in
    let same : place ≡ Some filled.handled = cc in
    subst IsSome (sym same) refl

pub some-ended : (t : Tickets Slot) (passes : List (Pass Slot)) → AllByRecursion (λ (p : Pass Slot). IsOf t p × HasEnded p) passes → 0 < length passes → 0 < ends_of passes
some-ended t [] all some = absurd (omega (arith, some))
some-ended t (p ∷ passes) all some = omega (arith, all.0.1)
