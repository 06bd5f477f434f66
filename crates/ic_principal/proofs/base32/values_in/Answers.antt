use Rattle.std.proofs.Common.{◌≡◌, ℕ, ◌+◌, ◌-◌, ◌%◌, ◌<◌, inl, inr, List, length, take, get_or, map, sym, subst, ap, ◌∙◌, arith}
use Rattle.std.specs.List.{All}
use Rattle.std.proofs.lemmas.List.{get_or-map, length-map}
use Rattle.std.proofs.lemmas.List.Elements.{All-push}
use Rattle.ic_principal.specs.Base32.{character}
use Rattle.ic_principal.specs.Text.{dashed}
use Rattle.ic_principal.proofs.ReadingLaws.{dashed-dash, dashed-letter, front-letter, front-dash}
use Rattle.ic_principal.proofs.base32.values_in.Goals as goal
use Rattle.ic_principal.proofs.base32.values_in.Goals.{then-letters-eq5+else-text-place-ne45+else-place-text, else-letters-eq5}

-- the place after a letter
next_place : (place letters : ℕ) → place % 6 ≡ letters → (letters ≡ 5 → ⊥) → (place + 1) % 6 ≡ letters + 1
next_place place letters at other = omega (arith, other)

pub letters-init : goal.letters-init
unfolding dashed
letters-init c = record {
  front = ap (λ l. dashed (map character l)) (sym c.new-values.ensures);
  values = λ k d h. absurd (omega (arith, ap length c.new-values.ensures));
  inside = omega arith;
  letters = omega arith;
  few = omega (arith, ap length c.new-values.ensures);
}

pub returns-then-text-place-ne45-clause-none : goal.returns-then-text-place-ne45-clause-none
returns-then-text-place-ne45-clause-none c = λ values small is.
    let place = c.letters.place in
    let dash = dashed-dash (map character values) place (omega (arith, ap length is)) (omega (arith, c.letters.invariant.letters, c.if-letters-eq5.true)) in
    let same : place + 1 - 1 ≡ place = omega arith in
    elim c.then-text-place-ne45.either [
      | inl other ↦ other (ap (λ k. get_or c.args.text.now k 0) same ∙ ap (λ t. get_or t place 0) is ∙ dash.0)
      | inr last ↦ absurd (omega (arith, dash.1, ap length is, last))
    ]

pub returns-in-None-clause-none : goal.returns-in-None-clause-none
returns-in-None-clause-none c = λ values small is.
    let place = c.if-letters-eq5.place in
    let inside : (place < length c.args.text.now) × (place % 6 ≡ 5 → ⊥) =
    elim c.if-letters-eq5.branch [
      | then-letters-eq5+else-text-place-ne45+else-place-text w ↦ (omega (arith, w.if-place-text.false), λ g. absurd (omega (arith, c.letters.invariant.letters, w.if-letters-eq5.true)))
      | else-letters-eq5 w ↦ (omega arith, λ g. absurd (w.if-letters-eq5.false (omega (arith, c.letters.invariant.letters))))
    ] in
    let letter = dashed-letter (map character values) place (omega (arith, ap length is, inside.0)) inside.1 in
    let within : letter.0 < length values = omega (arith, letter.1, length-map values character) in
    let at : get_or c.args.text.now place 0 ≡ character (get_or values letter.0 0) =
    ap (λ t. get_or t place 0) is ∙ letter.2 ∙ get_or-map character values letter.0 0 0 within in
    c.in-None.ensures.none (get_or values letter.0 0) (small letter.0 0 within) (sym at)

pub letters-preserved : goal.letters-preserved
letters-preserved c =
    let text = c.args.text.now in let old = c.letters.values.items in let before = c.letters.invariant in let letter = c.in-Some.ensures.some in
    let at = c.if-letters-eq5.place in
    let grown = ap (λ l. dashed (map character l)) (sym c.push.ensures.items) in
    let same : c.letters.place + 1 - 1 ≡ c.letters.place = omega arith in
    let Front : ℕ → Type 0 = λ p. character c.in-Some.value ≡ get_or text p 0 → take (p + 1) text ≡ dashed (map character c.push.new.self.items) in
    let front : Front at =
    elim c.if-letters-eq5.branch [
      | then-letters-eq5+else-text-place-ne45+else-place-text w ↦ subst Front (sym w.place-is) (λ is.
          front-dash text old c.letters.place c.in-Some.value before.front (omega (arith, w.if-place-text.false)) (omega (arith, before.letters, w.if-letters-eq5.true))
          (ap (λ k. get_or text k 0) (sym same) ∙ w.if-text-place-ne45.false) is ∙ grown)
      | else-letters-eq5 w ↦ subst Front (sym w.place-is) (λ is.
          front-letter text old c.letters.place c.in-Some.value before.front (omega arith) (λ g. w.if-letters-eq5.false (omega (arith, before.letters))) is ∙ grown)
    ] in
    let inside : (at < length text) × (c.letters.place < at + 1) =
    elim c.if-letters-eq5.branch [
      | then-letters-eq5+else-text-place-ne45+else-place-text w ↦ (omega (arith, w.if-place-text.false), omega arith)
      | else-letters-eq5 w ↦ (omega arith, omega arith)
    ] in
    let count : (at + 1) % 6 ≡ c.if-letters-eq5.letters + 1 =
    elim c.if-letters-eq5.branch [
      | then-letters-eq5+else-text-place-ne45+else-place-text w ↦ omega (arith, before.letters, w.if-letters-eq5.true)
      | else-letters-eq5 w ↦ omega (arith, before.letters, next_place c.letters.place c.letters.letters before.letters w.if-letters-eq5.false)
    ] in
    let Below : List ℕ → Type 0 = All (λ v. v < 32) in
    record {
      front = front letter.1;
      values = subst Below (sym c.push.ensures.items) (All-push (λ v. v < 32) old c.in-Some.value before.values letter.0);
      inside = omega (arith, inside.0);
      letters = count;
      few = omega (arith, before.few, c.push.ensures.len, inside.1);
    }
