use Rattle.std.proofs.Common.{◌≡◌, ℕ, ◌+◌, ◌-◌, ◌<◌, ◌≤◌, ◌∙◌, sym, ap, subst, length, [], ◌∷◌, ◌++◌}
use Rattle.std.proofs.lemmas.Result.{err_from_is_err_and}
use Rattle.ic_base.specs.Gives.{Fails}
use Rattle.wm_decode.specs.Mod.{Section, place_of}
use Rattle.wm_decode.specs.Readers.{name_at, sections_at}
use Rattle.wm_decode.proofs.LoopSteps.{and_sections, no_more, too_many, no_section, unnamed, passed_over, one_section, misplaced}
use Rattle.wm_decode.proofs.sections.sections.Goals.{then-section-eq0+in_ok-text, else-section-eq0+then-last-at+in_ok-push}
use Rattle.wm_decode.proofs.sections.sections.Goals as goal

pub returns-then-is_empty : goal.returns-then-is_empty
returns-then-is_empty c = no_more c.loop.found.items _ c.loop.last c.loop.rest.now _ (sym c.is_empty.ensures ∙ c.if-is_empty.true) c.loop.invariant

pub returns-in_err-section : goal.returns-in_err-section
returns-in_err-section c =
    let p = err_from_is_err_and c.from_residual.result c.from_residual.ensures.1 in
    rw (p.1, p.2) (no_section c.in_err-section.field-0.0 c.loop.found.items (length c.args.bytes.now) c.loop.counter c.loop.last c.loop.rest.now _ c.loop-test.true
    (sym c.is_empty.ensures ∙ c.if-is_empty.false) c.in_err-section.ensures c.loop.invariant)

pub returns-in_err-text : goal.returns-in_err-text
returns-in_err-text c =
    let p = err_from_is_err_and c.from_residual-in_err-text.result c.from_residual-in_err-text.ensures.1 in
    let s = c.in_ok-section.section in
    let custom : s.id ≡ 0 = sym (ap (λ (x : Section). x.id) c.section.view_is) ∙ c.if-section-eq0.true in
    rw (p.1, p.2) (unnamed c.in_err-text.field-0.0 c.loop.found.items (length c.args.bytes.now) c.loop.counter c.loop.last c.loop.rest.now _ s c.in_ok-section.after.now c.loop-test.true
    (sym c.is_empty.ensures ∙ c.if-is_empty.false) c.in_ok-section.ensures custom
    (subst (λ (x : Section). Fails c.in_err-text.field-0.0 (name_at x.content)) c.section.view_is c.in_err-text.ensures) c.loop.invariant)

pub returns-else-last-at : goal.returns-else-last-at
returns-else-last-at c =
    let s = c.in_ok-section.section in
    let same : c.section.inside.id ≡ s.id = ap (λ (x : Section). x.id) c.section.view_is in
    let low = subst (λ (n : ℕ). n ≤ c.loop.last) (c.place-at.ensures ∙ ap place_of same) c.if-last-at.false in
    misplaced c.loop.found.items (length c.args.bytes.now) c.loop.counter c.loop.last c.loop.rest.now _ s c.in_ok-section.after.now c.loop-test.true
    (sym c.is_empty.ensures ∙ c.if-is_empty.false) c.in_ok-section.ensures (λ zero. c.if-section-eq0.false (same ∙ zero)) low c.loop.invariant

pub loop-preserved : goal.loop-preserved
loop-preserved c =
    let s = c.in_ok-section.section in
    let same : c.section.inside.id ≡ s.id = ap (λ (x : Section). x.id) c.section.view_is in
    let some = sym c.is_empty.ensures ∙ c.if-is_empty.false in
    elim c.if-section-eq0.branch [
      | then-section-eq0+in_ok-text w ↦
          rw (w.found-is, w.last-is)
          (passed_over c.loop.found.items (length c.args.bytes.now) c.loop.counter c.loop.last c.loop.rest.now _ s c.in_ok-section.after.now _ c.loop-test.true some
          c.in_ok-section.ensures (sym same ∙ w.if-section-eq0.true) (sym (ap (λ (x : Section). name_at x.content) c.section.view_is) ∙ w.in_ok-text.ensures) c.loop.invariant)
      | else-section-eq0+then-last-at+in_ok-push w ↦
          let at_is = c.place-at.ensures ∙ ap place_of same in
          rw (w.found-is, w.last-is, w.in_ok-push.ensures.items)
          (subst (λ (n : ℕ). and_sections (c.loop.found.items ++ s ∷ []) (sections_at (length c.args.bytes.now - (c.loop.counter + 1)) n c.in_ok-section.after.now)
          ≡ sections_at (length c.args.bytes.now) 0 c.args.bytes.now) (sym at_is)
          (one_section c.loop.found.items (length c.args.bytes.now) c.loop.counter c.loop.last c.loop.rest.now _ s c.in_ok-section.after.now c.loop-test.true some
          c.in_ok-section.ensures (λ zero. w.if-section-eq0.false (same ∙ zero)) (subst (λ (n : ℕ). c.loop.last < n) at_is w.if-last-at.true) c.loop.invariant))
    ]

pub returns-then-is_empty-2 : goal.returns-then-is_empty-2
returns-then-is_empty-2 c = no_more c.loop.found.items _ c.loop.last c.loop.rest.now _ (sym c.is_empty-2.ensures ∙ c.if-is_empty-2.true) c.loop.invariant

pub returns : goal.returns
returns c = too_many c.loop.found.items (length c.args.bytes.now) c.loop.counter c.loop.last c.loop.rest.now _ c.loop-test.false (sym c.is_empty-2.ensures ∙ c.if-is_empty-2.false) c.loop.invariant
