use Rattle.std.proofs.Common.{◌≡◌, length, Some, None, sym, refl, eq-eqb}
use Rattle.std.proofs.lemmas.Bool.{ne_eqb}
use Rattle.std.proofs.lemmas.Result.{err_from_is_err_and}
use Rattle.wm_decode.specs.Readers.{section_at}
use Rattle.wm_decode.specs.Listing.{content_if}
use Rattle.wm_decode.proofs.ListingSteps.{no_item, item_found, item_passed, none_found}
use Rattle.wm_decode.proofs.listing.subsection.Goals as goal

pub returns-in_err-section : goal.returns-in_err-section
returns-in_err-section c =
    let p = err_from_is_err_and c.from_residual.result c.from_residual.ensures.1 in
    rw (p.1, p.2) (no_item c.in_err-section.field-0.0 section_at (content_if c.args.id) (length c.args.bytes.now) c.loop.counter c.loop.rest.now _ c.loop-test.true c.in_err-section.ensures c.loop.invariant)

pub returns-then-section-id : goal.returns-then-section-id
returns-then-section-id c =
    let given : content_if c.args.id c.in_ok-section.section ≡ Some c.section.inside.content.now = rw (sym c.section.view_is, eq-eqb c.section.inside.id c.args.id c.if-section-id.true) refl in
    item_found section_at (content_if c.args.id) (length c.args.bytes.now) c.loop.counter c.loop.rest.now c.in_ok-section.after.now c.in_ok-section.section _ _ c.loop-test.true c.in_ok-section.ensures given c.loop.invariant

pub loop-preserved : goal.loop-preserved
loop-preserved c =
    let given : content_if c.args.id c.in_ok-section.section ≡ None = rw (sym c.section.view_is, ne_eqb c.section.inside.id c.args.id c.if-section-id.false) refl in
    item_passed section_at (content_if c.args.id) (length c.args.bytes.now) c.loop.counter c.loop.rest.now c.in_ok-section.after.now c.in_ok-section.section _ c.loop-test.true c.in_ok-section.ensures given c.loop.invariant

pub returns : goal.returns
returns c = none_found section_at (content_if c.args.id) (length c.args.bytes.now) c.loop.counter c.loop.rest.now _ c.loop-test.false c.loop.invariant
