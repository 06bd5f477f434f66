use Rattle.std.proofs.Common.{◌≡◌, ℕ, ◌++◌, List, take, drop, replicate, arith, ◌∙◌, ap, length}
use Rattle.std.proofs.lemmas.List.{take_at, length-replicate}
use Rattle.wm_pages.specs.Paged.{Paged}
use Rattle.wm_pages.specs.Over.{over}
use Rattle.wm_pages.proofs.Steps.{before_written}
use Rattle.wm_pages.proofs.pages.Pages.fill.Goals as goal

pub returns-clause-before : goal.returns-clause-before
returns-clause-before c =
    let inside = c.self.inside.bytes in
    let source : List ℕ = replicate c.args.size c.args.byte in
    let few = ap (λ (p : Paged). length p.bytes) c.self.view_is in
    let size : length source ≡ c.args.size = length-replicate c.args.size c.args.byte in
    let same : length c.paint.new.bytes ≡ inside.len = omega (arith, c.paint.auto.bytes, c.as_mut_slice.ensures.len) in
    let now : take inside.len (c.paint.new.bytes ++ drop (length c.paint.new.bytes) inside.items) ≡ over c.args.at source inside.items =
    take_at c.paint.new.bytes (drop (length c.paint.new.bytes) inside.items) inside.len same ∙ c.paint.ensures ∙ ap (λ (xs : List ℕ). over c.args.at (replicate c.args.size c.args.byte) xs) c.as_mut_slice.ensures.value in
    let sound = rw c.as_slice.ensures.value at c.in_ok-save.ensures.sound in
    let kept = rw c.as_slice.ensures.value at c.in_ok-save.ensures.before in
    rw now (before_written c.save.new.self c.args.at source inside.items sound (omega (arith, size, c.requires, few)) (λ i from below old. c.in_ok-save.ensures.covered i from (omega (arith, size, below)) old)
    ∙ kept ∙ ap (λ (p : Paged). p.before) c.self.view_is)
