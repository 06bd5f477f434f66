use Rattle.std.proofs.Common.{◌≡◌, ℕ, ◌++◌, List, take, drop, length-drop, arith, ◌∙◌, ap, length}
use Rattle.std.proofs.lemmas.List.{take_at, length-take-le}
use Rattle.wm_pages.specs.Paged.{Paged}
use Rattle.wm_pages.specs.Over.{over}
use Rattle.wm_pages.proofs.Steps.{before_written}
use Rattle.wm_pages.proofs.pages.Pages.copy_within.Goals as goal

pub returns-clause-before : goal.returns-clause-before
returns-clause-before c =
    let inside = c.self.inside.bytes in
    let source : List ℕ = take c.args.size (drop c.args.from inside.items) in
    let few = ap (λ (p : Paged). length p.bytes) c.self.view_is in
    let size : length source ≡ c.args.size = length-take-le c.args.size (drop c.args.from inside.items) (omega (arith, few, c.requires.source, length-drop c.args.from inside.items)) in
    let same : length c.shift.new.bytes ≡ inside.len = omega (arith, c.shift.auto.bytes, c.as_mut_slice.ensures.len) in
    let now : take inside.len (c.shift.new.bytes ++ drop (length c.shift.new.bytes) inside.items) ≡ over c.args.to source inside.items =
    take_at c.shift.new.bytes (drop (length c.shift.new.bytes) inside.items) inside.len same ∙ c.shift.ensures ∙ ap (λ (xs : List ℕ). over c.args.to (take c.args.size (drop c.args.from xs)) xs) c.as_mut_slice.ensures.value in
    let sound = rw c.as_slice.ensures.value at c.in_ok-save.ensures.sound in
    let kept = rw c.as_slice.ensures.value at c.in_ok-save.ensures.before in
    rw now (before_written c.save.new.self c.args.to source inside.items sound (omega (arith, size, c.requires.target, few)) (λ i from below old. c.in_ok-save.ensures.covered i from (omega (arith, size, below)) old)
    ∙ kept ∙ ap (λ (p : Paged). p.before) c.self.view_is)
