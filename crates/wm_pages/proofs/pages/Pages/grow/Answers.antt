use Rattle.std.proofs.Common.{◌≡◌, ◌*◌, ◌++◌, replicate, arith, ◌∙◌, ap}
use Rattle.std.proofs.lemmas.Grind.{common_steps}
use Rattle.wm_pages.specs.Paged.{Paged}
use Rattle.wm_pages.specs.Ranges.{bytes_before}
use Rattle.wm_pages.proofs.Steps.{before_same, before_grown}
use Rattle.wm_pages.proofs.pages.Pages.grow.Goals as goal

pub returns-in_err-make_room-clause-before : goal.returns-in_err-make_room-clause-before
returns-in_err-make_room-clause-before c =
    before_same c.self.inside.ranges _ _ c.make_room.ensures.start c.make_room.ensures.kept ∙ ap (λ (p : Paged). p.before) c.self.view_is

pub returns-in_err-reserve_exact-clause-before : goal.returns-in_err-reserve_exact-clause-before
returns-in_err-reserve_exact-clause-before c =
    before_same c.self.inside.ranges _ _ c.make_room.ensures.start c.make_room.ensures.kept ∙ ap (bytes_before c.self.inside.ranges) c.reserve_exact.ensures.items ∙ ap (λ (p : Paged). p.before) c.self.view_is

pub returns-clause-before : goal.returns-clause-before
returns-clause-before c =
    let grown : c.resize.new.self.items ≡ c.self.inside.bytes.items ++ replicate (65536 * c.args.more) 0 = grind (arith, common_steps) in
    before_same c.self.inside.ranges _ _ c.make_room.ensures.start c.make_room.ensures.kept ∙ ap (bytes_before c.self.inside.ranges) grown
    ∙ before_grown c.self.inside.ranges c.self.inside.bytes.items _ c.self.invariant ∙ ap (λ (p : Paged). p.before) c.self.view_is
