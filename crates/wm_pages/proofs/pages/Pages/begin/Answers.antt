use Rattle.std.proofs.Common.{◌≡◌, ◌≤◌, ◌*◌, ◌/◌, [], length, arith, ◌∙◌, ap}
use Rattle.std.proofs.lemmas.List.{take_all, nil_from_length}
use Rattle.wm_pages.specs.Paged.{Paged}
use Rattle.wm_pages.proofs.Steps.{before_front}
use Rattle.wm_pages.proofs.pages.Pages.begin.Goals as goal

pub returns-clause-before : goal.returns-clause-before
returns-clause-before c =
    let sound = c.self.invariant in
    let none : c.self.inside.ranges.kept.items ≡ [] = nil_from_length _ (ap (λ (p : Paged). p.saved) c.self.view_is ∙ c.requires) in
    let all : length c.self.inside.bytes.items ≤ 65536 * (c.len.result / 65536) = omega (arith, sound.whole, c.len.ensures, c.self.inside.bytes.ok.0) in
    before_front _ _ none ∙ take_all _ _ all ∙ ap (λ (p : Paged). p.bytes) c.self.view_is
