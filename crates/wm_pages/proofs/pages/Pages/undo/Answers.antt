use Rattle.std.proofs.Common.{◌≡◌, ◌*◌, length, take, drop, arith, refl, sym, ◌∙◌, ap}
use Rattle.std.proofs.lemmas.List.{take_at}
use Rattle.wm_pages.specs.Paged.{Paged}
use Rattle.wm_pages.specs.Ranges.{bytes_before}
use Rattle.wm_pages.proofs.Steps.{before_none, before_front}
use Rattle.wm_pages.proofs.pages.Pages.undo.Goals as goal

pub returns-clause-bytes : goal.returns-clause-bytes
returns-clause-bytes c =
    let inside = c.self.inside.bytes in
    let same : length c.restore.new.bytes ≡ inside.len = omega (arith, c.restore.auto.bytes, c.as_mut_slice.ensures.len) in
    c.truncate.ensures.items ∙ ap (take (65536 * c.restore.new.self.start)) (take_at c.restore.new.bytes (drop (length c.restore.new.bytes) inside.items) inside.len same)
    ∙ sym (before_front c.restore.new.self c.restore.new.bytes c.restore.ensures.kept) ∙ c.restore.ensures.before
    ∙ ap (bytes_before c.self.inside.ranges) c.as_mut_slice.ensures.value ∙ ap (λ (p : Paged). p.before) c.self.view_is

pub returns-clause-before : goal.returns-clause-before
returns-clause-before c = before_none _ _ refl
