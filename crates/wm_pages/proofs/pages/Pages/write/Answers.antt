use Rattle.std.proofs.Common.{◌≡◌, ◌++◌, take, drop, arith, ◌∙◌, ap, length}
use Rattle.std.proofs.lemmas.List.{take_at}
use Rattle.wm_pages.specs.Paged.{Paged}
use Rattle.wm_pages.specs.Over.{over}
use Rattle.wm_pages.proofs.Steps.{before_written}
use Rattle.wm_pages.proofs.pages.Pages.write.Goals as goal

pub returns-clause-before : goal.returns-clause-before
returns-clause-before c =
    let inside = c.self.inside.bytes in
    let same : length c.paste.new.bytes ≡ inside.len = omega (arith, c.paste.auto.bytes, c.as_mut_slice.ensures.len) in
    let now : take inside.len (c.paste.new.bytes ++ drop (length c.paste.new.bytes) inside.items) ≡ over c.args.at c.args.source.now inside.items =
    take_at c.paste.new.bytes (drop (length c.paste.new.bytes) inside.items) inside.len same ∙ c.paste.ensures ∙ ap (over c.args.at c.args.source.now) c.as_mut_slice.ensures.value in
    let sound = rw c.as_slice.ensures.value at c.in_ok-save.ensures.sound in
    let kept = rw c.as_slice.ensures.value at c.in_ok-save.ensures.before in
    rw now (before_written c.save.new.self c.args.at c.args.source.now inside.items sound (omega (arith, c.requires, ap (λ (p : Paged). length p.bytes) c.self.view_is)) c.in_ok-save.ensures.covered ∙ kept ∙ ap (λ (p : Paged). p.before) c.self.view_is)
