use Rattle.std.proofs.Common.{◌≡◌, ℕ, ◌+◌, ◌-◌, ◌<◌, List, length, take, drop, Some, None, length-drop, ap, subst, ◌∙◌, arith}
use Rattle.std.proofs.lemmas.List.{take_rest}
use Rattle.memchr.specs.Find.{IsFirstByte, is_byte}
use Rattle.ic_outside.specs.Pieces.{HasNoLf}
use Rattle.ic_outside.specs.Steps.{BeginsWithLine}
use Rattle.ic_outside.proofs.ScanLaws.{line_found, no_line}
use Rattle.ic_outside.proofs.lines.Lines.whole_line.Goals as goal

-- what was searched is what is kept after the bytes that were searched before
searched : (slice kept : List ℕ) (s : ℕ) → slice ≡ kept → take (length slice - s) (drop s slice) ≡ drop s kept
searched slice kept s is = take_rest slice s ∙ ap (drop s) is

pub returns-in-Some : goal.returns-in-Some
returns-in-Some c =
    let l = c.self.inside in
    let sound = c.self.invariant in
    let hay = searched c.as_slice.result.now l.kept l.searched c.as_slice.ensures in
    let found = subst (λ h. IsFirstByte (is_byte 10) h (Some c.in-Some.n)) hay c.in-Some.ensures in
    let begins : BeginsWithLine l.kept (l.searched + c.in-Some.n) =
    line_found l.kept l.searched c.in-Some.n sound.no_lf (λ k lt. found.0.before k (omega arith) lt) found.0.high found.1 in
    let inside : l.searched + c.in-Some.n < length l.kept = omega (arith, length-drop l.searched l.kept, found.0.high) in
    rw (← c.self.view_is) (begins, omega (arith, sound.ahead), omega (arith, c.as_slice.type_inv.0, ap length c.as_slice.ensures))

pub returns-in-None : goal.returns-in-None
returns-in-None c =
    let l = c.self.inside in
    let sound = c.self.invariant in
    let hay = searched c.as_slice.result.now l.kept l.searched c.as_slice.ensures in
    let none = subst (λ h. IsFirstByte (is_byte 10) h None) hay c.in-None.ensures in
    let no_lf : HasNoLf l.kept = no_line l.kept l.searched sound.searched sound.no_lf (λ k lt. none k (omega arith) lt) in
    subst (λ r. HasNoLf r.kept) c.self.view_is no_lf
