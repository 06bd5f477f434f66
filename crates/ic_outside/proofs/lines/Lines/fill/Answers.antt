use Rattle.std.proofs.Common.{◌≡◌, ℕ, ◌<◌, ◌≤◌, List, [], ◌++◌, length, take, ap, sym, subst, ◌∙◌, append-nil, length-take, false, arith}
use Rattle.ic_outside.specs.LinesInside.{IsSound, reader_of}
use Rattle.std.specs.Io.KnownBytes.{prepend_known}
use Rattle.ic_outside.specs.LineReader.{LineReader}
use Rattle.ic_outside.specs.Steps.{Filled}
use Rattle.ic_outside.proofs.Seen.{not_both}
use Rattle.ic_outside.proofs.InsideLaws.{IsSound-filled}
use Rattle.ic_outside.proofs.lines.Lines.fill.Goals as goal
use Rattle.ic_outside.proofs.lines.Lines.fill.Goals.{in-Ok-push, in-Err-push}

pub invariant_of-self : goal.invariant_of-self
invariant_of-self g c =
    let l = c.self.inside in
    IsSound-filled l c.args.self.now _ [] l.kept _ _ c.self.invariant c.self.view_is c.requires.one_line c.requires.fits
    (ap length c.as_slice.ensures) (sym (append-nil l.kept)) (omega arith) c.read_block.ensures.block

pub invariant_of-self-in-Err : goal.invariant_of-self-in-Err
invariant_of-self-in-Err g c =
    let l = c.self.inside in
    IsSound-filled l c.args.self.now _ [] l.kept _ _ c.self.invariant c.self.view_is c.requires.one_line c.requires.fits
    (ap length c.as_slice.ensures) (sym (append-nil l.kept)) (omega arith) c.read_block.ensures.block

pub invariant_of-self-in-Ok : goal.invariant_of-self-in-Ok
invariant_of-self-in-Ok g c =
    let l = c.self.inside in
    let sound : (read : List ℕ) → c.push.new.self ≡ l.kept ++ read → length read ≤ 65536 → IsSound (record l { kept = c.push.new.self; searched = length c.as_slice.result.now; block = c.read_block.new.block }) =
    λ read is short. IsSound-filled l c.args.self.now _ read c.push.new.self _ l.ended c.self.invariant c.self.view_is c.requires.one_line c.requires.fits
    (ap length c.as_slice.ensures) is short c.read_block.ensures.block in
    let bytes = take c.in-Ok.count c.deref.result.now in
    let short : length bytes ≤ 65536 = omega (arith, length-take c.in-Ok.count c.deref.result.now, c.deref.ensures.len, c.read_block.ensures.asked) in
    elim c.match-push.branch [
      | in-Ok-push w ↦ sound bytes w.in-Ok-push.ensures.ok short
      | in-Err-push w ↦ sound [] (w.in-Err-push.ensures.err ∙ sym (append-nil l.kept)) (omega arith)
    ]

pub returns-after-push-clause-filled : goal.returns-after-push-clause-filled
returns-after-push-clause-filled g c =
    let l = c.self.inside in
    let bytes = take c.in-Ok.count c.deref.result.now in
    let going : l.ended ≡ false = ap (λ r. r.ended) c.self.view_is ∙ c.requires.going in
    let some : 0 < length bytes = omega (arith, length-take c.in-Ok.count c.deref.result.now, c.deref.ensures.len, c.in-Ok.ensures.bound, c.in-Ok.count-test.1) in
    let is_read : bytes ≡ take c.in-Ok.count c.read_block.new.block.items = ap (take c.in-Ok.count) c.deref.ensures.value in
    let before = g.S.Source.left c.args.source.now in
    let after = g.S.Source.left c.read_block.new.source in
    let new = record (reader_of l) { kept = c.push.new.self } in
    let F : LineReader → Type 0 = λ old. Filled old before after (g.S.Source.ended c.read_block.new.source) new in
    let filled : c.push.new.self ≡ l.kept ++ bytes → F c.args.self.now = λ is_kept. subst F c.self.view_is (record {
      read = bytes;
      ended = l.ended;
      taken = c.in-Ok.ensures.taken ∙ ap (λ b. prepend_known b after) (sym is_read);
      reader = ap (λ k. record (reader_of l) { kept = k }) is_kept;
      size = omega (arith, length-take c.in-Ok.count c.deref.result.now, c.deref.ensures.len, c.read_block.ensures.asked);
      some = λ _. some;
      at_end = λ h. absurd (not_both l.ended h going);
    }) in
    elim c.match-push.branch [
      | in-Ok-push w ↦ rw w.result-is (filled w.in-Ok-push.ensures.ok)
      | in-Err-push w ↦ rw w.result-is tt
    ]
