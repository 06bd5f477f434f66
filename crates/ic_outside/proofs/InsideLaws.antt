-- The invariant of a reader of lines after each step.
use Rattle.std.proofs.Common.{◌≡◌, ℕ, ◌+◌, ◌<◌, ◌≤◌, Bool, List, ◌++◌, length, take, drop, Vec, Global, vec_len, None, sym, ap, subst, ◌∙◌, arith, length-append, length-drop, take_at}
use Rattle.std.proofs.lemmas.List.Elements.{All-nil}
use Rattle.ic_outside.specs.Limits.{excess}
use Rattle.ic_outside.specs.LinesInside.{reader_of, IsSound}
use Rattle.ic_outside.specs.Pieces.{HasNoLf}
use Rattle.ic_outside.specs.LineReader.{LineReader}
use Rattle.ic_outside.specs.Steps.{IsBlock}
use Rattle.ic_outside.specs.declared.lines.Lines.TheInside.{Inside}
use Rattle.ic_outside.proofs.LimitLaws.{excess-none}

-- a piece that fits was handed out
pub IsSound-handed_out : (l : Inside) (now : LineReader) (line piece : ℕ) (kept : List ℕ) → IsSound l → reader_of l ≡ now → line ≤ piece → 0 < piece
    → length now.kept ≤ piece + 65536 → excess now.limits now.offset line piece ≡ None → kept ≡ drop piece l.kept
    → IsSound (record l { kept = kept; searched = 0; offset = l.offset + piece; handed = l.handed + 1 })
IsSound-handed_out l now line piece kept sound is shorter some ahead fits is_kept =
    let inside : l.offset + piece ≤ l.largest_script =
    (excess-none (reader_of l).limits l.offset line piece (ap (λ r. excess r.limits r.offset line piece) is ∙ fits) shorter).1 in
    record {
      searched = omega arith;
      no_lf = All-nil (λ b. b ≡ 10 → ⊥);
      ahead = omega (arith, ap length is_kept, length-drop piece l.kept, ap (λ r. length r.kept) is);
      line_fits = omega arith;
      script_fits = omega arith;
      counted = omega (arith, sound.counted);
      script = sound.script;
      block = sound.block;
    }

-- what was kept was searched, and at most one block came after it
pub IsSound-filled : (l : Inside) (now : LineReader) (searched : ℕ) (read kept : List ℕ) (block : Vec ℕ Global) (ended : Bool) → IsSound l → reader_of l ≡ now
    → HasNoLf now.kept → excess now.limits now.offset (length now.kept) (length now.kept) ≡ None → searched ≡ length l.kept
    → kept ≡ l.kept ++ read → length read ≤ 65536 → IsBlock (vec_len block)
    → IsSound (record l { kept = kept; searched = searched; block = block; ended = ended })
IsSound-filled l now searched read kept block ended sound is none fits is_searched is_kept short is_block =
    let within = excess-none (reader_of l).limits l.offset (length l.kept) (length l.kept) (ap (λ r. excess r.limits r.offset (length r.kept) (length r.kept)) is ∙ fits) (omega arith) in
    let front : take searched kept ≡ now.kept = ap (take searched) is_kept ∙ take_at l.kept read searched (sym is_searched) ∙ ap (λ r. r.kept) is in
    let len : length kept ≡ length l.kept + length read = ap length is_kept ∙ length-append l.kept read in
    record {
      searched = omega (arith, is_searched, len);
      no_lf = subst HasNoLf (sym front) none;
      ahead = omega (arith, is_searched, len);
      line_fits = omega (arith, is_searched, within.0);
      script_fits = omega (arith, is_searched, within.1);
      counted = sound.counted;
      script = sound.script;
      block = is_block;
    }
