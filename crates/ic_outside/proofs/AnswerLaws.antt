-- What the steps of reading a line answer.
use Rattle.std.proofs.Common.{◌≡◌, ℕ, ◌+◌, ◌<◌, ◌≤◌, inl, inr, IsTrue, List, [], ◌∷◌, ◌++◌, length, take, drop, Option, Some, None, Err, refl, sym, ap, subst, ◌∙◌, arith, append_assoc, append-nil, take_all, take_at, drop_at, length-append}
use Rattle.std.proofs.lemmas.List.{drop_all}
use Rattle.std.proofs.lemmas.Bool.Decides.{nat_tests}
use Rattle.std.proofs.Math.Nat.{eq-or-lt_of_le}
use Rattle.ic_outside.specs.Limits.{Limits, Excess, LongLine, LongScript, excess, excess_of}
use Rattle.ic_outside.specs.Pieces.{HasNoLf, pieces, line_of}
use Rattle.ic_outside.specs.LineReader.{LineReader}
use Rattle.ic_outside.specs.Reads.{HandsOut, AnswersBySeen}
use Rattle.ic_outside.specs.Steps.{BeginsWithLine, fault_of, IsFaultOf, IsNear, handed_out}
use Rattle.ic_outside.specs.declared.lines.Line.{Line}
use Rattle.ic_outside.specs.declared.error.LineFault.{LineFault}
use Rattle.ic_outside.proofs.LimitLaws.{excess-more}
use Rattle.ic_outside.proofs.PieceLaws.{pieces-line, pieces-begun, line_of-line, line_of-rest, line_of-append}

-- a piece of an LF and the line before it is read as that line
excess_of-line : (limits : Limits) (offset : ℕ) (line : List ℕ) (n : ℕ) → HasNoLf line → length line ≡ n
    → excess_of limits offset (line ++ 10 ∷ []) ≡ excess limits offset n (n + 1)
excess_of-line limits offset line n none len =
    let is_line : length (line_of (line ++ 10 ∷ [])) ≡ n = ap length (line_of-line line none) ∙ len in
    let is_piece : length (line ++ 10 ∷ []) ≡ n + 1 = omega (arith, length-append line (10 ∷ [])) in
    ap (λ l. excess limits offset l (length (line ++ 10 ∷ []))) is_line ∙ ap (λ p. excess limits offset n p) is_piece

-- a whole line that fits is handed out
pub HandsOut-line : (old : LineReader) (n : ℕ) (line : Line) (new : LineReader) → BeginsWithLine old.kept n → length old.kept ≤ n + 65536
    → excess old.limits old.offset n (n + 1) ≡ None → line.number ≡ old.handed + 1 → line.bytes ≡ take n old.kept
    → new ≡ handed_out old (n + 1) → HandsOut old old.kept line new
HandsOut-line old n line new begins ahead fits number bytes is_new =
    let piece = begins.line ++ 10 ∷ [] in
    let split : old.kept ≡ piece ++ begins.rest = begins.whole ∙ sym (append_assoc begins.line (10 ∷ []) begins.rest) in
    let len : length piece ≡ n + 1 = omega (arith, begins.len, length-append begins.line (10 ∷ [])) in
    let is_bytes : line.bytes ≡ begins.line = bytes ∙ ap (take n) begins.whole ∙ take_at begins.line (10 ∷ begins.rest) n begins.len in
    let is_kept : new.kept ≡ begins.rest = ap (λ r. r.kept) is_new ∙ ap (drop (n + 1)) split ∙ drop_at piece begins.rest (n + 1) len in
    record {
      piece = piece;
      front = split ∙ ap (λ l. piece ++ l) (sym is_kept);
      cut = inl (ap (λ l. l ++ 10 ∷ []) (sym is_bytes));
      one_line = subst HasNoLf (sym is_bytes) begins.one_line;
      fits = excess_of-line old.limits old.offset begins.line n begins.one_line begins.len ∙ fits;
      number = number;
      limits = ap (λ r. r.limits) is_new;
      offset = ap (λ r. r.offset) is_new ∙ ap (λ k. old.offset + k) (sym len);
      handed = ap (λ r. r.handed) is_new;
      fault = ap (λ r. r.fault) is_new;
      still = λ h. subst IsTrue (sym (ap (λ r. r.ended) is_new)) h;
      ahead = omega (arith, ap length split, length-append piece begins.rest, ap length is_kept);
    }

-- the last line, which lacks its LF
pub HandsOut-rest : (old : LineReader) (line : Line) (new : LineReader) → HasNoLf old.kept → 0 < length old.kept → IsTrue old.ended
    → excess old.limits old.offset (length old.kept) (length old.kept) ≡ None → line.number ≡ old.handed + 1
    → line.bytes ≡ take (length old.kept) old.kept → new ≡ handed_out old (length old.kept) → HandsOut old old.kept line new
HandsOut-rest old line new none some ended fits number bytes is_new =
    let is_bytes : line.bytes ≡ old.kept = bytes ∙ take_all (length old.kept) old.kept (omega arith) in
    let is_kept : new.kept ≡ [] = ap (λ r. r.kept) is_new ∙ drop_all (length old.kept) old.kept (omega arith) in
    let still : IsTrue new.ended = subst IsTrue (sym (ap (λ r. r.ended) is_new)) ended in
    record {
      piece = old.kept;
      front = sym (append-nil old.kept) ∙ ap (λ l. old.kept ++ l) (sym is_kept);
      cut = inr (sym is_bytes, some, still, is_kept);
      one_line = subst HasNoLf (sym is_bytes) none;
      fits = ap (λ l. excess old.limits old.offset (length l) (length old.kept)) (line_of-rest old.kept none) ∙ fits;
      number = number;
      limits = ap (λ r. r.limits) is_new;
      offset = ap (λ r. r.offset) is_new;
      handed = ap (λ r. r.handed) is_new;
      fault = ap (λ r. r.fault) is_new;
      still = λ _. still;
      ahead = omega (arith, ap length is_kept);
    }

-- a fault of a limit that the first piece of what is kept passes, whatever follows
AnswersBySeen-passed : (old : LineReader) (fault : LineFault) (left : Option (List ℕ)) (new : LineReader) → IsNear old → (limit : Excess)
    → fault ≡ fault_of limit (old.handed + 1)
    → ((more : List ℕ) → (piece : List ℕ) × (rest : List (List ℕ)) × (pieces (old.kept ++ more) ≡ piece ∷ rest) × (excess_of old.limits old.offset piece ≡ Some limit))
    → AnswersBySeen old old.kept left (Err fault) new
AnswersBySeen-passed old fault left new near LongLine is passes =
    subst (λ f. AnswersBySeen old old.kept left (Err f) new) (sym is) (record { passes = passes; number = refl }, near.line)
AnswersBySeen-passed old fault left new near LongScript is passes =
    subst (λ f. AnswersBySeen old old.kept left (Err f) new) (sym is) (record { passes = passes; number = refl }, near.script)

-- the whole line that is kept first passes a limit
pub AnswersBySeen-line : (old : LineReader) (n : ℕ) (fault : LineFault) (left : Option (List ℕ)) (new : LineReader) → BeginsWithLine old.kept n → IsNear old
    → IsFaultOf (excess old.limits old.offset n (n + 1)) (old.handed + 1) fault → AnswersBySeen old old.kept left (Err fault) new
AnswersBySeen-line old n fault left new begins near passed =
    AnswersBySeen-passed old fault left new near passed.0 passed.2 (λ more. (
      begins.line ++ 10 ∷ [],
      pieces (begins.rest ++ more),
      ap (λ l. pieces (l ++ more)) begins.whole ∙ ap pieces (append_assoc begins.line (10 ∷ begins.rest) more) ∙ pieces-line begins.line (begins.rest ++ more) begins.one_line,
      excess_of-line old.limits old.offset begins.line n begins.one_line begins.len ∙ passed.1,
    ))

-- nothing passes no limit
excess-nothing : (limits : Limits) (offset : ℕ) (limit : Excess) → offset ≤ limits.script → excess limits offset 0 0 ≡ Some limit → ⊥
unfolding excess
excess-nothing limits offset limit inside passed = grind (arith, nat_tests)

-- what is kept is the front of a line that passes a limit
pub AnswersBySeen-begun : (old : LineReader) (fault : LineFault) (left : Option (List ℕ)) (new : LineReader) → HasNoLf old.kept → IsNear old
    → IsFaultOf (excess old.limits old.offset (length old.kept) (length old.kept)) (old.handed + 1) fault → AnswersBySeen old old.kept left (Err fault) new
AnswersBySeen-begun old fault left new none near passed =
    let some : 0 < length old.kept =
    elim (eq-or-lt_of_le (omega arith)) [
      | inl zero ↦ absurd (excess-nothing old.limits old.offset passed.0 near.inside (ap (λ n. excess old.limits old.offset n n) zero ∙ passed.1))
      | inr lt ↦ lt
    ] in
    AnswersBySeen-passed old fault left new near passed.0 passed.2 (λ more.
    let first = pieces-begun old.kept more none some in
    let is_line : length (line_of (old.kept ++ first.0)) ≡ length old.kept + length (line_of first.0) =
    ap length (line_of-append old.kept first.0 none) ∙ length-append old.kept (line_of first.0) in
    let wide = length-append old.kept first.0 in
    (old.kept ++ first.0, first.1, first.2, excess-more old.limits old.offset (length old.kept) _ _ passed.0 passed.1 (omega (arith, is_line)) (omega (arith, wide))))
