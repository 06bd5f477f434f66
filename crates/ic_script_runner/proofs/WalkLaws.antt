-- Laws of the way through a script.
use Rattle.std.proofs.Common.{◌≡◌, ℕ, suc, ◌+◌, ◌<◌, List, [], ◌∷◌, ◌++◌, length, refl, sym, ap, ◌∙◌, append_assoc, arith, Option, Some, None, Result, Ok, Err}
use Rattle.ic_outside.specs.Limits.{Limits, Excess, LongLine, LongScript, excess_of}
use Rattle.ic_outside.specs.Pieces.{line_of}
use Rattle.ic_script.specs.declared.LineCause.{LineCause}
use Rattle.ic_script.specs.declared.LineCause.TheVariants.{LineTooLong, ScriptTooLong}
use Rattle.ic_script_runner.specs.AfterLine.{after_line}
use Rattle.ic_behaviour.specs.State.{State}
use Rattle.ic_script_runner.specs.Walk.{Place, Bad, Walk, judge, judge_line, past_line, after_text, onward, walk}

-- a way that ends where it begins
abbrev pub stopped : Result State Bad → Walk
stopped last = record { text = []; last = last }

pub walk-nil : (limits : Limits) (at : Place) → walk limits at [] ≡ stopped (Ok at.state)
unfolding walk
walk-nil limits at = refl

pub walk-cons : (limits : Limits) (at : Place) (piece : List ℕ) (pieces : List (List ℕ))
    → walk limits at (piece ∷ pieces) ≡ onward (judge limits at piece (excess_of limits at.offset piece)) (λ state. walk limits (past_line at (length piece) state) pieces)
unfolding walk
walk-cons limits at piece pieces = refl

-- through a good line
pub walk-good : (limits : Limits) (at : Place) (piece line text : List ℕ) (pieces : List (List ℕ)) (state : State)
    → excess_of limits at.offset piece ≡ None → line_of piece ≡ line → after_line at.options at.state line ≡ Ok (state, text)
    → walk limits at (piece ∷ pieces) ≡ after_text text (walk limits (past_line at (length piece) state) pieces)
walk-good limits at piece line text pieces state fits is_line done =
    let judged = ap (judge limits at piece) fits ∙ ap (λ l. judge_line at (length piece) (after_line at.options at.state l)) is_line ∙ ap (judge_line at (length piece)) done in
    walk-cons limits at piece pieces ∙ ap (λ j. onward j (λ s. walk limits (past_line at (length piece) s) pieces)) judged

-- to a bad line
pub walk-bad : (limits : Limits) (at : Place) (piece line : List ℕ) (pieces : List (List ℕ)) (cause : LineCause)
    → excess_of limits at.offset piece ≡ None → line_of piece ≡ line → after_line at.options at.state line ≡ Err cause
    → walk limits at (piece ∷ pieces) ≡ stopped (Err (record { line = at.number; cause = cause; stop = at.offset + length piece }))
walk-bad limits at piece line pieces cause fits is_line bad =
    let judged = ap (judge limits at piece) fits ∙ ap (λ l. judge_line at (length piece) (after_line at.options at.state l)) is_line ∙ ap (judge_line at (length piece)) bad in
    walk-cons limits at piece pieces ∙ ap (λ j. onward j (λ s. walk limits (past_line at (length piece) s) pieces)) judged

-- to a line that passes a limit
pub walk-excess : (limits : Limits) (at : Place) (piece : List ℕ) (pieces : List (List ℕ)) (excess : Excess) (bad : Bad)
    → excess_of limits at.offset piece ≡ Some excess → judge limits at piece (Some excess) ≡ Err bad
    → walk limits at (piece ∷ pieces) ≡ stopped (Err bad)
walk-excess limits at piece pieces excess bad passed judged =
    walk-cons limits at piece pieces ∙ ap (λ j. onward j (λ s. walk limits (past_line at (length piece) s) pieces)) (ap (judge limits at piece) passed ∙ judged)

-- two texts before a way
pub after_text-twice : (first second : List ℕ) (way : Walk) → after_text first (after_text second way) ≡ after_text (first ++ second) way
after_text-twice first second way = ap (λ text. record { text = text; last = way.last }) (sym (append_assoc first second way.text))

judge_line-bad : (at : Place) (size : ℕ) (said : Result (State × List ℕ) LineCause) (bad : Bad) → judge_line at size said ≡ Err bad → bad.line ≡ at.number
judge_line-bad at size (Ok done) bad e = cc
judge_line-bad at size (Err cause) bad e =
    let it : Bad = record { line = at.number; cause = cause; stop = at.offset + size } in
    let same : it ≡ bad = cc in sym (ap (λ (b : Bad). b.line) same)

judge-bad : (limits : Limits) (at : Place) (piece : List ℕ) (excess : Option Excess) (bad : Bad) → judge limits at piece excess ≡ Err bad → bad.line ≡ at.number
judge-bad limits at piece None bad e = judge_line-bad at (length piece) (after_line at.options at.state (line_of piece)) bad e
judge-bad limits at piece (Some LongLine) bad e =
    let it : Bad = record { line = at.number; cause = LineTooLong; stop = at.offset + limits.line + 1 } in
    let same : it ≡ bad = cc in sym (ap (λ (b : Bad). b.line) same)
judge-bad limits at piece (Some LongScript) bad e =
    let it : Bad = record { line = at.number; cause = ScriptTooLong; stop = limits.script + 1 } in
    let same : it ≡ bad = cc in sym (ap (λ (b : Bad). b.line) same)

onward-line : (number count : ℕ) (judged : Result (State × List ℕ) Bad) (rest : State → Walk) (bad : Bad)
    → ((b : Bad) → judged ≡ Err b → b.line ≡ number) → ((state : State) → (rest state).last ≡ Err bad → bad.line < number + 1 + count)
    → (onward judged rest).last ≡ Err bad → bad.line < number + suc count
onward-line number count (Ok done) rest bad here there e = omega (arith, there done.0 e)
onward-line number count (Err b) rest bad here there e =
    let same : b ≡ bad = cc in omega (arith, here b refl, ap (λ (x : Bad). x.line) same)

-- a bad line is one of the lines of the way
pub walk-line : (limits : Limits) (at : Place) (pieces : List (List ℕ)) (bad : Bad) → (walk limits at pieces).last ≡ Err bad
    → bad.line < at.number + length pieces
walk-line limits at [] bad e =
    let last = ap (λ (w : Walk). w.last) (walk-nil limits at) in cc
walk-line limits at (piece ∷ pieces) bad e =
    let judged = judge limits at piece (excess_of limits at.offset piece) in
    let rest = λ (state : State). walk limits (past_line at (length piece) state) pieces in
    let last : (onward judged rest).last ≡ Err bad = sym (ap (λ (w : Walk). w.last) (walk-cons limits at piece pieces)) ∙ e in
    onward-line at.number (length pieces) judged rest bad
    (λ b. judge-bad limits at piece (excess_of limits at.offset piece) b)
    (λ state h. walk-line limits (past_line at (length piece) state) pieces bad h) last
