-- Where a run is in its script: what is printed so far, and the way from here, are the way
-- through the whole script, whatever bytes still come.
use Rattle.std.proofs.Common.{◌≡◌, ℕ, ◌+◌, ◌<◌, IsTrue, Bool, true, false, List, [], ◌∷◌, ◌++◌, length, refl, sym, ap, subst, ◌∙◌, append_assoc, append-nil, inl, inr, None, Ok, Err}
use Rattle.std.specs.Prelude.{◌⊎◌}
use Rattle.std.proofs.lemmas.Bool.{cases_Bool}
use Rattle.ic_outside.specs.Limits.{script_limits, excess_of}
use Rattle.ic_outside.specs.Pieces.{HasNoLf, pieces, line_of}
use Rattle.ic_outside.proofs.PieceLaws.{pieces-line, pieces-rest, line_of-line, line_of-rest}
use Rattle.ic_script.specs.declared.LineCause.{LineCause}
use Rattle.ic_options.specs.declared.Options.{Options}
use Rattle.ic_script_runner.specs.AfterLine.{after_line}
use Rattle.ic_script_runner.specs.Body.{whole_lines}
use Rattle.ic_behaviour.specs.State.{State}
use Rattle.ic_script_runner.specs.Walk.{Place, start, past_line, after_text, walk}
use Rattle.ic_script_runner.proofs.BodyLaws.{whole_lines-line}
use Rattle.ic_script_runner.proofs.WalkLaws.{stopped, walk-good, walk-bad, after_text-twice}

pub record Follows (options : Options) (handed printed : List ℕ) (at : Place) (kept : List ℕ) (ended : Bool) : Type 0 where
  pub all : (more : List ℕ) → (IsTrue ended → more ≡ [])
      → walk script_limits (start options) (pieces (handed ++ (kept ++ more))) ≡ after_text printed (walk script_limits at (pieces (kept ++ more)))
  pub whole : ended ≡ false → (more : List ℕ)
      → walk script_limits (start options) (whole_lines (pieces (handed ++ (kept ++ more)))) ≡ after_text printed (walk script_limits at (whole_lines (pieces (kept ++ more))))

-- how a piece is cut off the bytes that were seen
abbrev pub IsCut : List ℕ → List ℕ → List ℕ → Bool → Type 0
IsCut piece line rest ended = (piece ≡ line ++ 10 ∷ []) ⊎ ((piece ≡ line) × (0 < length piece) × IsTrue ended × (rest ≡ []))

pieces-nil : pieces [] ≡ []
unfolding pieces
pieces-nil = refl

-- a piece is the first of what was seen and what still comes
pub pieces-cut : (piece line rest more : List ℕ) (ended : Bool) → IsCut piece line rest ended → HasNoLf line → (IsTrue ended → more ≡ [])
    → pieces (piece ++ (rest ++ more)) ≡ piece ∷ pieces (rest ++ more)
pieces-cut piece line rest more ended (inl is) none over =
    let P = λ (p : List ℕ). pieces (p ++ (rest ++ more)) ≡ p ∷ pieces (rest ++ more) in
    subst P (sym is) (ap pieces (append_assoc line (10 ∷ []) (rest ++ more)) ∙ pieces-line line (rest ++ more) none)
pieces-cut piece line rest more ended (inr last) none over =
    let nothing : rest ++ more ≡ [] = ap (λ l. l ++ more) last.3 ∙ over last.2 in
    let P = λ (l : List ℕ). pieces (piece ++ l) ≡ piece ∷ pieces l in
    let lacks : HasNoLf piece = subst HasNoLf (sym last.0) none in
    subst P (sym nothing) (ap pieces (append-nil piece) ∙ pieces-rest piece lacks last.1 ∙ ap (λ l. piece ∷ l) (sym pieces-nil))

-- the line of a piece
pub line_of-cut : (piece line rest : List ℕ) (ended : Bool) → IsCut piece line rest ended → HasNoLf line → line_of piece ≡ line
line_of-cut piece line rest ended (inl is) none = ap line_of is ∙ line_of-line line none
line_of-cut piece line rest ended (inr last) none = ap line_of last.0 ∙ line_of-rest line none

regroup : (handed kept read piece rest more : List ℕ) → kept ++ read ≡ piece ++ rest
    → handed ++ (kept ++ (read ++ more)) ≡ (handed ++ piece) ++ (rest ++ more)
regroup handed kept read piece rest more seen =
    ap (λ l. handed ++ l) (sym (append_assoc kept read more) ∙ ap (λ l. l ++ more) seen ∙ append_assoc piece rest more)
    ∙ sym (append_assoc handed piece (rest ++ more))

regroup_seen : (kept read piece rest more : List ℕ) → kept ++ read ≡ piece ++ rest → kept ++ (read ++ more) ≡ piece ++ (rest ++ more)
regroup_seen kept read piece rest more seen =
    sym (append_assoc kept read more) ∙ ap (λ l. l ++ more) seen ∙ append_assoc piece rest more

false-from : (first second : Bool) → (IsTrue first → IsTrue second) → second ≡ false → first ≡ false
false-from first second still unended = elim (cases_Bool first) [ inl t ↦ let s : second ≡ true = still t in cc | inr f ↦ f ]

module _ (options : Options) (handed printed : List ℕ) (at : Place) (kept : List ℕ) (ended : Bool) (so_far : Follows options handed printed at kept ended)
    (read piece line rest : List ℕ) (new_ended : Bool) (seen : kept ++ read ≡ piece ++ rest) (over : IsTrue ended → read ≡ [])
    (still : IsTrue ended → IsTrue new_ended) (cut : IsCut piece line rest new_ended) (none : HasNoLf line) where
  -- the way before the next piece
  before_piece : (more : List ℕ) → (IsTrue new_ended → more ≡ [])
      → walk script_limits (start options) (pieces ((handed ++ piece) ++ (rest ++ more))) ≡ after_text printed (walk script_limits at (piece ∷ pieces (rest ++ more)))
  before_piece more last =
      let nothing : IsTrue ended → read ++ more ≡ [] = λ e. ap (λ l. l ++ more) (over e) ∙ last (still e) in
      ap (λ l. walk script_limits (start options) (pieces l)) (sym (regroup handed kept read piece rest more seen))
      ∙ so_far.all (read ++ more) nothing
      ∙ ap (λ l. after_text printed (walk script_limits at (pieces l))) (regroup_seen kept read piece rest more seen)
      ∙ ap (λ l. after_text printed (walk script_limits at l)) (pieces-cut piece line rest more new_ended cut none last)

  is_line : line_of piece ≡ line
  is_line = line_of-cut piece line rest new_ended cut none

  -- a good line
  pub Follows-good : (text : List ℕ) (state : State) → excess_of script_limits at.offset piece ≡ None → after_line at.options at.state line ≡ Ok (state, text)
      → Follows options (handed ++ piece) (printed ++ text) (past_line at (length piece) state) rest new_ended
  Follows-good text state fits done =
      let next = past_line at (length piece) state in
      let good = λ (ps : List (List ℕ)).
      ap (after_text printed) (walk-good script_limits at piece line text ps state fits is_line done) ∙ after_text-twice printed text (walk script_limits next ps) in
      record {
        all = λ more last. before_piece more last ∙ good (pieces (rest ++ more));
        whole = λ unended more.
            let lf : piece ≡ line ++ 10 ∷ [] = elim cut [ inl is ↦ is | inr ends ↦ let t : new_ended ≡ true = ends.2 in cc ] in
            let first : pieces (piece ++ (rest ++ more)) ≡ piece ∷ pieces (rest ++ more) = pieces-cut piece line rest more new_ended cut none (λ t. let e : new_ended ≡ true = t in cc) in
            let whole : whole_lines (piece ∷ pieces (rest ++ more)) ≡ piece ∷ whole_lines (pieces (rest ++ more)) =
            ap (λ p. whole_lines (p ∷ pieces (rest ++ more))) lf ∙ whole_lines-line line (pieces (rest ++ more)) ∙ ap (λ p. p ∷ whole_lines (pieces (rest ++ more))) (sym lf) in
            ap (λ l. walk script_limits (start options) (whole_lines (pieces l))) (sym (regroup handed kept read piece rest more seen))
            ∙ so_far.whole (false-from ended new_ended still unended) (read ++ more)
            ∙ ap (λ l. after_text printed (walk script_limits at (whole_lines (pieces l)))) (regroup_seen kept read piece rest more seen)
            ∙ ap (λ l. after_text printed (walk script_limits at (whole_lines l))) first
            ∙ ap (λ l. after_text printed (walk script_limits at l)) whole
            ∙ good (whole_lines (pieces (rest ++ more)));
      }

  -- a bad line
  pub Follows-bad : (cause : LineCause) (more : List ℕ) → (IsTrue new_ended → more ≡ []) → excess_of script_limits at.offset piece ≡ None → after_line at.options at.state line ≡ Err cause
      → walk script_limits (start options) (pieces ((handed ++ piece) ++ (rest ++ more))) ≡ after_text printed (stopped (Err (record { line = at.number; cause = cause; stop = at.offset + length piece })))
  Follows-bad cause more last fits bad =
      before_piece more last ∙ ap (after_text printed) (walk-bad script_limits at piece line (pieces (rest ++ more)) cause fits is_line bad)
