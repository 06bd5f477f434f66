-- The loop of a run: what holds before each line, and how each answer of the reader goes on from there.
use Rattle.std.proofs.Common.{◌≡◌, ℕ, ◌+◌, ◌<◌, ◌≤◌, IsTrue, false, List, [], ◌∷◌, ◌++◌, length, refl, sym, ap, subst, ◌∙◌, append_assoc, append-nil, length-append, take_at, arith, inl, inr, Option, Some, None, Ok, Err}
use Rattle.std.specs.Prelude.{◌⊎◌}
use Rattle.std.specs.Io.KnownBytes.{prepend_known, IsAtEnd}
use Rattle.std.proofs.lemmas.List.Elements.{All-take}
use Rattle.ic_outside.specs.Limits.{Limits, script_limits, Excess, LongLine, LongScript, excess, excess_of}
use Rattle.ic_outside.specs.Pieces.{HasNoLf, pieces, line_of}
use Rattle.ic_outside.specs.LineReader.{LineReader}
use Rattle.ic_outside.specs.Reads.{HandsOut, Exceeds, AnswersBySeen}
use Rattle.ic_outside.specs.declared.Line.{Line}
use Rattle.ic_outside.specs.declared.LineFault.{LineFault}
use Rattle.ic_outside.specs.declared.LineFault.TheVariants as fault
use Rattle.ic_outside.proofs.KnownLaws.{prepend_known-append}
use Rattle.ic_outside.proofs.LimitLaws.{excess-none}
use Rattle.ic_script.specs.declared.LineCause.{LineCause}
use Rattle.ic_script.specs.declared.LineCause.TheVariants.{LineTooLong, ScriptTooLong}
use Rattle.ic_options.specs.declared.Options.{Options}
use Rattle.ic_script_runner.specs.declared.status.Status.{Status}
use Rattle.ic_script_runner.specs.declared.status.Status.TheVariants.{Done, BadLine, ReadFault}
use Rattle.ic_script_runner.specs.Acts.{Concludes, DoesAndGathers, Stops, bad_output, end_output, after_gathered}
use Rattle.ic_script_runner.specs.AfterLine.{after_line}
use Rattle.ic_script_runner.specs.Body.{body, whole_lines}
use Rattle.ic_script_runner.specs.EndPart.{end_part}
use Rattle.ic_script_runner.specs.Explained.{Explained, generated_by, rest_of}
use Rattle.ic_options.specs.Options.{options_of}
use Rattle.ic_script_runner.specs.Out.{Output, out}
use Rattle.ic_script_runner.specs.Script.{walk_of}
use Rattle.ic_script_runner.specs.Sending.{Taken, Sent, Interrupts, Gathers}
use Rattle.ic_behaviour.specs.State.{State}
use Rattle.ic_behaviour.specs.Submitted.{empty}
use Rattle.ic_script_runner.specs.Walk.{Place, Bad, Walk, start, past_line, after_text, walk, judge}
use Rattle.ic_script_runner.proofs.Exits.{explain-sent, explain-interrupted, explain-concludes, none_generated, of_read, out-stopped, out-front, body-accepted, explains-bad}
use Rattle.ic_script_runner.proofs.Follows.{Follows, Follows-good, Follows-bad}
use Rattle.ic_script_runner.proofs.BodyLaws.{whole_lines-none}
use Rattle.ic_script_runner.proofs.PieceBounds.{length-pieces, length-line_of, excess-long_line, excess-long_script}
use Rattle.ic_script_runner.proofs.SendLaws.{Sent-append, Interrupts-after, Interrupts-more, Concludes-after}
use Rattle.ic_script_runner.proofs.WalkLaws.{stopped, walk-nil, walk-excess}

no_lf-front : (bytes more : List ℕ) → HasNoLf (bytes ++ more) → HasNoLf bytes
no_lf-front bytes more none = subst HasNoLf (take_at bytes more (length bytes) refl) (All-take (λ b. b ≡ 10 → ⊥) (length bytes) (bytes ++ more) none)

-- where the reader stands
abbrev pub place_of : Options → State → LineReader → Place
place_of options state reader = record { options = options; state = state; number = reader.handed + 1; offset = reader.offset }

-- before each line
pub record Runs (options : Options) (left_before left : Option (List ℕ)) (before now : Taken) (state : State) (reader : LineReader) (pending : List ℕ) : Type 0 where
  pub handed : List ℕ
  pub printed : List ℕ
  pub was_read : left_before ≡ prepend_known (handed ++ reader.kept) left
  -- what was sent of it; the rest is gathered
  pub front : List ℕ
  pub sent : Sent before now front
  pub parts : printed ≡ front ++ pending
  pub follows : Follows options handed printed (place_of options state reader) reader.kept reader.ended
  pub offset : reader.offset ≡ length handed
  pub limits : reader.limits ≡ script_limits
  pub fault : reader.fault ≡ None
  pub at_end : IsTrue reader.ended → IsAtEnd left

pub prepend_known-nil : (known : Option (List ℕ)) → prepend_known [] known ≡ known
prepend_known-nil None = refl
prepend_known-nil (Some bytes) = refl

-- a source at its end has nothing left
rest_of-end : (left : Option (List ℕ)) → IsAtEnd left → rest_of left ≡ []
rest_of-end None end = refl
rest_of-end (Some bytes) end = end

pieces-nil : pieces [] ≡ []
unfolding pieces
pieces-nil = refl

-- nothing was read from a source at its end
at_end-kept : (left_before left : Option (List ℕ)) (read : List ℕ) → left_before ≡ prepend_known read left → read ≡ [] → IsAtEnd left_before → IsAtEnd left
at_end-kept left_before left read taken none end =
    subst IsAtEnd (taken ∙ ap (λ l. prepend_known l left) none ∙ prepend_known-nil left) end

-- before the next line some was sent
pub Runs-ready : {T : Type 0} (u : T) (options : Options) (left_before left : Option (List ℕ)) (before now after : Taken) (state : State) (reader : LineReader) (pending left_over : List ℕ)
    → Runs options left_before left before now state reader pending → Gathers now after pending [] left_over (Ok u)
    → Runs options left_before left before after state reader left_over
Runs-ready u options left_before left before now after state reader pending left_over runs some = record {
  handed = runs.handed;
  printed = runs.printed;
  was_read = runs.was_read;
  front = runs.front ++ some.0;
  sent = Sent-append before now after runs.front some.0 runs.sent some.1;
  parts = runs.parts ∙ ap (λ l. runs.front ++ l) (sym (append-nil pending) ∙ some.2) ∙ sym (append_assoc runs.front some.0 left_over);
  follows = runs.follows;
  offset = runs.offset;
  limits = runs.limits;
  fault = runs.fault;
  at_end = runs.at_end;
}

module _ (options : Options) (left_before left left_after : Option (List ℕ)) (before now after : Taken) (state : State) (old new : LineReader) (pending : List ℕ)
    (runs : Runs options left_before left before now state old pending) where
  -- what is printed after what was sent
  printed-more : (text : List ℕ) → runs.printed ++ text ≡ runs.front ++ (pending ++ text)
  printed-more text = ap (λ l. l ++ text) runs.parts ∙ append_assoc runs.front pending text

  interrupts-all : (text : List ℕ) (status : Status) → Interrupts now after (pending ++ text) status → Interrupts before after (runs.printed ++ text) status
  interrupts-all text status interrupted =
      let P = λ (l : List ℕ). Interrupts before after l status in
      subst P (sym (printed-more text)) (Interrupts-after before now after runs.front (pending ++ text) status runs.sent interrupted)

  concludes-all : (output : Output) (status : Status) → Concludes now after (after_gathered pending output) status
      → Concludes before after (record output { bytes = runs.printed ++ output.bytes }) status
  concludes-all output status concludes =
      let P = λ (l : List ℕ). Concludes before after (record output { bytes = l }) status in
      subst P (sym (printed-more output.bytes)) (Concludes-after before now after runs.front (after_gathered pending output) status runs.sent concludes)

  -- what was read so far
  read_so_far : (read : List ℕ) → left ≡ prepend_known read left_after → left_before ≡ prepend_known (runs.handed ++ (old.kept ++ read)) left_after
  read_so_far read taken =
      runs.was_read ∙ ap (prepend_known (runs.handed ++ old.kept)) taken ∙ sym (prepend_known-append (runs.handed ++ old.kept) read left_after)
      ∙ ap (λ l. prepend_known l left_after) (append_assoc runs.handed old.kept read)

  -- the bytes of the script, and the way through them from here
  way_on : (read : List ℕ) → (IsTrue old.ended → read ≡ []) → (more : List ℕ) → (IsTrue old.ended → more ≡ [])
      → walk_of options ((runs.handed ++ (old.kept ++ read)) ++ more) ≡ after_text runs.printed (walk script_limits (place_of options state old) (pieces ((old.kept ++ read) ++ more)))
  unfolding walk_of
  way_on read over more last =
      ap (λ l. walk script_limits (start options) (pieces l)) (append_assoc runs.handed (old.kept ++ read) more ∙ ap (λ l. runs.handed ++ l) (append_assoc old.kept read more))
      ∙ runs.follows.all (read ++ more) (λ e. ap (λ l. l ++ more) (over e) ∙ last e)
      ∙ ap (λ l. after_text runs.printed (walk script_limits (place_of options state old) (pieces l))) (sym (append_assoc old.kept read more))

  -- one call of the reader
  module _ (read : List ℕ) (taken : left ≡ prepend_known read left_after) (over : IsTrue old.ended → read ≡ []) where
    -- where the source had given its end nothing is left
    last : IsTrue old.ended → rest_of left_after ≡ []
    last e = rest_of-end left_after (at_end-kept left left_after read taken (over e) (runs.at_end e))

    -- the end was given, before or now
    pub nothing_left : IsTrue old.ended ⊎ IsAtEnd left_after → rest_of left_after ≡ []
    nothing_left end = elim end [ inl was ↦ last was | inr is ↦ rest_of-end left_after is ]

    -- all bytes of the script, where the source tells them
    pub script_is : (script : List ℕ) → left_before ≡ Some script → script ≡ (runs.handed ++ (old.kept ++ read)) ++ rest_of left_after
    script_is script told = known left_after (sym told ∙ read_so_far read taken) where
      known : (l : Option (List ℕ)) → Some script ≡ prepend_known (runs.handed ++ (old.kept ++ read)) l → script ≡ (runs.handed ++ (old.kept ++ read)) ++ rest_of l
      known None e = cc
      known (Some rest) e = cc

    -- the way where the script was read to its end
    pub way-end : old.kept ++ read ≡ [] → rest_of left_after ≡ []
        → walk_of options ((runs.handed ++ (old.kept ++ read)) ++ rest_of left_after) ≡ after_text runs.printed (stopped (Ok state))
    way-end none nothing =
        let at = place_of options state old in
        let empty : (old.kept ++ read) ++ rest_of left_after ≡ [] = ap (λ l. l ++ rest_of left_after) none ∙ nothing in
        way_on read over (rest_of left_after) last ∙ ap (λ l. after_text runs.printed (walk script_limits at (pieces l))) empty
        ∙ ap (λ l. after_text runs.printed (walk script_limits at l)) pieces-nil ∙ ap (after_text runs.printed) (walk-nil script_limits at)

    -- the way to a limit that was passed
    pub way-excess : (line : ℕ) (excess : Excess) (cause : LineCause) (stop : ℕ) → Exceeds old (old.kept ++ read) excess line
        → ((piece : List ℕ) → judge script_limits (place_of options state old) piece (Some excess) ≡ Err (record { line = old.handed + 1; cause = cause; stop = stop }))
        → walk_of options ((runs.handed ++ (old.kept ++ read)) ++ rest_of left_after) ≡ after_text runs.printed (stopped (Err (record { line = old.handed + 1; cause = cause; stop = stop })))
    way-excess line excess cause stop exceeds judged =
        let at = place_of options state old in
        let bad : Bad = record { line = old.handed + 1; cause = cause; stop = stop } in
        let first = exceeds.passes (rest_of left_after) in
        let L = λ (l : Limits). excess_of l old.offset first.0 ≡ Some excess in
        way_on read over (rest_of left_after) last ∙ ap (λ l. after_text runs.printed (walk script_limits at l)) first.2
        ∙ ap (after_text runs.printed) (walk-excess script_limits at first.0 first.1 excess bad (subst L runs.limits first.3) (judged first.0))

    -- a line was handed out
    module _ (line : Line) (out_of : HandsOut old (old.kept ++ read) line new) (open_end : IsTrue new.ended → IsTrue old.ended ⊎ IsAtEnd left_after) where
      new_end : IsTrue new.ended → IsAtEnd left_after
      new_end e = elim (open_end e) [ inl was ↦ at_end-kept left left_after read taken (over was) (runs.at_end was) | inr is ↦ is ]

      fits : excess_of script_limits old.offset out_of.piece ≡ None
      fits = let L = λ (l : Limits). excess_of l old.offset out_of.piece ≡ None in subst L runs.limits out_of.fits

      next_place : (next : State) → past_line (place_of options state old) (length out_of.piece) next ≡ place_of options next new
      next_place next =
          ap (λ n. record (place_of options next old) { number = n + 1; offset = old.offset + length out_of.piece }) (sym out_of.handed)
          ∙ ap (λ o. record (place_of options next new) { offset = o }) (sym out_of.offset)

      good : (next : State) (text : List ℕ) → after_line options state line.bytes ≡ Ok (next, text)
          → Follows options (runs.handed ++ out_of.piece) (runs.printed ++ text) (past_line (place_of options state old) (length out_of.piece) next) new.kept new.ended
      good next text done =
          Follows-good options runs.handed runs.printed (place_of options state old) old.kept old.ended runs.follows read out_of.piece line.bytes new.kept new.ended
          out_of.front over out_of.still out_of.cut out_of.one_line text next fits done

      regrouped : runs.handed ++ (old.kept ++ read) ≡ (runs.handed ++ out_of.piece) ++ new.kept
      regrouped = ap (λ l. runs.handed ++ l) out_of.front ∙ sym (append_assoc runs.handed out_of.piece new.kept)

      -- a good line
      pub Runs-more : (next : State) (left_over text sent : List ℕ) → after_line options state line.bytes ≡ Ok (next, text) → Sent now after sent → pending ++ text ≡ sent ++ left_over
          → Runs options left_before left_after before after next new left_over
      Runs-more next left_over text sent done was_sent cut =
          let F = λ (p : Place). Follows options (runs.handed ++ out_of.piece) (runs.printed ++ text) p new.kept new.ended in
          record {
            handed = runs.handed ++ out_of.piece;
            printed = runs.printed ++ text;
            was_read = read_so_far read taken ∙ ap (λ l. prepend_known l left_after) regrouped;
            front = runs.front ++ sent;
            sent = Sent-append before now after runs.front sent runs.sent was_sent;
            parts = printed-more text ∙ ap (λ l. runs.front ++ l) cut ∙ sym (append_assoc runs.front sent left_over);
            follows = subst F (next_place next) (good next text done);
            offset = out_of.offset ∙ ap (λ n. n + length out_of.piece) runs.offset ∙ sym (length-append runs.handed out_of.piece);
            limits = out_of.limits ∙ runs.limits;
            fault = out_of.fault ∙ runs.fault;
            at_end = new_end;
          }

      way_after : (more : List ℕ) → ((runs.handed ++ (old.kept ++ read)) ++ more) ≡ (runs.handed ++ out_of.piece) ++ (new.kept ++ more)
      way_after more = ap (λ l. l ++ more) regrouped ∙ append_assoc (runs.handed ++ out_of.piece) new.kept more

      -- the way to a bad line
      pub way-bad : (cause : LineCause) → after_line options state line.bytes ≡ Err cause
          → walk_of options ((runs.handed ++ (old.kept ++ read)) ++ rest_of left_after)
          ≡ after_text runs.printed (stopped (Err (record { line = old.handed + 1; cause = cause; stop = old.offset + length out_of.piece })))
      unfolding walk_of
      way-bad cause bad_line =
          let more = rest_of left_after in
          ap (λ l. walk_of options l) (way_after more)
          ∙ Follows-bad options runs.handed runs.printed (place_of options state old) old.kept old.ended runs.follows read out_of.piece line.bytes new.kept new.ended
          out_of.front over out_of.still out_of.cut out_of.one_line cause more (λ e. rest_of-end left_after (new_end e)) fits bad_line

      -- each line takes the reader on
      pub further : (new.offset ≤ 268435456) × (old.offset < new.offset)
      further =
          let within = excess-none script_limits old.offset (length (line_of out_of.piece)) (length out_of.piece) fits (length-line_of out_of.piece) in
          let some : 0 < length out_of.piece = elim out_of.cut [
            | inl lf ↦ omega (arith, ap length lf, length-append line.bytes (10 ∷ []))
            | inr ends ↦ ends.1
          ] in
          (omega (arith, within.1, out_of.offset), omega (arith, out_of.offset))

    -- the run ends here
    module _ (words : List (List ℕ)) (accepted : options_of words ≡ Some options) (is_read : options.generate ≡ None) where
      front : (rest : List ℕ) × ((out words ((runs.handed ++ (old.kept ++ read)) ++ rest_of left_after)).bytes ≡ runs.printed ++ rest)
      front =
          let found = out-front words options accepted is_read ((runs.handed ++ (old.kept ++ read)) ++ rest_of left_after) runs.printed _ (way_on read over (rest_of left_after) last) in
          (_, found.1 ∙ append_assoc runs.printed _ found.0)

      same_sent : after ≡ now → pending ≡ [] → Sent before after runs.printed
      same_sent same none =
          let P = λ (t : Taken). Sent before t runs.front in
          let Q = λ (l : List ℕ). Sent before after l in
          subst Q (sym (runs.parts ∙ ap (λ l. runs.front ++ l) none ∙ append-nil runs.front)) (subst P (sym same) runs.sent)

      -- no more was printed than was gathered before
      pub explain-pending : (status : Status) → Interrupts now after pending status → Explained words left_before left_after before after status
      explain-pending status interrupted =
          let I = λ (l : List ℕ). Interrupts before after l status in
          explain-interrupted words left_before left_after before after (runs.handed ++ (old.kept ++ read)) (read_so_far read taken) status
          (subst I (sym (front.1 ∙ printed-more front.0))
          (Interrupts-after before now after runs.front (pending ++ front.0) status runs.sent (Interrupts-more now after pending front.0 status interrupted)))

      -- the source failed in the midst of a line
      pub explain-read_fault : after ≡ now → pending ≡ [] → HasNoLf (old.kept ++ read) → old.ended ≡ false → Explained words left_before left_after before after ReadFault
      explain-read_fault same nothing none unended =
          let way = runs.follows.whole unended read in
          let ends : walk script_limits (place_of options state old) (whole_lines (pieces (old.kept ++ read))) ≡ stopped (Ok state) =
          ap (walk script_limits (place_of options state old)) (whole_lines-none (old.kept ++ read) none) ∙ walk-nil script_limits (place_of options state old) in
          let printed : runs.printed ≡ body words (runs.handed ++ (old.kept ++ read)) =
          sym (body-accepted words options accepted is_read (runs.handed ++ (old.kept ++ read)) ∙ ap (λ (w : Walk). w.text) (way ∙ ap (after_text runs.printed) ends) ∙ append-nil runs.printed) in
          explain-sent words left_before left_after before after (runs.handed ++ (old.kept ++ read)) (read_so_far read taken)
          ReadFault runs.printed (same_sent same nothing) (printed, front, (λ e. let is = accepted in cc), none_generated words options accepted is_read) (λ e. cc)

      -- the script was read to its end
      pub explain-end : (status : Status) → old.kept ++ read ≡ [] → rest_of left_after ≡ [] → Concludes now after (after_gathered pending (end_output options state)) status
          → Explained words left_before left_after before after status
      explain-end status none nothing concludes =
          let is = out-stopped words options accepted is_read ((runs.handed ++ (old.kept ++ read)) ++ rest_of left_after) runs.printed (Ok state) (way-end none nothing) in
          explain-concludes words left_before left_after before after (runs.handed ++ (old.kept ++ read)) (read_so_far read taken)
          (record { bytes = runs.printed ++ end_part options state; status = Done }) status is
          (concludes-all (end_output options state) status concludes) (is, of_read (generated_by (options_of words)) _ _ (none_generated words options accepted is_read) nothing) (λ e. cc)

      -- a limit was passed
      explain-excess : (status : Status) (line : ℕ) (excess : Excess) (cause : LineCause) (stop : ℕ) → Exceeds old (old.kept ++ read) excess line
          → ((piece : List ℕ) → judge script_limits (place_of options state old) piece (Some excess) ≡ Err (record { line = old.handed + 1; cause = cause; stop = stop }))
          → stop ≤ length (runs.handed ++ (old.kept ++ read)) → length (runs.handed ++ (old.kept ++ read)) ≤ stop + 65536
          → Concludes now after (after_gathered pending (bad_output line cause)) status → Explained words left_before left_after before after status
      explain-excess status line excess cause stop exceeds judged low high concludes =
          let bad : Bad = record { line = old.handed + 1; cause = cause; stop = stop } in
          let way = way-excess line excess cause stop exceeds judged in
          let N = λ (n : ℕ). Concludes now after (after_gathered pending (bad_output n cause)) status in
          explain-concludes words left_before left_after before after (runs.handed ++ (old.kept ++ read)) (read_so_far read taken)
          (record { bytes = runs.printed ++ (bad_output bad.line cause).bytes; status = BadLine bad.line cause }) status
          (out-stopped words options accepted is_read ((runs.handed ++ (old.kept ++ read)) ++ rest_of left_after) runs.printed (Err bad) way)
          (concludes-all (bad_output bad.line cause) status (subst N exceeds.number concludes))
          (explains-bad words options accepted is_read (runs.handed ++ (old.kept ++ read)) (rest_of left_after) runs.printed bad way low high) (λ e. cc)

      long : (excess : Excess) (line : ℕ) → Exceeds old (old.kept ++ read) excess line
          → (piece : List ℕ) × (length piece ≤ length (old.kept ++ read)) × (excess_of script_limits old.offset piece ≡ Some excess)
      long excess line exceeds =
          let first = exceeds.passes [] in
          let L = λ (l : Limits). excess_of l old.offset first.0 ≡ Some excess in
          let seen : pieces (old.kept ++ read) ≡ first.0 ∷ first.1 = ap pieces (sym (append-nil (old.kept ++ read))) ∙ first.2 in
          (first.0, length-pieces (old.kept ++ read) first.0 first.1 seen, subst L runs.limits first.3)

      -- the reader answered a fault
      pub explain-fault : (fault : LineFault) (status : Status) → (HasNoLf old.kept → pending ≡ []) → AnswersBySeen old (old.kept ++ read) left_after (Err fault) new
          → Stops now after pending fault status
          → Explained words left_before left_after before after status
      explain-fault fault.ReadFault status empty answers stops =
          let P = λ (s : Status). Explained words left_before left_after before after s in
          subst P (sym stops.0) (explain-read_fault stops.1 (empty (no_lf-front old.kept read answers.0)) answers.0 answers.1)
      explain-fault fault.NoMemory status empty answers stops = explain-pending status stops
      explain-fault (fault.LineTooLong line) status empty answers stops =
          let piece = long LongLine line answers.0 in
          let passed = excess-long_line script_limits old.offset (length (line_of piece.0)) (length piece.0) piece.2 in
          let size = length-append runs.handed (old.kept ++ read) in
          let limit : old.limits.line ≡ 8388608 = ap (λ (l : Limits). l.line) runs.limits in
          explain-excess status line LongLine LineTooLong (old.offset + 8388608 + 1) answers.0 (λ p. refl)
          (omega (arith, passed, piece.1, length-line_of piece.0, size, runs.offset)) (omega (arith, size, runs.offset, answers.1, limit)) stops
      explain-fault (fault.ScriptTooLong line) status empty answers stops =
          let piece = long LongScript line answers.0 in
          let passed = excess-long_script script_limits old.offset (length (line_of piece.0)) (length piece.0) piece.2 in
          let size = length-append runs.handed (old.kept ++ read) in
          let limit : old.limits.script ≡ 268435456 = ap (λ (l : Limits). l.script) runs.limits in
          explain-excess status line LongScript ScriptTooLong (268435456 + 1) answers.0 (λ p. refl)
          (omega (arith, passed, piece.1, size, runs.offset)) (omega (arith, size, runs.offset, answers.1, limit)) stops

      -- the line that was handed out is the last that was done
      module _ (line : Line) (out_of : HandsOut old (old.kept ++ read) line new) (open_end : IsTrue new.ended → IsTrue old.ended ⊎ IsAtEnd left_after) where
        explain-cut_off : (status : Status) (next : State) (text : List ℕ) → after_line options state line.bytes ≡ Ok (next, text) → Interrupts now after (pending ++ text) status
            → Explained words left_before left_after before after status
        unfolding walk_of
        explain-cut_off status next text done interrupted =
            let more = rest_of left_after in
            let way = ap (λ l. walk_of options l) (way_after line out_of open_end more) ∙ (good line out_of open_end next text done).all more (λ e. rest_of-end left_after (new_end line out_of open_end e)) in
            let whole = out-front words options accepted is_read ((runs.handed ++ (old.kept ++ read)) ++ more) (runs.printed ++ text) _ way in
            let I = λ (l : List ℕ). Interrupts before after l status in
            explain-interrupted words left_before left_after before after (runs.handed ++ (old.kept ++ read)) (read_so_far read taken) status
            (subst I (sym whole.1) (Interrupts-more before after _ whole.0 status (Interrupts-more before after (runs.printed ++ text) _ status
            (interrupts-all text status interrupted))))

        explain-bad : (status : Status) (cause : LineCause) → after_line options state line.bytes ≡ Err cause → Concludes now after (after_gathered pending (bad_output line.number cause)) status
            → Explained words left_before left_after before after status
        explain-bad status cause bad_line concludes =
            let more = rest_of left_after in
            let bad : Bad = record { line = old.handed + 1; cause = cause; stop = old.offset + length out_of.piece } in
            let way = way-bad line out_of open_end cause bad_line in
            let size = ap length (regrouped line out_of open_end) ∙ length-append (runs.handed ++ out_of.piece) new.kept in
            let inner = length-append runs.handed out_of.piece in
            let N = λ (n : ℕ). Concludes now after (after_gathered pending (bad_output n cause)) status in
            explain-concludes words left_before left_after before after (runs.handed ++ (old.kept ++ read)) (read_so_far read taken)
            (record { bytes = runs.printed ++ (bad_output bad.line cause).bytes; status = BadLine bad.line cause }) status
            (out-stopped words options accepted is_read ((runs.handed ++ (old.kept ++ read)) ++ more) runs.printed (Err bad) way)
            (concludes-all (bad_output bad.line cause) status (subst N out_of.number concludes))
            (explains-bad words options accepted is_read (runs.handed ++ (old.kept ++ read)) more runs.printed bad way
            (omega (arith, size, inner, runs.offset)) (omega (arith, size, inner, runs.offset, out_of.ahead))) (λ e. cc)

        pub explain-line : (status : Status) (left_over : List ℕ) → DoesAndGathers now after pending left_over line.number (after_line options state line.bytes) (Err status)
            → Explained words left_before left_after before after status
        explain-line status left_over (inl interrupted) = explain-cut_off status interrupted.0.0 interrupted.0.1 interrupted.1 interrupted.2
        explain-line status left_over (inr (inl bad)) = explain-bad status bad.0 bad.1 bad.2
        explain-line status left_over (inr (inr interrupted)) = explain-pending status interrupted
