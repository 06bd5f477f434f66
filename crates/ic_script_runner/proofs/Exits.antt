-- How the parts of a run make up what the top call promises.
use Rattle.std.proofs.Common.{◌≡◌, ◌≢◌, ℕ, ◌+◌, ◌≤◌, List, [], ◌++◌, length, map, take, refl, sym, ap, subst, ◌∙◌, append-nil, length-take, arith, inl, inr, Option, Some, None, IfSome, Ok, Err, Result}
use Rattle.std.specs.Io.KnownBytes.{prepend_known}
use Rattle.std.specs.List.{enumerate_from}
use Rattle.std.proofs.lemmas.List.{length-map}
use Rattle.std.proofs.lemmas.List.FromFn.{length-enumerate_from}
use Rattle.ic_outside.specs.Limits.{script_limits}
use Rattle.ic_outside.specs.Pieces.{pieces, line_of}
use Rattle.ic_options.specs.declared.Options.{Options}
use Rattle.ic_script_runner.specs.declared.status.Status.{Status}
use Rattle.ic_script_runner.specs.declared.status.Status.TheVariants.{BadLine, NoMemory, WriteFault}
use Rattle.ic_script_runner.specs.Acts.{Concludes, bad_output, usage_output}
use Rattle.ic_script_runner.specs.Body.{body, body_of, whole_lines}
use Rattle.ic_script_runner.specs.EndPart.{end_part}
use Rattle.ic_script_runner.specs.Explained.{Explained, Explains, OfSource, bad_stop, bad_stop_of, generated_by, stop_of, rest_of}
use Rattle.ic_options.specs.Options.{options_of}
use Rattle.ic_script_runner.specs.Out.{Output, out, out_of, output_of, ended_output, short_output}
use Rattle.ic_script_runner.specs.Script.{script, script_of, script_for, lines_of, walk_of, lines_until}
use Rattle.ic_script_runner.specs.Sending.{Taken, Sent, Interrupts}
use Rattle.ic_behaviour.specs.State.{State}
use Rattle.ic_script_runner.specs.Walk.{Bad, Walk, start, after_text, walk}
use Rattle.ic_generate.specs.Script.{script as generated}
use Rattle.ic_script_runner.proofs.Counts.{sink_count_after-same, Interrupts-counted}
use Rattle.ic_script_runner.proofs.SendLaws.{Interrupts-at_once}
use Rattle.ic_script_runner.proofs.WalkLaws.{stopped, walk-line}

fitting-sent : (fits : Option ℕ) (length : ℕ) (P : Type 0) → P → IfSome fits (λ room. length ≤ room → P)
fitting-sent None length P p = tt
fitting-sent (Some room) length P p = λ fit. p

fitting-never : (fits : Option ℕ) (length : ℕ) (P : Type 0) → IfSome fits (λ room. length ≤ room → ⊥) → IfSome fits (λ room. length ≤ room → P)
fitting-never None length P h = tt
fitting-never (Some room) length P h = λ fit. absurd (h fit)

module _ (words : List (List ℕ)) (left_before left : Option (List ℕ)) (before after : Taken) (read : List ℕ) (was_read : left_before ≡ prepend_known read left) where
  answer : Output
  answer = out words (read ++ rest_of left)

  -- the sink took a text, and the status says what it is
  pub explain-sent : (status : Status) (text : List ℕ) → Sent before after text → Explains words status read (rest_of left) text
      → status ≢ WriteFault → Explained words left_before left before after status
  explain-sent status text sent explains ne = record {
    read = read;
    text = text;
    was_read = was_read;
    was_sent = sent.bytes;
    fell = sent.fell;
    explains = explains;
    counted = sent.counted ∙ sym (sink_count_after-same before.faults status ne);
    fitting = fitting-sent before.fits (length (out words (read ++ rest_of left)).bytes) ((after.faults ≡ before.faults) × (status ≢ WriteFault)) (sent.counted, ne);
  }

  -- the answer was interrupted
  pub explain-interrupted : (status : Status) → Interrupts before after (out words (read ++ rest_of left)).bytes status → Explained words left_before left before after status
  explain-interrupted status interrupted = elim interrupted.cause [
    | inl broke ↦
        let P = λ (s : Status). Explains words s read (rest_of left) broke.1.front.front in
        record {
          read = read;
          text = broke.1.front.front;
          was_read = was_read;
          was_sent = broke.1.front.appended;
          fell = broke.1.front.fell;
          explains = subst P (sym broke.0) broke.1.front.is_front;
          counted = (Interrupts-counted before after (out words (read ++ rest_of left)).bytes status interrupted).0;
          fitting = fitting-never before.fits (length (out words (read ++ rest_of left)).bytes) ((after.faults ≡ before.faults) × (status ≢ WriteFault)) broke.1.fitting;
        }
    | inr ran_out ↦
        let P = λ (s : Status). Explains words s read (rest_of left) ran_out.1.front in
        explain-sent status ran_out.1.front ran_out.1.sent (subst P (sym ran_out.0) ran_out.1.is_front)
        (λ e. let is = ran_out.0 in cc)
  ]

  -- the answer was given, or interrupted
  pub explain-concludes : (output : Output) (status : Status) → out words (read ++ rest_of left) ≡ output → Concludes before after output status
      → Explains words output.status read (rest_of left) output.bytes → output.status ≢ WriteFault → Explained words left_before left before after status
  explain-concludes output status is concludes explains ne = elim concludes [
    | inl sent ↦
        let P = λ (s : Status). Explains words s read (rest_of left) output.bytes in
        explain-sent status output.bytes sent.1 (subst P (sym sent.0) explains) (λ e. ne (sym sent.0 ∙ e))
    | inr interrupted ↦
        let P = λ (l : List ℕ). Interrupts before after l status in
        explain-interrupted status (subst P (sym (ap (λ (o : Output). o.bytes) is)) interrupted)
  ]

prepend_known-nil : (known : Option (List ℕ)) → prepend_known [] known ≡ known
prepend_known-nil None = refl
prepend_known-nil (Some bytes) = refl

-- out of memory before anything was read
pub explain-at_once : (words : List (List ℕ)) (left : Option (List ℕ)) (now : Taken) → Explained words left left now now NoMemory
explain-at_once words left now =
    explain-interrupted words left left now now [] (sym (prepend_known-nil left)) NoMemory (Interrupts-at_once now (out words (rest_of left)).bytes)

-- refused words
pub explain-refused : (words : List (List ℕ)) (left : Option (List ℕ)) (before after : Taken) (status : Status) → options_of words ≡ None
    → Concludes before after usage_output status → Explained words left left before after status
unfolding out
explain-refused words left before after status refused concludes =
    let is : out words (rest_of left) ≡ usage_output = ap (λ o. out_of o (rest_of left)) refused in
    explain-concludes words left left before after [] (sym (prepend_known-nil left)) usage_output status is concludes (is, refl) (λ e. cc)

-- what holds where the source is the script, and where the script is generated
pub of_read : (number : Option ℕ) (read : List ℕ) (P : Type 0) → number ≡ None → P → OfSource number read P
of_read None read P is p = p
of_read (Some n) read P is p = cc

of_generated : (number : Option ℕ) (n : ℕ) (P : Type 0) → number ≡ Some n → OfSource number [] P
of_generated None n P is = cc
of_generated (Some m) n P is = refl

-- the bad line is the last of a script
length-lines : (options : Options) (text : List ℕ) (bad : Bad) → (walk_of options text).last ≡ Err bad → bad.line ≡ length (lines_of options text)
unfolding walk_of
length-lines options text bad last =
    let lines = enumerate_from 1 (map line_of (pieces text)) in
    let count : length lines ≡ length (pieces text) = length-enumerate_from 1 (map line_of (pieces text)) ∙ length-map (pieces text) line_of in
    let shown : length (lines_of options text) ≡ length (take bad.line lines) = ap (λ o. length (take (lines_until (length (pieces text)) o) lines)) last in
    omega (arith, shown, count, length-take bad.line lines, walk-line script_limits (start options) (pieces text) bad last)

module _ (words : List (List ℕ)) (options : Options) (accepted : options_of words ≡ Some options) where
  out-of_number : (number : Option ℕ) → options.generate ≡ number → (bytes : List ℕ)
      → out words bytes ≡ output_of number options (walk_of options (script_for number bytes))
  unfolding out
  out-of_number number is bytes =
      ap (λ o. out_of o bytes) accepted ∙ ap (λ g. output_of g options (walk_of options (script_for g bytes))) is

  script-of_number : (number : Option ℕ) → options.generate ≡ number → (bytes : List ℕ) → script words bytes ≡ lines_of options (script_for number bytes)
  unfolding script
  script-of_number number is bytes = ap (λ o. script_of o bytes) accepted ∙ ap (λ g. lines_of options (script_for g bytes)) is

  number-is : (number : Option ℕ) → options.generate ≡ number → generated_by (options_of words) ≡ number
  number-is number is = ap generated_by accepted ∙ is

  -- the answer to a generated script
  module _ (n : ℕ) (made : options.generate ≡ Some n) where
    explains-generated : (rest : List ℕ) (last : Result State Bad) → (walk_of options (generated n)).last ≡ last
        → Explains words (short_output options last).status [] rest (short_output options last).bytes
    explains-generated rest (Ok state) is = (
      out-of_number (Some n) made rest ∙ ap (short_output options) is,
      of_generated (generated_by (options_of words)) n (rest ≡ []) (number-is (Some n) made),
    )
    explains-generated rest (Err bad) is = (
      out-of_number (Some n) made rest ∙ ap (short_output options) is,
      length-lines options (generated n) bad is ∙ sym (ap length (script-of_number (Some n) made rest)),
      of_generated (generated_by (options_of words)) n _ (number-is (Some n) made),
    )

    no_write_fault : (last : Result State Bad) → (short_output options last).status ≢ WriteFault
    no_write_fault (Ok state) = λ e. cc
    no_write_fault (Err bad) = λ e. cc

    pub explain-generated : (left : Option (List ℕ)) (before after : Taken) (status : Status)
        → Concludes before after (short_output options (walk_of options (generated n)).last) status → Explained words left left before after status
    explain-generated left before after status concludes =
        let last = (walk_of options (generated n)).last in
        explain-concludes words left left before after [] (sym (prepend_known-nil left)) (short_output options last) status
        (out-of_number (Some n) made (rest_of left)) concludes (explains-generated (rest_of left) last refl) (no_write_fault last)

  -- the answer to a script that is read
  module _ (is_read : options.generate ≡ None) where
    pub none_generated : generated_by (options_of words) ≡ None
    none_generated = number-is None is_read

    -- a way that stops
    pub out-stopped : (bytes printed : List ℕ) (last : Result State Bad) → walk_of options bytes ≡ after_text printed (stopped last)
        → out words bytes ≡ ended_output options printed last
    out-stopped bytes printed last way =
        out-of_number None is_read bytes ∙ ap (output_of None options) way ∙ ap (λ text. ended_output options text last) (append-nil printed)

    -- what is printed so far is a front of the answer
    pub out-front : (bytes printed : List ℕ) (way : Walk) → walk_of options bytes ≡ after_text printed way
        → (rest : List ℕ) × ((out words bytes).bytes ≡ (printed ++ way.text) ++ rest)
    out-front bytes printed way is =
        let whole = ap (λ (o : Output). o.bytes) (out-of_number None is_read bytes ∙ ap (output_of None options) is) in
        let P = λ (o : Result State Bad). (rest : List ℕ) × ((ended_output options (printed ++ way.text) o).bytes ≡ (printed ++ way.text) ++ rest) in
        let tail : (o : Result State Bad) → P o = λ o. elim o as P [ Ok state ↦ (end_part options state, refl) | Err bad ↦ ((bad_output bad.line bad.cause).bytes, refl) ] in
        let found = tail way.last in
        (found.0, whole ∙ found.1)

    bad_stop-stopped : (bytes printed : List ℕ) (bad : Bad) → walk_of options bytes ≡ after_text printed (stopped (Err bad)) → bad_stop words bytes ≡ bad.stop
    unfolding bad_stop
    bad_stop-stopped bytes printed bad way =
        ap (λ o. bad_stop_of o bytes) accepted ∙ ap (λ g. stop_of (walk_of options (script_for g bytes)).last) is_read ∙ ap (λ (w : Walk). stop_of w.last) way

    pub body-accepted : (bytes : List ℕ) → body words bytes ≡ (walk script_limits (start options) (whole_lines (pieces bytes))).text
    unfolding body
    body-accepted bytes = ap (λ o. body_of o bytes) accepted

    -- a bad line ends the answer
    pub explains-bad : (read rest printed : List ℕ) (bad : Bad) → walk_of options (read ++ rest) ≡ after_text printed (stopped (Err bad))
        → bad.stop ≤ length read → length read ≤ bad.stop + 65536
        → Explains words (BadLine bad.line bad.cause) read rest (printed ++ (bad_output bad.line bad.cause).bytes)
    explains-bad read rest printed bad way low high =
        let stop = bad_stop-stopped (read ++ rest) printed bad way in (
          out-stopped (read ++ rest) printed (Err bad) way,
          length-lines options (read ++ rest) bad (ap (λ (w : Walk). w.last) way) ∙ sym (ap length (script-of_number None is_read (read ++ rest))),
          of_read (generated_by (options_of words)) read _ none_generated (omega (arith, stop), omega (arith, stop)),
        )
