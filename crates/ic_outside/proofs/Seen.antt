-- The loop that reads until a line is whole.
use Rattle.std.proofs.Common.{◌≡◌, ℕ, ◌+◌, ◌-◌, ◌*◌, ◌<◌, ◌≤◌, ◌⊎◌, inl, inr, Bool, true, false, cond, IsTrue, Contains, List, [], ◌∷◌, ◌++◌, length, Option, Some, None, Result, Ok, Err, refl, sym, ap, subst, ◌∙◌, arith, append_assoc, append-nil, length-append, take_at}
use Rattle.std.proofs.lemmas.List.Elements.{All-take, All-contains}
use Rattle.std.specs.Io.KnownBytes.{prepend_known, IsAtEnd}
use Rattle.std.proofs.KnownBytes.{prepend_known-nil}
use Rattle.ic_outside.specs.Limits.{excess}
use Rattle.ic_outside.specs.Pieces.{HasNoLf}
use Rattle.ic_outside.specs.LineReader.{LineReader}
use Rattle.ic_outside.specs.Reads.{AnswersBySeen, EndsWithBlock, Reads}
use Rattle.ic_outside.specs.Steps.{Filled, Unfilled}
use Rattle.ic_outside.specs.declared.lines.Line.{Line}
use Rattle.ic_outside.specs.declared.error.LineFault.{LineFault}
use Rattle.ic_outside.specs.declared.error.LineFault.TheVariants.{ReadFault, LineTooLong, ScriptTooLong, NoMemory}
use Rattle.ic_outside.proofs.KnownLaws.{prepend_known-append}
use Rattle.ic_outside.proofs.LimitLaws.{excess-none}

abbrev pub with_kept : LineReader → List ℕ → Bool → LineReader
with_kept start kept ended = record start { kept = kept; ended = ended }

-- a reader that has read more
abbrev pub grown : LineReader → List ℕ → Bool → LineReader
grown start read ended = with_kept start (start.kept ++ read) ended

pub not_both : (b : Bool) → IsTrue b → b ≡ false → ⊥
not_both b is_true is_false = cc

not_ended : (b e : Bool) → (IsTrue b → IsTrue e) → e ≡ false → b ≡ false
not_ended true e still is = absurd (not_both e (still refl) is)
not_ended false e still is = refl

HasNoLf-front : (front rest : List ℕ) → HasNoLf (front ++ rest) → HasNoLf front
HasNoLf-front front rest none = subst HasNoLf (take_at front rest (length front) refl) (All-take (λ b. b ≡ 10 → ⊥) (length front) (front ++ rest) none)

nothing_kept : (kept read : List ℕ) → kept ++ read ≡ [] → kept ≡ []
nothing_kept [] read e = refl
nothing_kept (b ∷ bs) read e = cc

-- what a step answers of the bytes kept now, it answers of those kept at the start and those read since
pub AnswersBySeen-grown : (start : LineReader) (read : List ℕ) (e : Bool) (left : Option (List ℕ)) (result : Result (Option Line) LineFault) (new : LineReader)
    → (IsTrue start.ended → IsTrue e) → (IsTrue e → IsTrue start.ended ⊎ IsAtEnd left)
    → AnswersBySeen (grown start read e) (start.kept ++ read) left result new → AnswersBySeen start (start.kept ++ read) left result new
AnswersBySeen-grown start read e left (Ok (Some line)) new still at_end (hands, end) = (
  record {
    piece = hands.piece;
    front = hands.front;
    cut = hands.cut;
    one_line = hands.one_line;
    fits = hands.fits;
    number = hands.number;
    limits = hands.limits;
    offset = hands.offset;
    handed = hands.handed;
    fault = hands.fault;
    still = λ h. hands.still (still h);
    ahead = hands.ahead;
  },
  λ h. elim (end h) [ inl now ↦ at_end now | inr over ↦ inr over ],
)
AnswersBySeen-grown start read e left (Ok None) new still at_end (seen, is_new, end) = (
  seen,
  is_new ∙ ap (λ k. with_kept start k true) (seen ∙ sym (nothing_kept start.kept read seen)),
  elim end [ inl now ↦ at_end now | inr over ↦ inr over ],
)
AnswersBySeen-grown start read e left (Err ReadFault) new still at_end (none, going, fits) = (none, not_ended start.ended e still going, fits)
AnswersBySeen-grown start read e left (Err (LineTooLong line)) new still at_end (exceeds, near) = (record { passes = exceeds.passes; number = exceeds.number }, near)
AnswersBySeen-grown start read e left (Err (ScriptTooLong line)) new still at_end (exceeds, near) = (record { passes = exceeds.passes; number = exceeds.number }, near)
AnswersBySeen-grown start read e left (Err NoMemory) new still at_end h = tt

-- what was seen since the call began
pub record Seen {S : Type 0} (left : S → Option (List ℕ)) (ended : S → Bool) (faults : S → ℕ) (cannot_fail : S → Type 0) (start : LineReader) (before : S) (now : LineReader) (source : S) : Type 0 where
  pub read : List ℕ
  pub taken : left before ≡ prepend_known read (left source)
  pub last_block : 0 < length read → EndsWithBlock start.kept read
  pub reader : now ≡ grown start read now.ended
  pub still : IsTrue start.ended → IsTrue now.ended
  pub at_end : IsTrue now.ended → IsTrue start.ended ⊎ IsAtEnd (left source)
  pub gave_end : IsTrue now.ended → IsTrue start.ended ⊎ IsTrue (ended source)
  pub untouched : ((source ≡ before) × (read ≡ [])) ⊎ (HasNoLf start.kept × (start.ended ≡ false))
  pub counted : faults source ≡ faults before
  pub sure : cannot_fail before → cannot_fail source

module _ {S : Type 0} (left : S → Option (List ℕ)) (ended : S → Bool) (faults : S → ℕ) (cannot_fail : S → Type 0) (start : LineReader) (before : S) where
  pub Seen-none : Seen left ended faults cannot_fail start before start before
  Seen-none = record {
    read = [];
    taken = sym (prepend_known-nil (left before));
    last_block = λ some. absurd (omega arith);
    reader = ap (λ k. with_kept start k start.ended) (sym (append-nil start.kept));
    still = λ h. h;
    at_end = λ h. inl h;
    gave_end = λ h. inl h;
    untouched = inl (refl, refl);
    counted = refl;
    sure = λ h. h;
  }

  module _ (now : LineReader) (source : S) (seen : Seen left ended faults cannot_fail start before now source) where
    kept_is : now.kept ≡ start.kept ++ seen.read
    kept_is = ap (λ r. r.kept) seen.reader

    -- no whole line was kept and the end was not given, where none is kept and it is not given now
    begun : HasNoLf now.kept → now.ended ≡ false → HasNoLf start.kept × (start.ended ≡ false)
    begun none going = (HasNoLf-front start.kept seen.read (subst HasNoLf kept_is none), not_ended start.ended now.ended seen.still going)

    -- one block more
    ends : (block : List ℕ) → HasNoLf now.kept → length block ≤ 65536 → EndsWithBlock start.kept (seen.read ++ block)
    ends block none size = record { before = seen.read; block = block; parts = refl; no_lf = subst HasNoLf kept_is none; size = size }

    pub Seen-filled : (next : LineReader) (after : S) → HasNoLf now.kept → now.ended ≡ false → Filled now (left source) (left after) (ended after) next
        → faults after ≡ faults source → (cannot_fail source → cannot_fail after)
        → Seen left ended faults cannot_fail start before next after
    Seen-filled next after none going filled counted sure =
        let first = begun none going in
        let is_next : next ≡ grown start (seen.read ++ filled.read) filled.ended =
        filled.reader ∙ ap (λ r. grown r filled.read filled.ended) seen.reader ∙ ap (λ k. with_kept start k filled.ended) (append_assoc start.kept seen.read filled.read) in
        let is_ended : next.ended ≡ filled.ended = ap (λ r. r.ended) filled.reader in
        let over : IsTrue next.ended → IsAtEnd (left after) × IsTrue (ended after) = λ h. filled.at_end (subst IsTrue is_ended h) in
        record {
          read = seen.read ++ filled.read;
          taken = seen.taken ∙ ap (prepend_known seen.read) filled.taken ∙ sym (prepend_known-append seen.read filled.read (left after));
          last_block = λ _. ends filled.read none filled.size;
          reader = is_next ∙ ap (λ e. grown start (seen.read ++ filled.read) e) (sym is_ended);
          still = λ h. absurd (not_both start.ended h first.1);
          at_end = λ h. inr (over h).0;
          gave_end = λ h. inr (over h).1;
          untouched = inr first;
          counted = counted ∙ seen.counted;
          sure = λ h. sure (seen.sure h);
        }

    -- nothing was read where a whole line was kept or the end was given
    none_read : (P : Type 0) → P → (P → HasNoLf start.kept → start.ended ≡ false → ⊥) → seen.read ≡ []
    none_read P p wrong = elim seen.untouched [ inl same ↦ same.1 | inr first ↦ absurd (wrong p first.0 first.1) ]

    lf_kept : Contains start.kept 10 → HasNoLf start.kept → ⊥
    lf_kept has none = All-contains (λ b. b ≡ 10 → ⊥) start.kept 10 none has refl

    -- the call ends with what a step answers of the bytes kept now
    pub Reads-answered : (result : Result (Option Line) LineFault) (new : LineReader) → AnswersBySeen now now.kept (left source) result new
        → Reads start (left before) (left source) result new
    Reads-answered result new answers =
        let P : LineReader → Type 0 = λ r. AnswersBySeen r r.kept (left source) result new in
        record {
          read = seen.read;
          taken = seen.taken;
          over = λ h. none_read (IsTrue start.ended) h (λ e _ going. not_both start.ended e going);
          kept = λ h. none_read (Contains start.kept 10) h (λ has none _. lf_kept has none);
          last_block = seen.last_block;
          answers = AnswersBySeen-grown start seen.read now.ended (left source) result new seen.still seen.at_end (subst P seen.reader answers);
        }

    -- the call ends with a read that failed or found no memory
    pub Reads-unfilled : (after : S) (fault : LineFault) (new : LineReader) → HasNoLf now.kept → now.ended ≡ false
        → excess now.limits now.offset (length now.kept) (length now.kept) ≡ None → Unfilled (left source) (left after) fault
        → Reads start (left before) (left after) (Err fault) new
    Reads-unfilled after fault new none going fits unfilled =
        let first = begun none going in
        let bytes = start.kept ++ (seen.read ++ unfilled.read) in
        let F : LineFault → Type 0 = λ f. AnswersBySeen start bytes (left after) (Err f) new in
        let failed : unfilled.read ≡ [] → F ReadFault = λ nothing.
        let same : now.kept ≡ bytes = kept_is ∙ ap (λ l. start.kept ++ l) (sym (append-nil seen.read) ∙ ap (λ l. seen.read ++ l) (sym nothing)) in (
          subst HasNoLf same none,
          first.1,
          sym (ap (λ r. excess r.limits r.offset (length bytes) (length bytes)) seen.reader) ∙ ap (λ l. excess now.limits now.offset (length l) (length l)) (sym same) ∙ fits,
        ) in
        record {
          read = seen.read ++ unfilled.read;
          taken = seen.taken ∙ ap (prepend_known seen.read) unfilled.taken ∙ sym (prepend_known-append seen.read unfilled.read (left after));
          over = λ h. absurd (not_both start.ended h first.1);
          kept = λ h. absurd (lf_kept h first.0);
          last_block = λ _. ends unfilled.read none unfilled.size;
          answers = elim unfilled.cause [ inl no_memory ↦ subst F (sym no_memory) tt | inr failure ↦ subst F (sym failure.0) (failed failure.1) ];
        }

-- how much may still be read: twice the bytes, and the end
abbrev pub to_read : LineReader → ℕ
to_read r = 2 * (r.limits.script + 1 - (r.offset + length r.kept)) + cond r.ended 0 1

-- a read more takes bytes or the end
pub to_read-filled : (old : LineReader) (left_before left : Option (List ℕ)) (source_ended : Bool) (new : LineReader) → old.ended ≡ false
    → excess old.limits old.offset (length old.kept) (length old.kept) ≡ None → Filled old left_before left source_ended new → to_read new < to_read old
to_read-filled old left_before left source_ended new going fits filled =
    let within = excess-none old.limits old.offset (length old.kept) (length old.kept) fits (omega arith) in
    let R = λ (e : Bool). record old { kept = old.kept ++ filled.read; ended = e } in
    let falls : (e : Bool) → (e ≡ false → 0 < length filled.read) → to_read (R e) < 2 * (old.limits.script + 1 - (old.offset + length old.kept)) + 1 =
    elim [
      | true ↦ λ some. omega (arith, within.1, length-append old.kept filled.read)
      | false ↦ λ some. omega (arith, within.1, some refl, length-append old.kept filled.read)
    ] in
    let flag : to_read old ≡ 2 * (old.limits.script + 1 - (old.offset + length old.kept)) + 1 = ap (λ e. 2 * (old.limits.script + 1 - (old.offset + length old.kept)) + cond e 0 1) going in
    subst (λ n. to_read new < n) (sym flag) (subst (λ r. to_read r < 2 * (old.limits.script + 1 - (old.offset + length old.kept)) + 1) (sym filled.reader) (falls filled.ended filled.some))
