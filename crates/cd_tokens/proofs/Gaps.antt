-- Gaps are passed exactly.
use Rattle.std.proofs.Common.{◌≡◌, ℕ, zero, suc, ◌+◌, ◌≤◌, ◌<◌, Bool, true, false, List, [], ◌∷◌, ◌++◌, length, drop, get_or, Option, Some, None, refl, sym, ap, subst, ◌∙◌, append_assoc, inl, inr, ◌⊎◌, arith, add-one}
use Rattle.std.specs.Prelude.{◌&&◌, ◌==◌, not, cond}
use Rattle.std.specs.List.{list_all}
use Rattle.std.proofs.lemmas.List.{append-nil, length-append}
use Rattle.std.proofs.Math.ListN.{drop_of_length-le}
use Rattle.std.proofs.Math.Seq.{drop-cons}
use Rattle.ic_base.specs.Spelling.{SpellsMany}
use Rattle.ic_base.proofs.Steps.{some_is}
use Rattle.cd_tokens.specs.Bytes.{is_blank}
use Rattle.cd_tokens.specs.Gap.{Piece, blank, line, block, is_end, is_line, is_block, IsPiece, IsGap, IsLastGap, is_inside_line}
use Rattle.cd_tokens.specs.declared.gap.Place.{Place}
use Rattle.cd_tokens.specs.declared.gap.Place.TheVariants.{Between, Slash, Line, Block}
use Rattle.cd_tokens.specs.ReadGap.{step, may_end, may_stop, past_from, past_gap}
use Rattle.cd_tokens.proofs.Fronts.{both, true_or_false, is_equal, not_true}

-- ---- the loop of the code

at_place : (bytes : List ℕ) (i d : ℕ) → i < length bytes → drop i bytes ≡ get_or bytes i d ∷ drop (i + 1) bytes
at_place bytes i d below = rw add-one (drop-cons bytes i d below)

-- the gap goes on
pub goes_further : (comments : Bool) (place next : Place) (bytes : List ℕ) (i d : ℕ) (total : Option (List ℕ)) → i < length bytes → Some next ≡ step comments place (get_or bytes i d) → past_from comments place (drop i bytes) ≡ total
    → past_from comments next (drop (i + 1) bytes) ≡ total
unfolding past_from
goes_further comments place next bytes i d total below on so_far =
    let s : past_from comments place (drop i bytes) ≡ past_from comments next (drop (i + 1) bytes) = rw (at_place bytes i d below, sym on) refl in
    sym s ∙ so_far

-- it does not
pub stops_here : (comments : Bool) (place : Place) (bytes : List ℕ) (i d : ℕ) (total : Option (List ℕ)) (stop : Bool) → i < length bytes → None ≡ step comments place (get_or bytes i d) → stop ≡ may_stop place → past_from comments place (drop i bytes) ≡ total
    → total ≡ cond stop (Some (drop i bytes)) None
unfolding past_from
stops_here comments place bytes i d total stop below off may so_far =
    let s : past_from comments place (drop i bytes) ≡ cond (may_stop place) (Some (drop i bytes)) None = rw (at_place bytes i d below, sym off) refl in
    sym so_far ∙ s ∙ ap (λ b. cond b (Some (drop i bytes)) None) (sym may)

-- no byte is left
pub ends_here : (comments : Bool) (place : Place) (bytes : List ℕ) (i : ℕ) (total : Option (List ℕ)) (end : Bool) → length bytes ≤ i → end ≡ may_end place → past_from comments place (drop i bytes) ≡ total → total ≡ cond end (Some []) None
unfolding past_from
ends_here comments place bytes i total end past may so_far =
    let s : past_from comments place (drop i bytes) ≡ cond (may_end place) (Some []) None = rw (drop_of_length-le bytes past) refl in
    sym so_far ∙ s ∙ ap (λ b. cond b (Some []) None) (sym may)

-- ---- what is a gap is passed

at_end : (s rest : List ℕ) → is_end s ≡ true → s ++ rest ≡ rest
at_end [] rest e = refl
at_end (b ∷ s) rest e = absurd cc

line_again : (comments : Bool) (s rest : List ℕ) → is_line s ≡ true → past_from comments Line (s ++ rest) ≡ past_from comments Between rest
unfolding past_from
line_again comments [] rest is = absurd cc
line_again comments (b ∷ s) rest is = elim (true_or_false (b == 10)) [
  | inl feed ↦ let e : is_end s ≡ true = rw feed at is in rw feed (ap (past_from comments Between) (at_end s rest e))
  | inr other ↦ let e : is_line s ≡ true = rw other at is in rw other (line_again comments s rest e)
]

block_again : (comments star : Bool) (s rest : List ℕ) → is_block star s ≡ true → past_from comments (Block star) (s ++ rest) ≡ past_from comments Between rest
unfolding past_from
block_again comments star [] rest is = absurd cc
block_again comments star (b ∷ s) rest is = elim (true_or_false (star && b == 47)) [
  | inl closed ↦ let e : is_end s ≡ true = rw closed at is in rw closed (ap (past_from comments Between) (at_end s rest e))
  | inr open_still ↦ let e : is_block (b == 42) s ≡ true = rw open_still at is in rw open_still (block_again comments (b == 42) s rest e)
]

piece_again : (comments : Bool) (p : Piece) (front rest : List ℕ) → IsPiece comments p front → past_from comments Between (front ++ rest) ≡ past_from comments Between rest
unfolding past_from
piece_again comments (blank b) front rest is = rw (is.1, is.0) refl
piece_again true (line s) front rest is = rw is.2 (line_again true s rest is.1)
piece_again true (block s) front rest is = rw is.2 (block_again true false s rest is.1)
piece_again false (line s) front rest is = absurd cc
piece_again false (block s) front rest is = absurd cc

pieces_again : (comments : Bool) (ps : List Piece) (gap rest : List ℕ) → SpellsMany (IsPiece comments) ps gap → past_from comments Between (gap ++ rest) ≡ past_from comments Between rest
pieces_again comments [] gap rest are = rw are refl
pieces_again comments (p ∷ ps) gap rest are =
    ap (past_from comments Between) (ap (λ xs. xs ++ rest) are.2 ∙ append_assoc are.0 are.1 rest) ∙ piece_again comments p are.0 (are.1 ++ rest) are.3 ∙ pieces_again comments ps are.1 rest are.4

-- a gap may end there: no byte of it follows
abbrev pub is_clear : Bool → List ℕ → Bool
is_clear comments [] = true
is_clear comments (b ∷ bytes) = not (is_blank b) && not (comments && b == 47)

pub clear_stays : (comments : Bool) (rest : List ℕ) → is_clear comments rest ≡ true → past_gap comments rest ≡ Some rest
unfolding past_from
clear_stays comments [] clear = refl
clear_stays comments (b ∷ rest) clear =
    let h = both (not (is_blank b)) (not (comments && b == 47)) clear in
    rw (not_true (is_blank b) h.0, not_true (comments && b == 47) h.1) refl

pub gap_again : (comments : Bool) (gap rest : List ℕ) → IsGap comments gap → past_gap comments (gap ++ rest) ≡ past_gap comments rest
gap_again comments gap rest is = pieces_again comments is.0 gap rest is.1

in_line : (comments : Bool) (s : List ℕ) → list_all is_inside_line s ≡ true → past_from comments Line s ≡ Some []
unfolding past_from
in_line comments [] all = refl
in_line comments (b ∷ s) all =
    let h = both (is_inside_line b) (list_all is_inside_line s) all in
    rw (not_true (b == 10) h.0) (in_line comments s h.1)

unfinished : (comments : Bool) (s : List ℕ) → comments ≡ true → list_all is_inside_line s ≡ true → past_gap comments (47 ∷ 47 ∷ s) ≡ Some []
unfolding past_from
unfinished true s on all = in_line true s all
unfinished false s on all = absurd cc

pub last_again : (comments : Bool) (text : List ℕ) → IsLastGap comments text → past_gap comments text ≡ Some []
last_again comments text is = elim is [
  | inl is_gap ↦ ap (past_gap comments) (sym (append-nil text)) ∙ gap_again comments text [] is_gap ∙ clear_stays comments [] refl
  | inr h ↦ ap (past_gap comments) h.3 ∙ gap_again comments h.0 (47 ∷ 47 ∷ h.1) h.4 ∙ unfinished comments h.1 h.2 h.5
]

-- ---- what is passed is a gap

-- what is passed: a gap, or all of the text
pub data Passes (comments : Bool) (bytes rest : List ℕ) : Type 0 where
  gap : (front : List ℕ) → bytes ≡ front ++ rest → IsGap comments front → is_clear comments rest ≡ true → Passes comments bytes rest
  all : IsLastGap comments bytes → rest ≡ [] → Passes comments bytes rest

more_pieces : (comments : Bool) (p : Piece) (front more : List ℕ) → IsPiece comments p front → IsGap comments more → IsGap comments (front ++ more)
more_pieces comments p front more is behind = (p ∷ behind.0, (front, more, refl, is, behind.1))

piece_before : (comments : Bool) (p : Piece) (front bytes more rest : List ℕ) → bytes ≡ front ++ more → IsPiece comments p front → Passes comments more rest → Passes comments bytes rest
piece_before comments p front bytes more rest e is (gap behind whole is_gap clear) =
    gap (front ++ behind) (e ∙ ap (λ xs. front ++ xs) whole ∙ sym (append_assoc front behind rest)) (more_pieces comments p front behind is is_gap) clear
piece_before comments p front bytes more rest e is (all last none) = all (elim last [
  | inl is_gap ↦ inl (subst (IsGap comments) (sym e) (more_pieces comments p front more is is_gap))
  | inr h ↦ inr (front ++ h.0, h.1, h.2, e ∙ ap (λ xs. front ++ xs) h.3 ∙ sym (append_assoc front h.0 (47 ∷ 47 ∷ h.1)), more_pieces comments p front h.0 is h.4, h.5)
]) none

-- a comment that ends, and what is passed after it
record Ends (comments : Bool) (Is : List ℕ → Type 0) (bytes rest : List ℕ) : Type 0 where
  front : List ℕ
  more : List ℕ
  whole : bytes ≡ front ++ more
  is : Is front
  passed : past_from comments Between more ≡ Some rest

line_takes : (comments : Bool) (bytes rest : List ℕ) → past_from comments Line bytes ≡ Some rest → Ends comments (λ s. is_line s ≡ true) bytes rest ⊎ ((list_all is_inside_line bytes ≡ true) × (rest ≡ []))
unfolding past_from
line_takes comments [] rest e = inr (refl, sym (some_is {A = List ℕ} [] rest e))
line_takes comments (b ∷ bytes) rest e = elim (true_or_false (b == 10)) [
  | inl feed ↦ let f : past_from comments Between bytes ≡ Some rest = rw feed at e in inl (record { front = b ∷ []; more = bytes; whole = refl; is = rw feed refl; passed = f })
  | inr other ↦
      let f : past_from comments Line bytes ≡ Some rest = rw other at e in
      elim (line_takes comments bytes rest f) [
        | inl h ↦ inl (record { front = b ∷ h.front; more = h.more; whole = ap (λ (xs : List ℕ). b ∷ xs) h.whole; is = rw other h.is; passed = h.passed })
        | inr h ↦ inr (rw (other, h.0) refl, h.1)
      ]
]

block_takes : (comments star : Bool) (bytes rest : List ℕ) → past_from comments (Block star) bytes ≡ Some rest → Ends comments (λ s. is_block star s ≡ true) bytes rest
unfolding past_from
block_takes comments star [] rest e = absurd cc
block_takes comments star (b ∷ bytes) rest e = elim (true_or_false (star && b == 47)) [
  | inl closed ↦ let f : past_from comments Between bytes ≡ Some rest = rw closed at e in record { front = b ∷ []; more = bytes; whole = refl; is = rw closed refl; passed = f }
  | inr other ↦
      let f : past_from comments (Block (b == 42)) bytes ≡ Some rest = rw other at e in
      let h = block_takes comments (b == 42) bytes rest f in
      record { front = b ∷ h.front; more = h.more; whole = ap (λ (xs : List ℕ). b ∷ xs) h.whole; is = rw other h.is; passed = h.passed }
]

two_bytes : (b k : ℕ) (bytes others : List ℕ) → b ≡ k → bytes ≡ others → 47 ∷ b ∷ bytes ≡ 47 ∷ k ∷ others
two_bytes b k bytes others first e = rw (first, e) refl

more_left : (front more bytes : List ℕ) → bytes ≡ front ++ more → length more < suc (length bytes)
more_left front more bytes e = let n = ap length e in let m = length-append front more in omega (arith, n, m)

-- after a slash: a comment
slash_takes : (comments : Bool) (bytes rest : List ℕ) → comments ≡ true → past_from comments Slash bytes ≡ Some rest → ((more : List ℕ) → length more < length bytes → past_from comments Between more ≡ Some rest → Passes comments more rest) → Passes comments (47 ∷ bytes) rest
unfolding past_from
slash_takes comments [] rest on e law = absurd cc
slash_takes comments (b ∷ bytes) rest on e law = elim (true_or_false (b == 47)) [
  | inl slash ↦
      let f : past_from comments Line bytes ≡ Some rest = rw slash at e in
      let at : b ≡ 47 = is_equal b 47 slash in
      elim (line_takes comments bytes rest f) [
        | inl h ↦ piece_before comments (line h.front) (47 ∷ 47 ∷ h.front) (47 ∷ b ∷ bytes) h.more rest (two_bytes b 47 bytes (h.front ++ h.more) at h.whole) (on, h.is, refl)
            (law h.more (more_left h.front h.more bytes h.whole) h.passed)
        | inr h ↦ all (inr ([], bytes, on, two_bytes b 47 bytes bytes at refl, ([], refl), h.0)) h.1
      ]
  | inr other ↦ elim (true_or_false (b == 42)) [
    | inl star ↦
        let f : past_from comments (Block false) bytes ≡ Some rest = rw (other, star) at e in
        let at : b ≡ 42 = is_equal b 42 star in
        let h = block_takes comments false bytes rest f in
        piece_before comments (block h.front) (47 ∷ 42 ∷ h.front) (47 ∷ b ∷ bytes) h.more rest (two_bytes b 42 bytes (h.front ++ h.more) at h.whole) (on, h.is, refl)
        (law h.more (more_left h.front h.more bytes h.whole) h.passed)
    | inr neither ↦ let f : None ≡ Some rest = rw (other, neither) at e in absurd cc
  ]
]

clear_if : (comments : Bool) (b : ℕ) (bytes : List ℕ) → is_blank b ≡ false → (comments && b == 47) ≡ false → is_clear comments (b ∷ bytes) ≡ true
clear_if comments b bytes e f = rw (e, f) refl

takes_within : (n : ℕ) (comments : Bool) (bytes rest : List ℕ) → length bytes < n → past_from comments Between bytes ≡ Some rest → Passes comments bytes rest
unfolding past_from
takes_within zero comments bytes rest below e = absurd (omega (arith, below))
takes_within (suc n) comments [] rest below e = subst (Passes comments []) (some_is {A = List ℕ} [] rest e) (gap [] refl ([], refl) refl)
takes_within (suc n) comments (b ∷ bytes) rest below e = elim (true_or_false (is_blank b)) [
  | inl is ↦
      let f : past_from comments Between bytes ≡ Some rest = rw is at e in
      piece_before comments (blank b) (b ∷ []) (b ∷ bytes) bytes rest refl (is, refl) (takes_within n comments bytes rest (omega (arith, below)) f)
  | inr other ↦ elim (true_or_false (comments && b == 47)) [
    | inl slash ↦
        let h = both comments (b == 47) slash in
        let f : past_from comments Slash bytes ≡ Some rest = rw (other, slash) at e in
        let at : b ≡ 47 = is_equal b 47 h.1 in
        subst (λ k. Passes comments (k ∷ bytes) rest) (sym at) (slash_takes comments bytes rest h.0 f (λ more less g. takes_within n comments more rest (omega (arith, below, less)) g))
    | inr none ↦
        subst (Passes comments (b ∷ bytes)) (some_is {A = List ℕ} (b ∷ bytes) rest (rw (other, none) at e)) (gap [] refl ([], refl) (clear_if comments b bytes other none))
  ]
]

pub gap_takes : (comments : Bool) (bytes rest : List ℕ) → past_gap comments bytes ≡ Some rest → Passes comments bytes rest
gap_takes comments bytes rest e = takes_within (suc (length bytes)) comments bytes rest (omega arith) e
