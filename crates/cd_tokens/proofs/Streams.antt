-- The tokens of a text, one after the other.
use Rattle.std.proofs.Common.{◌≡◌, ℕ, zero, suc, ◌+◌, ◌<◌, Bool, true, List, [], ◌∷◌, ◌++◌, length, Option, Some, None, refl, sym, ap, ◌∙◌, append_assoc, inl, inr, subst, arith}
use Rattle.std.specs.Prelude.{Err, option_map}
use Rattle.std.proofs.lemmas.List.{append-nil, length-append, nil_from_length}
use Rattle.ic_base.specs.declared.read_error.ReadError.{ReadError}
use Rattle.ic_base.specs.declared.read_error.ReadError.TheVariants.{NoMemory, Refused}
use Rattle.ic_base.specs.Gives.{Fails}
use Rattle.ic_base.specs.Spelling.{SpellsMany}
use Rattle.ic_base.proofs.Steps.{bind_some, some_is}
use Rattle.ic_base.specs.Reader.{◌>>=◌}
use Rattle.cd_tokens.specs.Token.{Token, IsToken, IsEnded}
use Rattle.cd_tokens.specs.Gap.{Piece, IsPiece, IsGap}
use Rattle.cd_tokens.specs.Lexed.{IsTokens, Agrees}
use Rattle.cd_tokens.specs.ReadGap.{past_gap}
use Rattle.cd_tokens.specs.ReadToken.{token_at}
use Rattle.cd_tokens.specs.ReadTokens.{tokens_from, tokens_of}
use Rattle.cd_tokens.proofs.Gaps.{is_clear, clear_stays, gap_again, last_again, gap, all, gap_takes}
use Rattle.cd_tokens.proofs.Firsts.{token_again, token_takes, token_clear, some_byte}

-- a token and what follows it, where no gap comes before
at_once : (comments : Bool) (t : Token) (tokens : List Token) (front rest : List ℕ) → IsToken t front → IsEnded t rest → IsTokens comments tokens rest → IsTokens comments (t ∷ tokens) (front ++ rest)
at_once comments t tokens front rest is ends follows = record { gap = []; front = front; rest = rest; whole = refl; is_gap = ([], refl); is_token = is; ended = ends; follows = follows }

-- what the tokens say of what is after the gap
record Past (comments : Bool) (tokens : List Token) (text : List ℕ) : Type 0 where
  rest : List ℕ
  passed : past_gap comments text ≡ Some rest
  tokens_are : IsTokens comments tokens rest
  clear : is_clear comments rest ≡ true

abbrev past : (comments : Bool) (tokens : List Token) (text : List ℕ) → IsTokens comments tokens text → Past comments tokens text
past comments [] text is = record { rest = []; passed = last_again comments text is; tokens_are = inl ([], refl); clear = refl }
past comments (t ∷ tokens) text is = let clear_is = token_clear comments t is.front is.rest is.is_token in record {
  rest = is.front ++ is.rest;
  passed = ap (past_gap comments) is.whole ∙ gap_again comments is.gap (is.front ++ is.rest) is.is_gap ∙ clear_stays comments (is.front ++ is.rest) clear_is;
  tokens_are = at_once comments t tokens is.front is.rest is.is_token is.ended is.follows;
  clear = clear_is;
}

past_is : (comments : Bool) (tokens : List Token) (text rest : List ℕ) → past_gap comments text ≡ Some rest → IsTokens comments tokens text → IsTokens comments tokens rest
past_is comments tokens text rest e is = let p = past comments tokens text is in subst (IsTokens comments tokens) (some_is {A = List ℕ} p.rest rest (sym p.passed ∙ e)) p.tokens_are

pieces_both : (comments : Bool) (ps qs : List Piece) (front back : List ℕ) → SpellsMany (IsPiece comments) ps front → SpellsMany (IsPiece comments) qs back → SpellsMany (IsPiece comments) (ps ++ qs) (front ++ back)
pieces_both comments [] qs front back are others = rw are others
pieces_both comments (p ∷ ps) qs front back are others =
    (are.0, are.1 ++ back, ap (λ xs. xs ++ back) are.2 ∙ append_assoc are.0 are.1 back, are.3, pieces_both comments ps qs are.1 back are.4 others)

gap_both : (comments : Bool) (front back : List ℕ) → IsGap comments front → IsGap comments back → IsGap comments (front ++ back)
gap_both comments front back a b = (a.0 ++ b.0, pieces_both comments a.0 b.0 front back a.1 b.1)

pub gap_before : (comments : Bool) (tokens : List Token) (text front rest : List ℕ) → text ≡ front ++ rest → IsGap comments front → IsTokens comments tokens rest → IsTokens comments tokens text
gap_before comments [] text front rest e is last = elim last [
  | inl is_gap ↦ inl (subst (IsGap comments) (sym e) (gap_both comments front rest is is_gap))
  | inr h ↦ inr (front ++ h.0, h.1, h.2, e ∙ ap (λ xs. front ++ xs) h.3 ∙ sym (append_assoc front h.0 (47 ∷ 47 ∷ h.1)), gap_both comments front h.0 is h.4, h.5)
]
gap_before comments (t ∷ tokens) text front rest e is next = record {
  gap = front ++ next.gap;
  front = next.front;
  rest = next.rest;
  whole = e ∙ ap (λ xs. front ++ xs) next.whole ∙ sym (append_assoc front next.gap (next.front ++ next.rest));
  is_gap = gap_both comments front next.gap is next.is_gap;
  is_token = next.is_token;
  ended = next.ended;
  follows = next.follows;
}

no_front : (blanks front rest : List ℕ) → [] ≡ blanks ++ (front ++ rest) → 0 < length front → ⊥
no_front blanks front rest e some =
    let n : 0 ≡ length blanks + (length front + length rest) = ap length e ∙ simp (length-append) refl in
    omega (arith, n, some)

only_empty : (comments : Bool) (tokens : List Token) → IsTokens comments tokens [] → tokens ≡ []
only_empty comments [] is = refl
only_empty comments (t ∷ tokens) is = absurd (no_front is.gap is.front is.rest is.whole (some_byte t is.front is.is_token))

before : (comments : Bool) (tokens : List Token) (text rest : List ℕ) → past_gap comments text ≡ Some rest → IsTokens comments tokens rest → IsTokens comments tokens text
before comments tokens text rest e is = elim (gap_takes comments text rest e) [
  | gap front whole is_gap clear ↦ gap_before comments tokens text front rest whole is_gap is
  | all last none ↦ subst (λ ts. IsTokens comments ts text) (sym (only_empty comments tokens (subst (IsTokens comments tokens) none is))) last
]

-- a token that is read comes before the tokens of what follows
one_before : (comments : Bool) (t : Token) (tokens : List Token) (text rest : List ℕ) → token_at text ≡ Some (t, rest) → IsTokens comments tokens rest → IsTokens comments (t ∷ tokens) text
one_before comments t tokens text rest e is =
    let r = token_takes text (t, rest) e in
    subst (IsTokens comments (t ∷ tokens)) (sym r.whole) (at_once comments t tokens r.front rest r.is_token r.ended is)

-- the first token of a text that begins with no gap
record Begins (comments : Bool) (tokens : List Token) (text : List ℕ) : Type 0 where
  first : Token
  more : List Token
  rest : List ℕ
  are : tokens ≡ first ∷ more
  read : token_at text ≡ Some (first, rest)
  follows : IsTokens comments more rest

first_of : (comments : Bool) (tokens : List Token) (text : List ℕ) → is_clear comments text ≡ true → 0 < length text → IsTokens comments tokens text → Begins comments tokens text
first_of comments [] text clear some is =
    let none = some_is {A = List ℕ} text [] (sym (clear_stays comments text clear) ∙ last_again comments text is) in
    let n = ap length none in absurd (omega (arith, n, some))
first_of comments (t ∷ tokens) text clear some is =
    let p = past comments (t ∷ tokens) text is in
    let whole = some_is {A = List ℕ} text (is.front ++ is.rest) (sym (clear_stays comments text clear) ∙ p.passed) in
    record { first = t; more = tokens; rest = is.rest; are = refl; read = ap token_at whole ∙ token_again t is.front is.rest is.is_token is.ended; follows = is.follows }

-- what a loop has read, and what it has still to read
pub record Read (comments : Bool) (done : List Token) (rest text : List ℕ) : Type 0 where
  pub starts : is_clear comments rest ≡ true
  pub found : (tokens : List Token) → IsTokens comments tokens rest → IsTokens comments (done ++ tokens) text
  pub only : (tokens : List Token) → IsTokens comments tokens text → (more : List Token) × (tokens ≡ done ++ more) × IsTokens comments more rest

clear_behind : (comments : Bool) (text rest : List ℕ) → past_gap comments text ≡ Some rest → is_clear comments rest ≡ true
clear_behind comments text rest e = elim (gap_takes comments text rest e) [
  | gap front whole is_gap clear ↦ clear
  | all last none ↦ rw none refl
]

pub at_first : (comments : Bool) (text rest : List ℕ) → past_gap comments text ≡ Some rest → Read comments [] rest text
at_first comments text rest e = record {
  starts = clear_behind comments text rest e;
  found = λ tokens is. before comments tokens text rest e is;
  only = λ tokens is. (tokens, refl, past_is comments tokens text rest e is);
}

pub one_read : (comments : Bool) (done : List Token) (rest text : List ℕ) (t : Token) (after behind : List ℕ) → Read comments done rest text → 0 < length rest → token_at rest ≡ Some (t, after) → past_gap comments after ≡ Some behind
    → Read comments (done ++ t ∷ []) behind text
one_read comments done rest text t after behind r some e passed = record {
  starts = clear_behind comments after behind passed;
  found = λ tokens is. subst (λ ts. IsTokens comments ts text) (sym (append_assoc done (t ∷ []) tokens)) (r.found (t ∷ tokens) (one_before comments t tokens rest after e (before comments tokens after behind passed is)));
  only = λ tokens is.
      let m = r.only tokens is in
      let f = first_of comments m.0 rest r.starts some m.2 in
      let same : (f.first, f.rest) ≡ (t, after) = some_is {A = Token × List ℕ} (f.first, f.rest) (t, after) (sym f.read ∙ e) in
      let first : f.first ≡ t = ap (λ (z : Token × List ℕ). z.0) same in
      let rests : f.rest ≡ after = ap (λ (z : Token × List ℕ). z.1) same in
      (f.more, m.1 ∙ ap (λ ts. done ++ ts) (f.are ∙ ap (λ (x : Token). x ∷ f.more) first) ∙ sym (append_assoc done (t ∷ []) f.more), past_is comments f.more after behind passed (subst (IsTokens comments f.more) rests f.follows));
}

none_some : {A : Type 0} (x : A) (read : Option A) → read ≡ None → read ≡ Some x → ⊥
none_some x read e f = cc

-- no token is where one should
pub no_token : (comments : Bool) (done : List Token) (rest text : List ℕ) → Read comments done rest text → 0 < length rest → token_at rest ≡ None → (tokens : List Token) → IsTokens comments tokens text → ⊥
no_token comments done rest text r some e tokens is =
    let m = r.only tokens is in
    let f = first_of comments m.0 rest r.starts some m.2 in
    none_some (f.first, f.rest) (token_at rest) e f.read

pub no_gap : (comments : Bool) (text : List ℕ) → past_gap comments text ≡ None → (tokens : List Token) → IsTokens comments tokens text → ⊥
no_gap comments text e tokens is = let p = past comments tokens text is in none_some p.rest (past_gap comments text) e p.passed

pub no_gap_behind : (comments : Bool) (done : List Token) (rest text : List ℕ) (t : Token) (after : List ℕ) → Read comments done rest text → 0 < length rest → token_at rest ≡ Some (t, after) → past_gap comments after ≡ None
    → (tokens : List Token) → IsTokens comments tokens text → ⊥
no_gap_behind comments done rest text t after r some e none tokens is =
    let m = r.only tokens is in
    let f = first_of comments m.0 rest r.starts some m.2 in
    let same : (f.first, f.rest) ≡ (t, after) = some_is {A = Token × List ℕ} (f.first, f.rest) (t, after) (sym f.read ∙ e) in
    no_gap comments after none f.more (subst (IsTokens comments f.more) (ap (λ (z : Token × List ℕ). z.1) same) f.follows)

pub all_read : (comments : Bool) (done : List Token) (rest text : List ℕ) → Read comments done rest text → length rest ≡ 0 → IsTokens comments done text
all_read comments done rest text r none =
    let e : rest ≡ [] = nil_from_length rest none in
    subst (λ ts. IsTokens comments ts text) (append-nil done) (r.found [] (subst (IsTokens comments []) (sym e) (inl ([], refl))))

pub all_are : (comments : Bool) (done : List Token) (rest text : List ℕ) → Read comments done rest text → length rest ≡ 0 → (tokens : List Token) → IsTokens comments tokens text → done ≡ tokens
all_are comments done rest text r none tokens is =
    let e : rest ≡ [] = nil_from_length rest none in
    let m = r.only tokens is in
    let n : m.0 ≡ [] = only_empty comments m.0 (subst (IsTokens comments m.0) e m.2) in
    sym (m.1 ∙ ap (λ ts. done ++ ts) n ∙ append-nil done)

-- the text gets shorter
pub shorter : (comments : Bool) (rest : List ℕ) (t : Token) (after behind : List ℕ) → token_at rest ≡ Some (t, after) → past_gap comments after ≡ Some behind → length behind < length rest
shorter comments rest t after behind e passed =
    let r = token_takes rest (t, after) e in
    let n : length rest ≡ length r.front + length after = ap length r.whole ∙ length-append r.front after in
    let some = some_byte t r.front r.is_token in
    elim (gap_takes comments after behind passed) [
      | gap front whole is_gap clear ↦ let m = ap length whole ∙ length-append front behind in omega (arith, n, m, some)
      | all last none ↦ let m = ap length none in omega (arith, n, m, some)
    ]

-- why the loop stops before the end: no text has tokens then
-- what the code found, seen by view, where it found something
pub found_is : {A B : Type 0} (view : A → B) (found : Option A) (read : Option B) (x : A) → option_map view found ≡ read → found ≡ Some x → read ≡ Some (view x)
found_is view found read x e is = sym e ∙ ap (option_map view) is

pub none_fails : {A B : Type 0} (e : ReadError) (view : A → B) (found : Option A) (read : Option B) → option_map view found ≡ read → found ≡ None → Fails e read
none_fails NoMemory view found read e is = tt
none_fails Refused view found read e is = sym e ∙ ap (option_map view) is

pub no_first_gap : {A : Type 0} (view : A → List Token) (e : ReadError) (comments : Bool) (text : List ℕ) → Fails e (past_gap comments text) → (tokens : List Token) → IsTokens comments tokens text → Agrees view (Err e) tokens
no_first_gap view NoMemory comments text none tokens is = tt
no_first_gap view Refused comments text none tokens is = no_gap comments text none tokens is

pub no_token_there : {A : Type 0} (view : A → List Token) (e : ReadError) (comments : Bool) (done : List Token) (rest text : List ℕ) → Read comments done rest text → 0 < length rest → Fails e (token_at rest)
    → (tokens : List Token) → IsTokens comments tokens text → Agrees view (Err e) tokens
no_token_there view NoMemory comments done rest text r some none tokens is = tt
no_token_there view Refused comments done rest text r some none tokens is = no_token comments done rest text r some none tokens is

pub no_gap_there : {A : Type 0} (view : A → List Token) (e : ReadError) (comments : Bool) (done : List Token) (rest text : List ℕ) (t : Token) (after : List ℕ) → Read comments done rest text → 0 < length rest → token_at rest ≡ Some (t, after) → Fails e (past_gap comments after)
    → (tokens : List Token) → IsTokens comments tokens text → Agrees view (Err e) tokens
no_gap_there view NoMemory comments done rest text t after r some e none tokens is = tt
no_gap_there view Refused comments done rest text t after r some e none tokens is = no_gap_behind comments done rest text t after r some e none tokens is

-- no text has two lists of tokens
pub one_list : (comments : Bool) (tokens others : List Token) (text : List ℕ) → IsTokens comments tokens text → IsTokens comments others text → tokens ≡ others
one_list comments [] others text is are =
    let p = past comments others text are in
    let none : p.rest ≡ [] = some_is {A = List ℕ} p.rest [] (sym p.passed ∙ last_again comments text is) in
    sym (only_empty comments others (subst (IsTokens comments others) none p.tokens_are))
one_list comments (t ∷ tokens) others text is are =
    let p = past comments (t ∷ tokens) text is in
    let q = past_is comments others text p.rest p.passed are in
    let some : 0 < length (is.front ++ is.rest) = let n = length-append is.front is.rest in let m = some_byte t is.front is.is_token in omega (arith, n, m) in
    let f = first_of comments others (is.front ++ is.rest) p.clear some q in
    let same : (t, is.rest) ≡ (f.first, f.rest) = some_is {A = Token × List ℕ} (t, is.rest) (f.first, f.rest) (sym (token_again t is.front is.rest is.is_token is.ended) ∙ f.read) in
    let firsts : t ≡ f.first = ap (λ (z : Token × List ℕ). z.0) same in
    let rests : is.rest ≡ f.rest = ap (λ (z : Token × List ℕ). z.1) same in
    ap (λ (x : Token). x ∷ tokens) firsts ∙ ap (λ (xs : List Token). f.first ∷ xs) (one_list comments tokens f.more is.rest is.follows (subst (IsTokens comments f.more) (sym rests) f.follows)) ∙ sym f.are

-- ---- the tokens as a function

from_takes : (comments : Bool) (fuel : ℕ) (text : List ℕ) (tokens : List Token) → tokens_from comments fuel text ≡ Some tokens → IsTokens comments tokens text
unfolding tokens_from
from_takes comments zero text tokens e = absurd cc
from_takes comments (suc fuel) [] tokens e = subst (λ ts. IsTokens comments ts []) (some_is {A = List Token} [] tokens e) (inl ([], refl))
from_takes comments (suc fuel) (b ∷ bytes) tokens e =
    let a = bind_some (token_at (b ∷ bytes)) (λ x. past_gap comments x.1 >>= λ rest. tokens_from comments fuel rest >>= λ ts. Some (x.0 ∷ ts)) tokens e in
    let p = bind_some (past_gap comments a.0.1) (λ rest. tokens_from comments fuel rest >>= λ ts. Some (a.0.0 ∷ ts)) tokens a.2 in
    let m = bind_some (tokens_from comments fuel p.0) (λ ts. Some (a.0.0 ∷ ts)) tokens p.2 in
    subst (λ ts. IsTokens comments ts (b ∷ bytes)) (some_is {A = List Token} (a.0.0 ∷ m.0) tokens m.2)
    (one_before comments a.0.0 m.0 (b ∷ bytes) a.0.1 a.1 (before comments m.0 a.0.1 p.0 p.1 (from_takes comments fuel p.0 m.0 m.1)))

from_again : (comments : Bool) (fuel : ℕ) (text : List ℕ) (tokens : List Token) → is_clear comments text ≡ true → length text < fuel → IsTokens comments tokens text → tokens_from comments fuel text ≡ Some tokens
unfolding tokens_from
from_again comments zero text tokens clear enough is = absurd (omega (arith, enough))
from_again comments (suc fuel) [] tokens clear enough is = ap (λ ts. Some ts) (sym (only_empty comments tokens is))
from_again comments (suc fuel) (b ∷ bytes) tokens clear enough is =
    let f = first_of comments tokens (b ∷ bytes) clear (omega arith) is in
    let p = past comments f.more f.rest f.follows in
    let less = shorter comments (b ∷ bytes) f.first f.rest p.rest f.read p.passed in
    rw (f.read, p.passed, from_again comments fuel p.rest f.more p.clear (omega (arith, less, enough)) p.tokens_are) (ap (λ ts. Some ts) (sym f.are))

pub tokens_take : (comments : Bool) (text : List ℕ) (tokens : List Token) → tokens_of comments text ≡ Some tokens → IsTokens comments tokens text
unfolding tokens_of
tokens_take comments text tokens e =
    let a = bind_some (past_gap comments text) (λ rest. tokens_from comments (suc (length rest)) rest) tokens e in
    before comments tokens text a.0 a.1 (from_takes comments (suc (length a.0)) a.0 tokens a.2)

pub tokens_again : (comments : Bool) (text : List ℕ) (tokens : List Token) → IsTokens comments tokens text → tokens_of comments text ≡ Some tokens
unfolding tokens_of
tokens_again comments text tokens is =
    let p = past comments tokens text is in
    rw p.passed (from_again comments (suc (length p.rest)) p.rest tokens p.clear (omega arith) p.tokens_are)
