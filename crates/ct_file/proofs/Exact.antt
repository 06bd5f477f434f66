-- Functions that read tokens, and what is spelled: both ways, for the ways to make one of others.
use Rattle.std.proofs.Common.{◌≡◌, ℕ, zero, suc, ◌+◌, ◌<◌, Bool, true, false, List, [], ◌∷◌, ◌++◌, length, drop, Option, Some, None, refl, sym, ap, subst, ◌∙◌, append_assoc, inl, inr, ◌⊎◌, arith}
use Rattle.std.specs.Prelude.{IfSome, flat_map, if◌then◌else◌}
use Rattle.std.proofs.lemmas.List.{length-append}
use Rattle.std.specs.List.{AllByRecursion}
use Rattle.ic_base.specs.Reader.{◌>>=◌}
use Rattle.ic_base.proofs.Steps.{bind_some, some_is}
use Rattle.cd_tokens.specs.Token.{Token, mark}
use Rattle.ct_file.specs.declared.keyword.Keyword.{Keyword}
use Rattle.cd_tokens.specs.Front.{is_mark, starts}
use Rattle.cd_tokens.proofs.Fronts.{true_or_false}
use Rattle.cd_tokens.proofs.Starts.{same_mark, started}
use Rattle.ct_file.specs.Words.{word, is_word}
use Rattle.ct_file.specs.Grammar.{maybe}
use Rattle.ct_file.specs.Fits.{OneOrMore}
use Rattle.ct_file.specs.Read.{Reads, past, first_at, map_at, both_at, after_at, before_at, maybe_at, or_at, nothing_at, parts_at, many_at, with_front, some_at}
use Rattle.ct_file.proofs.Words.{same_word, word_first}

-- what was read is spelled at the front and fits
abbrev pub Taken : {A : Type 0} → (A → List Token) → (A → Type 0) → List Token → A × List Token → Type 0
Taken spelled Fits tokens z = (tokens ≡ spelled z.0 ++ z.1) × Fits z.0

abbrev pub Takes : {A : Type 0} → (A → List Token) → (A → Type 0) → Reads A → Type 0
Takes {A} spelled Fits read = (tokens : List Token) (z : A × List Token) → read tokens ≡ Some z → Taken spelled Fits tokens z

-- what is spelled and fits is read, before tokens that are free
abbrev pub Again : {A : Type 0} → (A → List Token) → (A → Type 0) → (List Token → Bool) → Reads A → Type 0
Again {A} spelled Fits free read = (x : A) (rest : List Token) → Fits x → free rest ≡ true → read (spelled x ++ rest) ≡ Some (x, rest)

pub record Sound {A : Type 0} (spelled : A → List Token) (Fits : A → Type 0) (read : Reads A) : Type 0 where
  pub takes : Takes spelled Fits read

pub record Exact {A : Type 0} (spelled : A → List Token) (Fits : A → Type 0) (free : List Token → Bool) (read : Reads A) : Type 0 where
  pub takes : Takes spelled Fits read
  pub again : Again spelled Fits free read

-- before any tokens
abbrev pub anything : List Token → Bool
anything tokens = true

-- ---- single tokens

-- a test that one token passes
pub record Tests (test : Token → Bool) (t : Token) : Type 0 where
  pub first : (tokens : List Token) → starts test tokens ≡ true → tokens ≡ t ∷ drop 1 tokens
  pub passes : test t ≡ true

pub is_the_mark : (k : ℕ) → Tests (is_mark k) (mark k)
is_the_mark k = record { first = started k; passes = same_mark k }

pub is_the_word : (w : Keyword) → Tests (is_word w) (word w)
is_the_word w = record { first = word_first w; passes = same_word w }

-- which way was chosen
pub chosen : {A : Type 0} (test : Bool) (x y z : A) → (if test then x else y) ≡ z → ((test ≡ true) × (x ≡ z)) ⊎ ((test ≡ false) × (y ≡ z))
chosen true x y z e = inl (refl, e)
chosen false x y z e = inr (refl, e)

past_takes : (test : Token → Bool) (t : Token) → Tests test t → (tokens rest : List Token) → past test tokens ≡ Some rest → tokens ≡ t ∷ rest
past_takes test t is tokens rest e = elim (chosen (starts test tokens) (Some (drop 1 tokens)) None (Some rest) e) [
  | inl h ↦ is.first tokens h.0 ∙ ap (λ (ts : List Token). t ∷ ts) (some_is {A = List Token} (drop 1 tokens) rest h.1)
  | inr h ↦ let f : None ≡ Some rest = h.1 in absurd cc
]

-- a value that one token spells
pub token_sound : {A : Type 0} {test : Token → Bool} {t : Token} (x : A) (spelled : A → List Token) (Fits : A → Type 0) → Tests test t → (spelled x ≡ t ∷ []) → Fits x → Sound spelled Fits (λ tokens. past test tokens >>= λ rest. Some (x, rest))
token_sound {A} {test} {t} x spelled Fits is same fits = record {
  takes = λ tokens z e.
      let a = bind_some (past test tokens) (λ rest. Some (x, rest)) z e in
      subst (Taken spelled Fits tokens) (some_is {A = A × List Token} (x, a.0) z a.2) (past_takes test t is tokens a.0 a.1 ∙ ap (λ ts. ts ++ a.0) (sym same), fits);
}

first_takes : {A : Type 0} (what : Token → Option A) (token : A → Token) (Fits : A → Type 0) → ((t : Token) (x : A) → what t ≡ Some x → (t ≡ token x) × Fits x)
    → (tokens : List Token) (z : A × List Token) → first_at what tokens ≡ Some z → Taken (λ x. token x ∷ []) Fits tokens z
first_takes what token Fits takes [] z e = absurd cc
first_takes {A} what token Fits takes (t ∷ rest) z e =
    let a = bind_some (what t) (λ x. Some (x, rest)) z e in
    let l = takes t a.0 a.1 in
    subst (Taken (λ x. token x ∷ []) Fits (t ∷ rest)) (some_is {A = A × List Token} (a.0, rest) z a.2) (ap (λ (u : Token). u ∷ rest) l.0, l.1)

pub first_exact : {A : Type 0} (what : Token → Option A) (token : A → Token) (Fits : A → Type 0) → ((t : Token) (x : A) → what t ≡ Some x → (t ≡ token x) × Fits x) → ((x : A) → Fits x → what (token x) ≡ Some x)
    → Exact (λ x. token x ∷ []) Fits anything (first_at what)
first_exact what token Fits takes again = record {
  takes = first_takes what token Fits takes;
  again = λ x rest fits free. rw (again x fits) refl;
}

-- ---- what f makes of what is read

pub map_sound : {A B : Type 0} {spelled : A → List Token} {Fits : A → Type 0} {free : List Token → Bool} {read : Reads A} (f : A → B) (shown : B → List Token) (Made : B → Type 0)
    → Exact spelled Fits free read → ((x : A) → spelled x ≡ shown (f x)) → ((x : A) → Fits x → Made (f x)) → Sound shown Made (map_at f read)
map_sound {A} {B} {read = read} f shown Made exact same there = record {
  takes = λ tokens z e.
      let a = bind_some (read tokens) (λ x. Some (f x.0, x.1)) z e in
      let l = exact.takes tokens a.0 a.1 in
      subst (Taken shown Made tokens) (some_is {A = B × List Token} (f a.0.0, a.0.1) z a.2) (l.0 ∙ ap (λ ts. ts ++ a.0.1) (same a.0.0), there a.0.0 l.1);
}

pub map_again : {A B : Type 0} {spelled : A → List Token} {Fits : A → Type 0} {free : List Token → Bool} {read : Reads A} (f : A → B) → Exact spelled Fits free read
    → (x : A) (rest : List Token) → Fits x → free rest ≡ true → map_at f read (spelled x ++ rest) ≡ Some (f x, rest)
map_again f exact x rest fits free_is = rw (exact.again x rest fits free_is) refl

-- f gives a value back, where g takes it apart
pub map_exact : {A B : Type 0} {spelled : A → List Token} {Fits : A → Type 0} {free : List Token → Bool} {read : Reads A} (f : A → B) (g : B → A) (shown : B → List Token) (Made : B → Type 0)
    → Exact spelled Fits free read → ((x : A) → spelled x ≡ shown (f x)) → ((y : B) → f (g y) ≡ y) → ((x : A) → Fits x → Made (f x)) → ((y : B) → Made y → Fits (g y)) → Exact shown Made free (map_at f read)
map_exact {A} {B} {spelled} {read = read} f g shown Made exact same is there here = record {
  takes = (map_sound f shown Made exact same there).takes;
  again = λ y rest made free_is.
      let e : shown y ≡ spelled (g y) = ap shown (sym (is y)) ∙ sym (same (g y)) in
      ap (λ ts. map_at f read (ts ++ rest)) e ∙ map_again f exact (g y) rest (here y made) free_is ∙ ap (λ (b : B). Some (b, rest)) (is y);
}

-- the same tokens, said otherwise
pub respelled : {A : Type 0} {spelled : A → List Token} {Fits : A → Type 0} {free : List Token → Bool} {read : Reads A} (shown : A → List Token) → Exact spelled Fits free read → ((x : A) → spelled x ≡ shown x) → Exact shown Fits free read
respelled {read = read} shown exact same = record {
  takes = λ tokens z e. let l = exact.takes tokens z e in (l.0 ∙ ap (λ ts. ts ++ z.1) (same z.0), l.1);
  again = λ x rest fits free_is. ap (λ ts. read (ts ++ rest)) (sym (same x)) ∙ exact.again x rest fits free_is;
}

-- ---- one part and then another

pub both_exact : {A B : Type 0} {spelled : A → List Token} {Fits : A → Type 0} {free : List Token → Bool} {read : Reads A} {shown : B → List Token} {Other : B → Type 0} {clear : List Token → Bool} {next : Reads B}
    → Exact spelled Fits free read → Exact shown Other clear next → ((y : B) (rest : List Token) → Other y → clear rest ≡ true → free (shown y ++ rest) ≡ true)
    → Exact (λ (x : A × B). spelled x.0 ++ shown x.1) (λ x. Fits x.0 × Other x.1) clear (both_at read next)
both_exact {A} {B} {spelled} {Fits} {read = read} {shown} {Other} {next = next} first second frees = record {
  takes = λ tokens z e.
      let a = bind_some (read tokens) (λ x. next x.1 >>= λ y. Some ((x.0, y.0), y.1)) z e in
      let b = bind_some (next a.0.1) (λ y. Some ((a.0.0, y.0), y.1)) z a.2 in
      let l = first.takes tokens a.0 a.1 in
      let m = second.takes a.0.1 b.0 b.1 in
      subst (Taken (λ (x : A × B). spelled x.0 ++ shown x.1) (λ x. Fits x.0 × Other x.1) tokens) (some_is {A = (A × B) × List Token} ((a.0.0, b.0.0), b.0.1) z b.2)
      (l.0 ∙ ap (λ ts. spelled a.0.0 ++ ts) m.0 ∙ sym (append_assoc (spelled a.0.0) (shown b.0.0) b.0.1), (l.1, m.1));
  again = λ x rest fits free_is.
      let s : both_at read next (spelled x.0 ++ (shown x.1 ++ rest)) ≡ Some (x, rest) = rw (first.again x.0 (shown x.1 ++ rest) fits.0 (frees x.1 rest fits.1 free_is), second.again x.1 rest fits.1 free_is) refl in
      ap (both_at read next) (append_assoc (spelled x.0) (shown x.1) rest) ∙ s;
}

-- ---- after and before a token

pub after_exact : {A : Type 0} {test : Token → Bool} {t : Token} {spelled : A → List Token} {Fits : A → Type 0} {free : List Token → Bool} {read : Reads A}
    → Tests test t → Exact spelled Fits free read → Exact (λ x. t ∷ spelled x) Fits free (after_at test read)
after_exact {test = test} {t} {read = read} is exact = record {
  takes = λ tokens z e.
      let a = bind_some (past test tokens) read z e in
      let l = exact.takes a.0 z a.2 in
      (past_takes test t is tokens a.0 a.1 ∙ ap (λ (ts : List Token). t ∷ ts) l.0, l.1);
  again = λ x rest fits free_is. rw is.passes (exact.again x rest fits free_is);
}

pub before_exact : {A : Type 0} {test : Token → Bool} {t : Token} {spelled : A → List Token} {Fits : A → Type 0} {free : List Token → Bool} {read : Reads A}
    → Tests test t → Exact spelled Fits free read → ((rest : List Token) → free (t ∷ rest) ≡ true) → Exact (λ x. spelled x ++ t ∷ []) Fits anything (before_at test read)
before_exact {A} {test} {t} {spelled} {Fits} {read = read} is exact frees = record {
  takes = λ tokens z e.
      let a = bind_some (read tokens) (λ x. past test x.1 >>= λ rest. Some (x.0, rest)) z e in
      let b = bind_some (past test a.0.1) (λ rest. Some (a.0.0, rest)) z a.2 in
      let l = exact.takes tokens a.0 a.1 in
      subst (Taken (λ x. spelled x ++ t ∷ []) Fits tokens) (some_is {A = A × List Token} (a.0.0, b.0) z b.2)
      (l.0 ∙ ap (λ ts. spelled a.0.0 ++ ts) (past_takes test t is a.0.1 b.0 b.1) ∙ sym (append_assoc (spelled a.0.0) (t ∷ []) b.0), l.1);
  again = λ x rest fits free_is.
      let s : before_at test read (spelled x ++ (t ∷ rest)) ≡ Some (x, rest) = rw (exact.again x (t ∷ rest) fits (frees rest), is.passes) refl in
      ap (before_at test read) (append_assoc (spelled x) (t ∷ []) rest) ∙ s;
}

-- ---- what may be left out, and one of two ways

maybe_again : {A : Type 0} (test : Token → Bool) (spelled : A → List Token) (Fits : A → Type 0) (free : List Token → Bool) (read : Reads A) → Exact spelled Fits free read
    → ((x : A) (rest : List Token) → Fits x → starts test (spelled x ++ rest) ≡ true) → (o : Option A) (rest : List Token) → IfSome o Fits → (free rest ≡ true) × (starts test rest ≡ false) → maybe_at test read (maybe spelled o ++ rest) ≡ Some (o, rest)
maybe_again test spelled Fits free read exact begins None rest fits frees = rw frees.1 refl
maybe_again test spelled Fits free read exact begins (Some x) rest fits frees = rw (begins x rest fits, exact.again x rest fits frees.0) refl

pub maybe_exact : {A : Type 0} {spelled : A → List Token} {Fits : A → Type 0} {free : List Token → Bool} {read : Reads A} (test : Token → Bool) (clear : List Token → Bool)
    → Exact spelled Fits free read → ((x : A) (rest : List Token) → Fits x → starts test (spelled x ++ rest) ≡ true) → ((rest : List Token) → clear rest ≡ true → (free rest ≡ true) × (starts test rest ≡ false))
    → Exact (maybe spelled) (λ o. IfSome o Fits) clear (maybe_at test read)
maybe_exact {A} {spelled} {Fits} {free} {read} test clear exact begins frees = record {
  takes = λ tokens z e. elim (chosen (starts test tokens) (map_at (λ x. Some x) read tokens) (Some (None, tokens)) (Some z) e) [
    | inl h ↦ (map_sound (λ x. Some x) (maybe spelled) (λ o. IfSome o Fits) exact (λ x. refl) (λ x fits. fits)).takes tokens z h.1
    | inr h ↦ subst (Taken (maybe spelled) (λ o. IfSome o Fits) tokens) (some_is {A = Option A × List Token} (None, tokens) z h.1) (refl, tt)
  ];
  again = λ o rest fits clear_is. maybe_again test spelled Fits free read exact begins o rest fits (frees rest clear_is);
}

pub or_sound : {A : Type 0} {spelled : A → List Token} {Fits : A → Type 0} {read other : Reads A} (test : Token → Bool) → Sound spelled Fits read → Sound spelled Fits other → Sound spelled Fits (or_at test read other)
or_sound {read = read} {other} test first second = record {
  takes = λ tokens z e. elim (chosen (starts test tokens) (read tokens) (other tokens) (Some z) e) [ inl h ↦ first.takes tokens z h.1 | inr h ↦ second.takes tokens z h.1 ];
}

pub nothing_sound : {A : Type 0} (spelled : A → List Token) (Fits : A → Type 0) → Sound spelled Fits nothing_at
nothing_sound spelled Fits = record { takes = λ tokens z e. absurd cc }

-- ---- parts until they end

-- a part takes a token
abbrev pub Shrinks : {A : Type 0} → Reads A → Type 0
Shrinks {A} read = (tokens : List Token) (z : A × List Token) → read tokens ≡ Some z → length z.1 < length tokens

-- any fuel that is enough reads the same
part_same : {A : Type 0} (ends : List Token → Bool) (read : Reads A) (f g : ℕ) (found : Option (A × List Token)) → ((z : A × List Token) → found ≡ Some z → parts_at ends read f z.1 ≡ parts_at ends read g z.1)
    → (found >>= λ x. with_front (x.0 ∷ []) (parts_at ends read f x.1)) ≡ (found >>= λ x. with_front (x.0 ∷ []) (parts_at ends read g x.1))
part_same ends read f g None same = refl
part_same ends read f g (Some z) same = rw (same z refl) refl

fuel_same : {A : Type 0} (ends : List Token → Bool) (read : Reads A) → Shrinks read → (f g : ℕ) (tokens : List Token) → length tokens < f → length tokens < g → parts_at ends read f tokens ≡ parts_at ends read g tokens
unfolding parts_at
fuel_same ends read less zero g tokens enough more = absurd (omega (arith, enough))
fuel_same ends read less (suc f) zero tokens enough more = absurd (omega (arith, more))
fuel_same ends read less (suc f) (suc g) tokens enough more = elim (true_or_false (ends tokens)) [
  | inl h ↦ rw h refl
  | inr h ↦ rw h (part_same ends read f g (read tokens) (λ z e. let l = less tokens z e in fuel_same ends read less f g z.1 (omega (arith, l, enough)) (omega (arith, l, more))))
]

-- what a part and more are, with the fuel that the more need
pub one_more : {A : Type 0} (ends : List Token → Bool) (read : Reads A) → Shrinks read → (tokens : List Token) (x : A) (rest : List Token) → ends tokens ≡ false → read tokens ≡ Some (x, rest)
    → many_at ends read tokens ≡ with_front (x ∷ []) (many_at ends read rest)
unfolding parts_at
one_more ends read less tokens x rest goes e =
    let l = less tokens (x, rest) e in
    rw (goes, e, fuel_same ends read less (length tokens) (suc (length rest)) rest (omega (arith, l)) (omega arith)) refl

pub no_more : {A : Type 0} (ends : List Token → Bool) (read : Reads A) (tokens : List Token) → ends tokens ≡ true → many_at ends read tokens ≡ Some ([], tokens)
unfolding parts_at
no_more ends read tokens is = rw is refl

pub no_part : {A : Type 0} (ends : List Token → Bool) (read : Reads A) (tokens : List Token) → ends tokens ≡ false → read tokens ≡ None → many_at ends read tokens ≡ None
unfolding parts_at
no_part ends read tokens goes e = rw (goes, e) refl

-- what was read of parts, and that they end there
abbrev pub AllTaken : {A : Type 0} → (List Token → Bool) → (A → List Token) → (A → Type 0) → List Token → List A × List Token → Type 0
AllTaken ends spelled Fits tokens z = (tokens ≡ flat_map spelled z.0 ++ z.1) × AllByRecursion Fits z.0 × (ends z.1 ≡ true)

parts_take : {A : Type 0} (ends : List Token → Bool) (spelled : A → List Token) (Fits : A → Type 0) (read : Reads A) → Takes spelled Fits read
    → (fuel : ℕ) (tokens : List Token) (z : List A × List Token) → parts_at ends read fuel tokens ≡ Some z → AllTaken ends spelled Fits tokens z
unfolding parts_at
parts_take ends spelled Fits read takes zero tokens z e = absurd cc
parts_take {A} ends spelled Fits read takes (suc fuel) tokens z e =
    elim (chosen (ends tokens) (Some ([], tokens)) (read tokens >>= λ x. with_front (x.0 ∷ []) (parts_at ends read fuel x.1)) (Some z) e) [
      | inl h ↦ subst (AllTaken ends spelled Fits tokens) (some_is {A = List A × List Token} ([], tokens) z h.1) (refl, tt, h.0)
      | inr h ↦
          let a = bind_some (read tokens) (λ x. with_front (x.0 ∷ []) (parts_at ends read fuel x.1)) z h.1 in
          let b = bind_some (parts_at ends read fuel a.0.1) (λ xs. Some (a.0.0 ∷ xs.0, xs.1)) z a.2 in
          let l = takes tokens a.0 a.1 in
          let m = parts_take ends spelled Fits read takes fuel a.0.1 b.0 b.1 in
          subst (AllTaken ends spelled Fits tokens) (some_is {A = List A × List Token} (a.0.0 ∷ b.0.0, b.0.1) z b.2)
          (l.0 ∙ ap (λ ts. spelled a.0.0 ++ ts) m.0 ∙ sym (append_assoc (spelled a.0.0) (flat_map spelled b.0.0) b.0.1), (l.1, m.1), m.2)
    ]

-- what parts must be to be read again: none is an end, and the next is free for each
pub record Parts {A : Type 0} (ends : List Token → Bool) (spelled : A → List Token) (Fits : A → Type 0) (free : List Token → Bool) (read : Reads A) : Type 0 where
  pub exact : Exact spelled Fits free read
  pub some : (x : A) → Fits x → 0 < length (spelled x)
  pub goes : (x : A) (rest : List Token) → Fits x → ends (spelled x ++ rest) ≡ false
  pub frees : (x : A) (rest : List Token) → Fits x → free (spelled x ++ rest) ≡ true

pub many_takes : {A : Type 0} {ends : List Token → Bool} {spelled : A → List Token} {Fits : A → Type 0} {free : List Token → Bool} {read : Reads A} → Parts ends spelled Fits free read
    → (tokens : List Token) (z : List A × List Token) → many_at ends read tokens ≡ Some z → AllTaken ends spelled Fits tokens z
many_takes {ends = ends} {spelled} {Fits} {read = read} parts tokens z e = parts_take ends spelled Fits read parts.exact.takes (suc (length tokens)) tokens z e

pub shrinks : {A : Type 0} {ends : List Token → Bool} {spelled : A → List Token} {Fits : A → Type 0} {free : List Token → Bool} {read : Reads A} → Parts ends spelled Fits free read → Shrinks read
shrinks {spelled = spelled} parts tokens z e =
    let l = parts.exact.takes tokens z e in
    let n : length tokens ≡ length (spelled z.0) + length z.1 = ap length l.0 ∙ length-append (spelled z.0) z.1 in
    let m = parts.some z.0 l.1 in
    omega (arith, n, m)

-- the parts, or their end, are free
all_free : {A : Type 0} (spelled : A → List Token) (Fits : A → Type 0) (free : List Token → Bool) → ((x : A) (rest : List Token) → Fits x → free (spelled x ++ rest) ≡ true)
    → (xs : List A) (rest : List Token) → AllByRecursion Fits xs → free rest ≡ true → free (flat_map spelled xs ++ rest) ≡ true
all_free spelled Fits free frees [] rest fit is = is
all_free spelled Fits free frees (x ∷ xs) rest fit is = ap free (append_assoc (spelled x) (flat_map spelled xs) rest) ∙ frees x (flat_map spelled xs ++ rest) fit.0

many_again : {A : Type 0} (ends : List Token → Bool) (spelled : A → List Token) (Fits : A → Type 0) (free : List Token → Bool) (read : Reads A) → Parts ends spelled Fits free read
    → (xs : List A) (rest : List Token) → AllByRecursion Fits xs → (free rest ≡ true) × (ends rest ≡ true) → many_at ends read (flat_map spelled xs ++ rest) ≡ Some (xs, rest)
many_again ends spelled Fits free read parts [] rest fit end = no_more ends read rest end.1
many_again {A} ends spelled Fits free read parts (x ∷ xs) rest fit end =
    let more : List Token = flat_map spelled xs ++ rest in
    let s : with_front (x ∷ []) (many_at ends read more) ≡ Some (x ∷ xs, rest) = rw (many_again ends spelled Fits free read parts xs rest fit.1 end) refl in
    ap (many_at ends read) (append_assoc (spelled x) (flat_map spelled xs) rest)
    ∙ one_more ends read (shrinks parts) (spelled x ++ more) x more (parts.goes x more fit.0) (parts.exact.again x more fit.0 (all_free spelled Fits free parts.frees xs rest fit.1 end.0)) ∙ s

pub many_exact : {A : Type 0} {ends : List Token → Bool} {spelled : A → List Token} {Fits : A → Type 0} {free : List Token → Bool} {read : Reads A} (clear : List Token → Bool)
    → Parts ends spelled Fits free read → ((rest : List Token) → clear rest ≡ true → (free rest ≡ true) × (ends rest ≡ true)) → Exact (λ xs. flat_map spelled xs) (λ xs. AllByRecursion Fits xs) clear (many_at ends read)
many_exact {A} {ends} {spelled} {Fits} {free} {read} clear parts frees = record {
  takes = λ tokens z e. let l = many_takes parts tokens z e in (l.0, l.1);
  again = λ xs rest fit clear_is. many_again ends spelled Fits free read parts xs rest fit (frees rest clear_is);
}

-- ---- a part, and more until they end

abbrev pub joined : {A : Type 0} → (A → List Token) → (A → List Token) → List A → List Token
joined spelled shown [] = []
joined spelled shown (x ∷ xs) = spelled x ++ flat_map shown xs

some_again : {A : Type 0} (ends : List Token → Bool) (spelled shown : A → List Token) (Fits : A → Type 0) (free : List Token → Bool) (read next : Reads A) → Exact spelled Fits free read → Parts ends shown Fits free next
    → (xs : List A) (rest : List Token) → OneOrMore Fits xs → (free rest ≡ true) × (ends rest ≡ true) → some_at ends read next (joined spelled shown xs ++ rest) ≡ Some (xs, rest)
some_again ends spelled shown Fits free read next exact parts [] rest fit end = absurd fit
some_again ends spelled shown Fits free read next exact parts (x ∷ xs) rest fit end =
    let more : List Token = flat_map shown xs ++ rest in
    let s : some_at ends read next (spelled x ++ more) ≡ Some (x ∷ xs, rest) = rw (exact.again x more fit.0 (all_free shown Fits free parts.frees xs rest fit.1 end.0), many_again ends shown Fits free next parts xs rest fit.1 end) refl in
    ap (some_at ends read next) (append_assoc (spelled x) (flat_map shown xs) rest) ∙ s

pub some_exact : {A : Type 0} {ends : List Token → Bool} {spelled shown : A → List Token} {Fits : A → Type 0} {free : List Token → Bool} {read next : Reads A} (clear : List Token → Bool)
    → Exact spelled Fits free read → Parts ends shown Fits free next → ((rest : List Token) → clear rest ≡ true → (free rest ≡ true) × (ends rest ≡ true)) → Exact (joined spelled shown) (OneOrMore Fits) clear (some_at ends read next)
some_exact {A} {ends} {spelled} {shown} {Fits} {free} {read} {next} clear exact parts frees = record {
  takes = λ tokens z e.
      let a = bind_some (read tokens) (λ x. with_front (x.0 ∷ []) (many_at ends next x.1)) z e in
      let b = bind_some (many_at ends next a.0.1) (λ xs. Some (a.0.0 ∷ xs.0, xs.1)) z a.2 in
      let l = exact.takes tokens a.0 a.1 in
      let m = many_takes parts a.0.1 b.0 b.1 in
      subst (Taken (joined spelled shown) (OneOrMore Fits) tokens) (some_is {A = List A × List Token} (a.0.0 ∷ b.0.0, b.0.1) z b.2)
      (l.0 ∙ ap (λ ts. spelled a.0.0 ++ ts) m.0 ∙ sym (append_assoc (spelled a.0.0) (flat_map shown b.0.0) b.0.1), (l.1, m.1));
  again = λ xs rest fit clear_is. some_again ends spelled shown Fits free read next exact parts xs rest fit (frees rest clear_is);
}
