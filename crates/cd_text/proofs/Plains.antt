-- Values without parts are read exactly.
use Rattle.std.proofs.Common.{◌≡◌, ℕ, ◌^◌, ◌<◌, Bool, true, false, List, [], ◌∷◌, ◌++◌, drop, Option, Some, None, refl, sym, ap, subst, ◌∙◌, inl, inr, ◌⊎◌}
use Rattle.std.specs.Prelude.{ℤ, bytes_eq, codes}
use Rattle.std.proofs.lemmas.Slice.Eq.{bytes_eq-Decides}
use Rattle.ic_base.specs.Reader.{◌>>=◌}
use Rattle.ic_base.proofs.Steps.{bind_some, some_is}
use Rattle.ic_principal.specs.Text.{principal_of}
use Rattle.cd_types.specs.declared.primitive.Primitive.{Primitive}
use Rattle.cd_types.specs.declared.primitive.Primitive.TheVariants as primitives
use Rattle.cd_codec.specs.Content.{Plain, null, bool, nat, int, nat8, nat16, nat32, nat64, int8, int16, int32, int64, text, reserved, principal}
use Rattle.cd_tokens.specs.Token.{Token, run, quoted, mark, arrow}
use Rattle.cd_tokens.specs.Numeral.{IsNatural, IsInteger}
use Rattle.cd_tokens.specs.ReadNumeral.{natural_of, integer_of, below, is_between, between}
use Rattle.cd_tokens.specs.Label.{IsTextOf, IsNameOf}
use Rattle.cd_tokens.specs.ReadLabel.{text_of, name_of}
use Rattle.cd_tokens.proofs.Numerals.{natural_again, natural_takes, integer_again, integer_takes}
use Rattle.cd_tokens.proofs.Strings.{is_below}
use Rattle.cd_tokens.proofs.Labels.{text_again, text_takes, name_again, name_takes, below_takes}
use Rattle.cd_text.specs.SaysPlain.{SaysNatural, SaysInteger, IsPrincipalText, SaysPrincipal, SaysFunc, SaysPlain}
use Rattle.cd_plain.specs.ReadPlain.{Taking, is_word, is_mark, starts, run_says, string_says, first_at, taken, after_word, word_at, natural_at, integer_at, text_at, principal_text_at, bool_at, method_at, func_at, primitive_at}
use Rattle.cd_tokens.proofs.Fronts.{true_or_false}
use Rattle.cd_tokens.proofs.Starts.{started}

-- what says a value: some tokens
abbrev pub Words : Type 0 → Type 1
Words A = A → List Token → Type 0

-- what is read is said by a front of the tokens
abbrev pub Takes : {A : Type 0} → Words A → Taking A → Type 0
Takes {A} P read = (tokens : List Token) (z : A × List Token) → read tokens ≡ Some z → (front : List Token) × (tokens ≡ front ++ z.1) × P z.0 front

-- what is said is read, whatever follows
abbrev pub Again : {A : Type 0} → Words A → Taking A → Type 0
Again {A} P read = (x : A) (front rest : List Token) → P x front → read (front ++ rest) ≡ Some (x, rest)

pub bytes_are : (r w : List ℕ) → bytes_eq r w ≡ true → r ≡ w
bytes_are r w e = (bytes_eq-Decides r w).0 e

pub same_bytes : (r : List ℕ) → bytes_eq r r ≡ true
same_bytes r = (bytes_eq-Decides r r).1 refl

word_is : (w : List ℕ) (t : Token) → is_word w t ≡ true → t ≡ run w
word_is w (run r) e = ap run (bytes_are r w e)
word_is w (quoted s) e = absurd cc
word_is w (mark m) e = absurd cc
word_is w arrow e = absurd cc

pub word_started : (w : List ℕ) (tokens : List Token) → starts (is_word w) tokens ≡ true → tokens ≡ run w ∷ drop 1 tokens
word_started w [] e = absurd cc
word_started w (t ∷ rest) e = ap (λ (x : Token). x ∷ rest) (word_is w t e)

-- ---- one token

-- the token says the value
abbrev pub OneToken : {A : Type 0} → (A → Token → Type 0) → Words A
OneToken P x tokens = (t : Token) × (tokens ≡ t ∷ []) × P x t

pub first_takes : {A : Type 0} (P : A → Token → Type 0) (f : Token → Option A) → ((t : Token) (x : A) → f t ≡ Some x → P x t) → Takes (OneToken P) (first_at f)
first_takes P f law [] z e = absurd cc
first_takes {A} P f law (t ∷ rest) z e =
    let a = bind_some (f t) (λ x. Some (x, rest)) z e in
    let same = some_is {A = A × List Token} (a.0, rest) z a.2 in
    (t ∷ [], ap (λ (y : A × List Token). t ∷ y.1) same, (t, refl, subst (λ y. P y t) (ap (λ (y : A × List Token). y.0) same) (law t a.0 a.1)))

pub first_again : {A : Type 0} (P : A → Token → Type 0) (f : Token → Option A) → ((t : Token) (x : A) → P x t → f t ≡ Some x) → Again (OneToken P) (first_at f)
first_again P f law x front rest is = rw (is.1, law is.0 x is.2) refl

-- a word or a number that says the value
abbrev RunOf : {A : Type 0} → (A → List ℕ → Type 0) → A → Token → Type 0
RunOf P x t = (r : List ℕ) × (t ≡ run r) × P x r

run_takes : {A : Type 0} (P : A → List ℕ → Type 0) (f : List ℕ → Option A) → ((r : List ℕ) (x : A) → f r ≡ Some x → P x r) → (t : Token) (x : A) → run_says f t ≡ Some x → RunOf P x t
run_takes P f law (run r) x e = (r, refl, law r x e)
run_takes P f law (quoted s) x e = absurd cc
run_takes P f law (mark m) x e = absurd cc
run_takes P f law arrow x e = absurd cc

run_again : {A : Type 0} (P : A → List ℕ → Type 0) (f : List ℕ → Option A) → ((r : List ℕ) (x : A) → P x r → f r ≡ Some x) → (t : Token) (x : A) → RunOf P x t → run_says f t ≡ Some x
run_again P f law t x is = rw is.1 (law is.0 x is.2)

-- a string that says the value
abbrev pub StringOf : {A : Type 0} → (A → List ℕ → Type 0) → A → Token → Type 0
StringOf P x t = (s : List ℕ) × (t ≡ quoted s) × P x s

pub string_takes : {A : Type 0} (P : A → List ℕ → Type 0) (f : List ℕ → Option A) → ((s : List ℕ) (x : A) → f s ≡ Some x → P x s) → (t : Token) (x : A) → string_says f t ≡ Some x → StringOf P x t
string_takes P f law (run r) x e = absurd cc
string_takes P f law (quoted s) x e = (s, refl, law s x e)
string_takes P f law (mark m) x e = absurd cc
string_takes P f law arrow x e = absurd cc

pub string_again : {A : Type 0} (P : A → List ℕ → Type 0) (f : List ℕ → Option A) → ((s : List ℕ) (x : A) → P x s → f s ≡ Some x) → (t : Token) (x : A) → StringOf P x t → string_says f t ≡ Some x
string_again P f law t x is = rw is.1 (law is.0 x is.2)

-- a token alone, seen through its kind
through_run : {A : Type 0} (P : A → List ℕ → Type 0) (x : A) (tokens : List Token) → OneToken (RunOf P) x tokens → (r : List ℕ) × (tokens ≡ run r ∷ []) × P x r
through_run P x tokens is = (is.2.0, is.1 ∙ ap (λ (t : Token). t ∷ []) is.2.1, is.2.2)

-- ---- the readers

within_takes : (half : ℕ) (z : ℤ) (read : Option ℤ) → between half read ≡ Some z → (read ≡ Some z) × (is_between half z ≡ true)
within_takes half z None e = absurd cc
within_takes half z (Some y) e = elim (true_or_false (is_between half y)) [
  | inl inside ↦ let same = some_is {A = ℤ} y z (rw inside at e) in (ap (λ (k : ℤ). Some k) same, subst (λ k. is_between half k ≡ true) same inside)
  | inr outside ↦ let f : None ≡ Some z = rw outside at e in absurd cc
]

-- a number in its range
abbrev Natural : ℕ → ℕ → List ℕ → Type 0
Natural limit n r = IsNatural n r × (n < limit)

abbrev Integer : ℕ → ℤ → List ℕ → Type 0
Integer half z r = IsInteger z r × (is_between half z ≡ true)

pub natural_takes_one : (limit : ℕ) → Takes (SaysNatural limit) (natural_at limit)
unfolding natural_at
natural_takes_one limit tokens z e =
    let t = first_takes (RunOf (Natural limit)) (run_says (λ r. below limit (natural_of r)))
    (run_takes (Natural limit) (λ r. below limit (natural_of r)) (λ r n h. let b = below_takes limit n (natural_of r) h in (natural_takes n r b.0, b.1))) tokens z e in
    let r = through_run (Natural limit) z.0 t.0 t.2 in
    (t.0, t.1, (r.0, r.1, r.2.0, r.2.1))

pub natural_again_one : (limit : ℕ) → Again (SaysNatural limit) (natural_at limit)
unfolding natural_at
natural_again_one limit n front rest is = rw (is.1, natural_again n is.0 is.2, is_below limit n is.3) refl

pub integer_takes_one : (half : ℕ) → Takes (SaysInteger half) (integer_at half)
unfolding integer_at
integer_takes_one half tokens z e =
    let t = first_takes (RunOf (Integer half)) (run_says (λ r. between half (integer_of r)))
    (run_takes (Integer half) (λ r. between half (integer_of r)) (λ r n h. let b = within_takes half n (integer_of r) h in (integer_takes n r b.0, b.1))) tokens z e in
    let r = through_run (Integer half) z.0 t.0 t.2 in
    (t.0, t.1, (r.0, r.1, r.2.0, r.2.1))

pub integer_again_one : (half : ℕ) → Again (SaysInteger half) (integer_at half)
unfolding integer_at
integer_again_one half z front rest is = rw (is.1, integer_again z is.0 is.2, is.3) refl

principal_takes : (s p : List ℕ) → (text_of s >>= principal_of) ≡ Some p → IsPrincipalText p s
principal_takes s p e = let a = bind_some (text_of s) principal_of p e in (a.0, text_takes a.0 s a.1, a.2)

principal_again : (s p : List ℕ) → IsPrincipalText p s → (text_of s >>= principal_of) ≡ Some p
principal_again s p is = rw (text_again is.0 s is.1) is.2

text_at_takes : Takes (OneToken (StringOf (λ x s. IsTextOf x s))) text_at
unfolding text_at
text_at_takes = first_takes (StringOf (λ x s. IsTextOf x s)) (string_says text_of) (string_takes (λ x s. IsTextOf x s) text_of (λ s x e. text_takes x s e))

text_at_again : Again (OneToken (StringOf (λ x s. IsTextOf x s))) text_at
unfolding text_at
text_at_again = first_again (StringOf (λ x s. IsTextOf x s)) (string_says text_of) (string_again (λ x s. IsTextOf x s) text_of (λ s x e. text_again x s e))

principal_at_takes : Takes (OneToken (StringOf IsPrincipalText)) principal_text_at
unfolding principal_text_at
principal_at_takes = first_takes (StringOf IsPrincipalText) (string_says (λ s. text_of s >>= principal_of)) (string_takes IsPrincipalText (λ s. text_of s >>= principal_of) principal_takes)

principal_at_again : Again (OneToken (StringOf IsPrincipalText)) principal_text_at
unfolding principal_text_at
principal_at_again = first_again (StringOf IsPrincipalText) (string_says (λ s. text_of s >>= principal_of)) (string_again IsPrincipalText (λ s. text_of s >>= principal_of) principal_again)

-- after a word
behind_takes : {A : Type 0} (w : List ℕ) (P : Words A) (read : Taking A) → Takes P read → (tokens : List Token) (z : A × List Token) → after_word w read tokens ≡ Some z → (front : List Token) × (tokens ≡ run w ∷ (front ++ z.1)) × P z.0 front
behind_takes w P read law tokens z e = elim (true_or_false (starts (is_word w) tokens)) [
  | inl found ↦
      let f : read (drop 1 tokens) ≡ Some z = rw found at e in
      let t = law (drop 1 tokens) z f in
      (t.0, word_started w tokens found ∙ ap (λ (ts : List Token). run w ∷ ts) t.1, t.2)
  | inr never ↦ let f : None ≡ Some z = rw never at e in absurd cc
]

behind_again : {A : Type 0} (w : List ℕ) (read : Taking A) (rest : List Token) → after_word w read (run w ∷ rest) ≡ read rest
behind_again w read rest = rw (same_bytes w) refl

string_front : {A : Type 0} (P : A → List ℕ → Type 0) (x : A) (front : List Token) → OneToken (StringOf P) x front → (s : List ℕ) × (front ≡ quoted s ∷ []) × P x s
string_front P x front is = (is.2.0, is.1 ∙ ap (λ (t : Token). t ∷ []) is.2.1, is.2.2)

pub principal_word_takes : (w : List ℕ) → Takes (SaysPrincipal w) (after_word w principal_text_at)
principal_word_takes w tokens z e =
    let b = behind_takes w (OneToken (StringOf IsPrincipalText)) principal_text_at principal_at_takes tokens z e in
    let s = string_front IsPrincipalText z.0 b.0 b.2 in
    (run w ∷ b.0, b.1, (s.0, ap (λ (ts : List Token). run w ∷ ts) s.1, s.2))

pub principal_word_again : (w : List ℕ) → Again (SaysPrincipal w) (after_word w principal_text_at)
principal_word_again w p front rest is =
    rw is.1 (behind_again w principal_text_at (quoted is.0 ∷ rest) ∙ principal_at_again p (quoted is.0 ∷ []) rest (quoted is.0, refl, (is.0, refl, is.2)))

-- a dot and a name
method_takes : (tokens : List Token) (z : List ℕ × List Token) → method_at tokens ≡ Some z → (name : Token) × (tokens ≡ mark 46 ∷ name ∷ z.1) × IsNameOf z.0 name
method_takes tokens z e = elim (true_or_false (starts (is_mark 46) tokens)) [
  | inr no_dot ↦ let g : None ≡ Some z = rw no_dot at e in absurd cc
  | inl dot_is ↦
      let g : first_at name_of (drop 1 tokens) ≡ Some z = rw dot_is at e in
      let n = first_takes IsNameOf name_of (λ t x h. name_takes x t h) (drop 1 tokens) z g in
      (n.2.0, started 46 tokens dot_is ∙ ap (λ (ts : List Token). mark 46 ∷ ts) (n.1 ∙ ap (λ (ts : List Token). ts ++ z.1) n.2.1), n.2.2)
]

-- the text of a principal, a dot and a name
told_takes : (tokens : List Token) (z : (List ℕ × List ℕ) × List Token) → (principal_text_at tokens >>= λ p. taken (λ m. (p.0, m)) method_at p.1) ≡ Some z
    → (s : List ℕ) × (name : Token) × (tokens ≡ quoted s ∷ mark 46 ∷ name ∷ z.1) × IsPrincipalText z.0.0 s × IsNameOf z.0.1 name
told_takes tokens z e =
    let a = bind_some (principal_text_at tokens) (λ p. taken (λ m. (p.0, m)) method_at p.1) z e in
    let p = principal_at_takes tokens a.0 a.1 in
    let s = string_front IsPrincipalText a.0.0 p.0 p.2 in
    let b = bind_some (method_at a.0.1) (λ x. Some ((a.0.0, x.0), x.1)) z a.2 in
    let n = method_takes a.0.1 b.0 b.1 in
    subst (λ (y : (List ℕ × List ℕ) × List Token). (w : List ℕ) × (name : Token) × (tokens ≡ quoted w ∷ mark 46 ∷ name ∷ y.1) × IsPrincipalText y.0.0 w × IsNameOf y.0.1 name)
    (some_is {A = (List ℕ × List ℕ) × List Token} ((a.0.0, b.0.0), b.0.1) z b.2)
    (s.0, n.0, p.1 ∙ ap (λ (ts : List Token). ts ++ a.0.1) s.1 ∙ ap (λ (ts : List Token). quoted s.0 ∷ ts) n.1, s.2, n.2)

pub func_takes : Takes (λ (f : List ℕ × List ℕ) tokens. SaysFunc f.0 f.1 tokens) func_at
unfolding func_at
func_takes tokens z e = elim (true_or_false (starts (is_word (codes "func")) tokens)) [
  | inr never ↦ let f : None ≡ Some z = rw never at e in absurd cc
  | inl found ↦
      let f : (principal_text_at (drop 1 tokens) >>= λ p. taken (λ m. (p.0, m)) method_at p.1) ≡ Some z = rw found at e in
      let t = told_takes (drop 1 tokens) z f in
      (run (codes "func") ∷ quoted t.0 ∷ mark 46 ∷ t.1 ∷ [], word_started (codes "func") tokens found ∙ ap (λ (ts : List Token). run (codes "func") ∷ ts) t.2, (t.0, t.1, refl, t.3, t.4))
]

pub func_again : Again (λ (f : List ℕ × List ℕ) tokens. SaysFunc f.0 f.1 tokens) func_at
unfolding func_at
func_again f front rest is =
    let p : principal_text_at (quoted is.0 ∷ mark 46 ∷ is.1 ∷ rest) ≡ Some (f.0, mark 46 ∷ is.1 ∷ rest) = principal_at_again f.0 (quoted is.0 ∷ []) (mark 46 ∷ is.1 ∷ rest) (quoted is.0, refl, (is.0, refl, is.3)) in
    rw (is.2, p, name_again f.1 is.1 is.4) refl

-- a word alone
word_at_takes : {A : Type 0} (w : List ℕ) (x : A) (tokens : List Token) (z : A × List Token) → word_at w x tokens ≡ Some z → (x ≡ z.0) × (tokens ≡ run w ∷ z.1)
word_at_takes {A} w x tokens z e = elim (true_or_false (starts (is_word w) tokens)) [
  | inl found ↦
      let same = some_is {A = A × List Token} (x, drop 1 tokens) z (rw found at e) in
      (ap (λ (y : A × List Token). y.0) same, word_started w tokens found ∙ ap (λ (y : A × List Token). run w ∷ y.1) same)
  | inr never ↦ let f : None ≡ Some z = rw never at e in absurd cc
]

-- ---- a value of a primitive type

made_takes : {A : Type 0} (P : Words A) (Q : Words Plain) (f : A → Plain) (read : Taking A) → Takes P read → ((x : A) (front : List Token) → P x front → Q (f x) front) → Takes Q (taken f read)
made_takes P Q f read law lift tokens z e =
    let a = bind_some (read tokens) (λ x. Some (f x.0, x.1)) z e in
    let t = law tokens a.0 a.1 in
    subst (λ y. (front : List Token) × (tokens ≡ front ++ y.1) × Q y.0 front) (some_is {A = Plain × List Token} (f a.0.0, a.0.1) z a.2) (t.0, t.1, lift a.0.0 t.0 t.2)

made_again : {A : Type 0} (P : Words A) (f : A → Plain) (read : Taking A) → Again P read → (x : A) (v : Plain) (front rest : List Token) → v ≡ f x → P x front → taken f read (front ++ rest) ≡ Some (v, rest)
made_again P f read law x v front rest is said = rw (is, law x front rest said) refl

SaysBool : Words Bool
SaysBool b tokens = ((b ≡ true) × (tokens ≡ run (codes "true") ∷ [])) ⊎ ((b ≡ false) × (tokens ≡ run (codes "false") ∷ []))

bool_takes : Takes SaysBool bool_at
unfolding bool_at SaysBool
bool_takes tokens z e = elim (true_or_false (starts (is_word (codes "true")) tokens)) [
  | inl found ↦
      let same = some_is {A = Bool × List Token} (true, drop 1 tokens) z (rw found at e) in
      (run (codes "true") ∷ [], word_started (codes "true") tokens found ∙ ap (λ (y : Bool × List Token). run (codes "true") ∷ y.1) same, inl (sym (ap (λ (y : Bool × List Token). y.0) same), refl))
  | inr other ↦
      let f : word_at (codes "false") false tokens ≡ Some z = rw other at e in
      let w = word_at_takes (codes "false") false tokens z f in
      (run (codes "false") ∷ [], w.1, inr (sym w.0, refl))
]

bool_again : Again SaysBool bool_at
unfolding bool_at SaysBool
bool_again b front rest is = elim is [ inl h ↦ rw (h.0, h.1) refl | inr h ↦ rw (h.0, h.1) refl ]

bool_lift : (b : Bool) (front : List Token) → SaysBool b front → SaysPlain primitives.Bool (bool b) front
unfolding SaysBool
bool_lift b front is = elim is [ inl h ↦ inl (ap bool h.0, h.1) | inr h ↦ inr (ap bool h.0, h.1) ]

text_lift : (s : List ℕ) (front : List Token) → OneToken (StringOf (λ x w. IsTextOf x w)) s front → SaysPlain primitives.Text (text s) front
text_lift s front is = let t = string_front (λ x w. IsTextOf x w) s front is in (s, t.0, refl, t.1, t.2)

pub primitive_takes : (p : Primitive) → Takes (SaysPlain p) (primitive_at p)
unfolding primitive_at
primitive_takes primitives.Null tokens z e = let w = word_at_takes (codes "null") null tokens z e in (run (codes "null") ∷ [], w.1, (sym w.0, refl))
primitive_takes primitives.Reserved tokens z e = let w = word_at_takes (codes "null") reserved tokens z e in (run (codes "null") ∷ [], w.1, (sym w.0, refl))
primitive_takes primitives.Bool tokens z e = made_takes SaysBool (SaysPlain primitives.Bool) bool bool_at bool_takes bool_lift tokens z e
primitive_takes primitives.Nat tokens z e = made_takes (SaysNatural (2 ^ 128)) (SaysPlain primitives.Nat) nat (natural_at (2 ^ 128)) (natural_takes_one (2 ^ 128)) (λ n front h. (n, refl, h)) tokens z e
primitive_takes primitives.Nat8 tokens z e = made_takes (SaysNatural (2 ^ 8)) (SaysPlain primitives.Nat8) nat8 (natural_at (2 ^ 8)) (natural_takes_one (2 ^ 8)) (λ n front h. (n, refl, h)) tokens z e
primitive_takes primitives.Nat16 tokens z e = made_takes (SaysNatural (2 ^ 16)) (SaysPlain primitives.Nat16) nat16 (natural_at (2 ^ 16)) (natural_takes_one (2 ^ 16)) (λ n front h. (n, refl, h)) tokens z e
primitive_takes primitives.Nat32 tokens z e = made_takes (SaysNatural (2 ^ 32)) (SaysPlain primitives.Nat32) nat32 (natural_at (2 ^ 32)) (natural_takes_one (2 ^ 32)) (λ n front h. (n, refl, h)) tokens z e
primitive_takes primitives.Nat64 tokens z e = made_takes (SaysNatural (2 ^ 64)) (SaysPlain primitives.Nat64) nat64 (natural_at (2 ^ 64)) (natural_takes_one (2 ^ 64)) (λ n front h. (n, refl, h)) tokens z e
primitive_takes primitives.Int tokens z e = made_takes (SaysInteger (2 ^ 127)) (SaysPlain primitives.Int) int (integer_at (2 ^ 127)) (integer_takes_one (2 ^ 127)) (λ n front h. (n, refl, h)) tokens z e
primitive_takes primitives.Int8 tokens z e = made_takes (SaysInteger (2 ^ 7)) (SaysPlain primitives.Int8) int8 (integer_at (2 ^ 7)) (integer_takes_one (2 ^ 7)) (λ n front h. (n, refl, h)) tokens z e
primitive_takes primitives.Int16 tokens z e = made_takes (SaysInteger (2 ^ 15)) (SaysPlain primitives.Int16) int16 (integer_at (2 ^ 15)) (integer_takes_one (2 ^ 15)) (λ n front h. (n, refl, h)) tokens z e
primitive_takes primitives.Int32 tokens z e = made_takes (SaysInteger (2 ^ 31)) (SaysPlain primitives.Int32) int32 (integer_at (2 ^ 31)) (integer_takes_one (2 ^ 31)) (λ n front h. (n, refl, h)) tokens z e
primitive_takes primitives.Int64 tokens z e = made_takes (SaysInteger (2 ^ 63)) (SaysPlain primitives.Int64) int64 (integer_at (2 ^ 63)) (integer_takes_one (2 ^ 63)) (λ n front h. (n, refl, h)) tokens z e
primitive_takes primitives.Text tokens z e = made_takes (OneToken (StringOf (λ x s. IsTextOf x s))) (SaysPlain primitives.Text) text text_at text_at_takes text_lift tokens z e
primitive_takes primitives.Principal tokens z e =
    made_takes (SaysPrincipal (codes "principal")) (SaysPlain primitives.Principal) principal (after_word (codes "principal") principal_text_at) (principal_word_takes (codes "principal")) (λ p front h. (p, refl, h)) tokens z e
primitive_takes primitives.Empty tokens z e = absurd cc

pub primitive_again : (p : Primitive) → Again (SaysPlain p) (primitive_at p)
unfolding primitive_at SaysBool
primitive_again primitives.Null v front rest is = rw (is.0, is.1) refl
primitive_again primitives.Reserved v front rest is = rw (is.0, is.1) refl
primitive_again primitives.Bool v front rest is = elim is [
  | inl h ↦ made_again SaysBool bool bool_at bool_again true v front rest h.0 (inl (refl, h.1))
  | inr h ↦ made_again SaysBool bool bool_at bool_again false v front rest h.0 (inr (refl, h.1))
]
primitive_again primitives.Nat v front rest is = made_again (SaysNatural (2 ^ 128)) nat (natural_at (2 ^ 128)) (natural_again_one (2 ^ 128)) is.0 v front rest is.1 is.2
primitive_again primitives.Nat8 v front rest is = made_again (SaysNatural (2 ^ 8)) nat8 (natural_at (2 ^ 8)) (natural_again_one (2 ^ 8)) is.0 v front rest is.1 is.2
primitive_again primitives.Nat16 v front rest is = made_again (SaysNatural (2 ^ 16)) nat16 (natural_at (2 ^ 16)) (natural_again_one (2 ^ 16)) is.0 v front rest is.1 is.2
primitive_again primitives.Nat32 v front rest is = made_again (SaysNatural (2 ^ 32)) nat32 (natural_at (2 ^ 32)) (natural_again_one (2 ^ 32)) is.0 v front rest is.1 is.2
primitive_again primitives.Nat64 v front rest is = made_again (SaysNatural (2 ^ 64)) nat64 (natural_at (2 ^ 64)) (natural_again_one (2 ^ 64)) is.0 v front rest is.1 is.2
primitive_again primitives.Int v front rest is = made_again (SaysInteger (2 ^ 127)) int (integer_at (2 ^ 127)) (integer_again_one (2 ^ 127)) is.0 v front rest is.1 is.2
primitive_again primitives.Int8 v front rest is = made_again (SaysInteger (2 ^ 7)) int8 (integer_at (2 ^ 7)) (integer_again_one (2 ^ 7)) is.0 v front rest is.1 is.2
primitive_again primitives.Int16 v front rest is = made_again (SaysInteger (2 ^ 15)) int16 (integer_at (2 ^ 15)) (integer_again_one (2 ^ 15)) is.0 v front rest is.1 is.2
primitive_again primitives.Int32 v front rest is = made_again (SaysInteger (2 ^ 31)) int32 (integer_at (2 ^ 31)) (integer_again_one (2 ^ 31)) is.0 v front rest is.1 is.2
primitive_again primitives.Int64 v front rest is = made_again (SaysInteger (2 ^ 63)) int64 (integer_at (2 ^ 63)) (integer_again_one (2 ^ 63)) is.0 v front rest is.1 is.2
primitive_again primitives.Text v front rest is =
    made_again (OneToken (StringOf (λ x s. IsTextOf x s))) text text_at text_at_again is.0 v front rest is.2 (quoted is.1, is.3, (is.1, refl, is.4))
primitive_again primitives.Principal v front rest is =
    made_again (SaysPrincipal (codes "principal")) principal (after_word (codes "principal") principal_text_at) (principal_word_again (codes "principal")) is.0 v front rest is.1 is.2
primitive_again primitives.Empty v front rest is = absurd is
