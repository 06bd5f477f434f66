-- Values without parts that tokens say are spelled by them.
use Rattle.std.proofs.Common.{◌≡◌, ℕ, Bool, true, false, List, [], ◌∷◌, drop, Option, Some, None, refl, sym, ap, subst, ◌∙◌, inl, inr}
use Rattle.std.specs.Prelude.{◌^◌, codes}
use Rattle.ic_base.specs.Reader.{◌>>=◌}
use Rattle.ic_base.proofs.Steps.{bind_some, some_is}
use Rattle.cd_types.specs.declared.primitive.Primitive.{Primitive}
use Rattle.cd_types.specs.declared.primitive.Primitive.TheVariants as primitives
use Rattle.cd_codec.specs.Content.{Content, Plain, plain, principal, func}
use Rattle.cd_tokens.specs.Token.{Token}
use Rattle.cd_tokens.specs.ReadLabel.{name_of}
use Rattle.cd_tokens.proofs.Fronts.{true_or_false}
use Rattle.cd_plain.specs.ReadPlain.{Taking, is_word, is_mark, starts, first_at, taken, word_at, after_word, natural_at, integer_at, text_at, bool_at, principal_text_at, func_at, method_at, primitive_at, alone}
use Rattle.ct_patterns.specs.Meets.{is_leaf}
use Rattle.ct_values.specs.declared.reader.Admitted.{Admitted}
use Rattle.ct_values.specs.Steps.{exactly, Reading}
use Rattle.ct_values.specs.Spelled.{past, add, reference_at, func_at as our_func, primitive_value_at}
use Rattle.ct_values.proofs.Meant.{leaf_met}
use Rattle.ct_values.proofs.Ties.{Read}

-- one token is read
abbrev pub OneToken : {A : Type 0} → Taking A → Type 0
OneToken {A} read = (tokens : List Token) (x : A) (rest : List Token) → read tokens ≡ Some (x, rest) → rest ≡ drop 1 tokens

pub one_first : {A : Type 0} (f : Token → Option A) → OneToken (first_at f)
one_first f [] x rest e = absurd cc
one_first {A} f (t ∷ tokens) x rest e =
    let b = bind_some (f t) (λ (y : A). Some (y, tokens)) (x, rest) e in
    let same : (b.0, tokens) ≡ (x, rest) = some_is {A = A × List Token} (b.0, tokens) (x, rest) b.2 in
    sym (ap (λ (z : A × List Token). z.1) same)

one_taken : {A B : Type 0} (f : A → B) (read : Taking A) → OneToken read → OneToken (taken f read)
one_taken {A} {B} f read law tokens x rest e =
    let b = bind_some (read tokens) (λ (y : A × List Token). Some (f y.0, y.1)) (x, rest) e in
    let y : A × List Token = b.0 in
    let same : (f y.0, y.1) ≡ (x, rest) = some_is {A = B × List Token} (f y.0, y.1) (x, rest) b.2 in
    sym (ap (λ (z : B × List Token). z.1) same) ∙ law tokens y.0 y.1 b.1

one_word : {A : Type 0} (w : List ℕ) (a : A) → OneToken (word_at w a)
one_word {A} w a tokens x rest e = elim (true_or_false (starts (is_word w) tokens)) [
  | inl word ↦
      let same : (a, drop 1 tokens) ≡ (x, rest) = some_is {A = A × List Token} (a, drop 1 tokens) (x, rest) (rw word at e) in
      sym (ap (λ (z : A × List Token). z.1) same)
  | inr other ↦ let none : None ≡ Some (x, rest) = rw other at e in absurd cc
]

pub one_natural : (limit : ℕ) → OneToken (natural_at limit)
unfolding natural_at
one_natural limit = one_first _

one_integer : (half : ℕ) → OneToken (integer_at half)
unfolding integer_at
one_integer half = one_first _

one_text : OneToken text_at
unfolding text_at
one_text = one_first _

one_principal : OneToken principal_text_at
unfolding principal_text_at
one_principal = one_first _

one_bool : OneToken bool_at
unfolding bool_at
one_bool tokens x rest e = elim (true_or_false (starts (is_word (codes "true")) tokens)) [
  | inl word ↦
      let same : (true, drop 1 tokens) ≡ (x, rest) = some_is {A = Bool × List Token} (true, drop 1 tokens) (x, rest) (rw word at e) in
      sym (ap (λ (z : Bool × List Token). z.1) same)
  | inr other ↦ one_word (codes "false") false tokens x rest (rw other at e)
]

is_principal : Primitive → Bool
is_principal primitives.Principal = true
is_principal _ = false

one_plain : (p : Primitive) → is_principal p ≡ false → OneToken (primitive_at p)
unfolding primitive_at is_principal
one_plain primitives.Null other = one_word (codes "null") _
one_plain primitives.Bool other = one_taken _ bool_at one_bool
one_plain primitives.Nat other = one_taken _ (natural_at (2 ^ 128)) (one_natural (2 ^ 128))
one_plain primitives.Int other = one_taken _ (integer_at (2 ^ 127)) (one_integer (2 ^ 127))
one_plain primitives.Nat8 other = one_taken _ (natural_at (2 ^ 8)) (one_natural (2 ^ 8))
one_plain primitives.Nat16 other = one_taken _ (natural_at (2 ^ 16)) (one_natural (2 ^ 16))
one_plain primitives.Nat32 other = one_taken _ (natural_at (2 ^ 32)) (one_natural (2 ^ 32))
one_plain primitives.Nat64 other = one_taken _ (natural_at (2 ^ 64)) (one_natural (2 ^ 64))
one_plain primitives.Int8 other = one_taken _ (integer_at (2 ^ 7)) (one_integer (2 ^ 7))
one_plain primitives.Int16 other = one_taken _ (integer_at (2 ^ 15)) (one_integer (2 ^ 15))
one_plain primitives.Int32 other = one_taken _ (integer_at (2 ^ 31)) (one_integer (2 ^ 31))
one_plain primitives.Int64 other = one_taken _ (integer_at (2 ^ 63)) (one_integer (2 ^ 63))
one_plain primitives.Text other = one_taken _ text_at one_text
one_plain primitives.Reserved other = one_word (codes "null") _
one_plain primitives.Empty other = λ tokens x rest e. absurd cc
one_plain primitives.Principal other = absurd cc

-- a value of a type that is not principal
value_of : (admitted : Admitted) (p : Primitive) (left : ℕ) (tokens : List Token) (u : Plain) (after : List Token) → ((c : Reading) → primitive_value_at admitted p c ≡ (alone plain (primitive_at p) 0 c.2 >>= λ x. add (exactly x.0) (past c)))
    → primitive_at p tokens ≡ Some (u, after) → after ≡ drop 1 tokens → Read (primitive_value_at admitted p) left tokens (plain u ∷ []) left after
value_of admitted p left tokens u after computes said off = record { steps = exactly (plain u) ∷ []; reads = λ before. computes (before, left, tokens) ∙ rw (said, off) refl; met = leaf_met (plain u) refl }

one_value : (admitted : Admitted) (p : Primitive) (left : ℕ) (tokens : List Token) (v : Content) (less : ℕ) (rest : List Token) → ((c : Reading) → primitive_value_at admitted p c ≡ (alone plain (primitive_at p) 0 c.2 >>= λ x. add (exactly x.0) (past c)))
    → is_principal p ≡ false → alone plain (primitive_at p) left tokens ≡ Some (v, less, rest) → Read (primitive_value_at admitted p) left tokens (v ∷ []) less rest
one_value admitted p left tokens v less rest computes other e =
    let b = bind_some (primitive_at p tokens) (λ (x : Plain × List Token). Some (plain x.0, left, x.1)) (v, less, rest) e in
    let y : Plain × List Token = b.0 in
    let same : (plain y.0, left, y.1) ≡ (v, less, rest) = some_is {A = Content × ℕ × List Token} (plain y.0, left, y.1) (v, less, rest) b.2 in
    let off : y.1 ≡ drop 1 tokens = one_plain p other tokens y.0 y.1 b.1 in
    subst (λ (z : Content × ℕ × List Token). Read (primitive_value_at admitted p) left tokens (z.0 ∷ []) z.1 z.2) same (value_of admitted p left tokens y.0 y.1 computes b.1 off)

-- a word, and the text of a principal
reference_of : (admitted : Admitted) (word : List ℕ) (f : List ℕ → Content) (left : ℕ) (tokens : List Token) (id : List ℕ) (after : List Token) → admitted.names ≡ false → is_leaf (f id) ≡ true → starts (is_word word) tokens ≡ true
    → principal_text_at (drop 1 tokens) ≡ Some (id, after) → after ≡ drop 1 (drop 1 tokens) → Read (reference_at admitted word f) left tokens (f id ∷ []) left after
reference_of admitted word f left tokens id after known leaf there said off = record { steps = exactly (f id) ∷ []; reads = λ before. rw (there, known, said, off) refl; met = leaf_met (f id) leaf }

behind_is : {A : Type 0} (word : List ℕ) (read : Taking A) (tokens : List Token) (x : A × List Token) → after_word word read tokens ≡ Some x → (starts (is_word word) tokens ≡ true) × (read (drop 1 tokens) ≡ Some x)
behind_is {A} word read tokens x e = elim (true_or_false (starts (is_word word) tokens)) [
  | inl there ↦ (there, rw there at e)
  | inr other ↦ let none : None ≡ Some x = rw other at e in absurd cc
]

pub reference_tied : (admitted : Admitted) (word : List ℕ) (f : List ℕ → Content) → admitted.names ≡ false → ((id : List ℕ) → is_leaf (f id) ≡ true)
    → (left : ℕ) (tokens : List Token) (v : Content) (less : ℕ) (rest : List Token) → alone f (after_word word principal_text_at) left tokens ≡ Some (v, less, rest) → Read (reference_at admitted word f) left tokens (v ∷ []) less rest
reference_tied admitted word f known leaf left tokens v less rest e =
    let b = bind_some (after_word word principal_text_at tokens) (λ (x : List ℕ × List Token). Some (f x.0, left, x.1)) (v, less, rest) e in
    let y : List ℕ × List Token = b.0 in
    let same : (f y.0, left, y.1) ≡ (v, less, rest) = some_is {A = Content × ℕ × List Token} (f y.0, left, y.1) (v, less, rest) b.2 in
    let c = behind_is word principal_text_at tokens y b.1 in
    let off : y.1 ≡ drop 1 (drop 1 tokens) = one_principal (drop 1 tokens) y.0 y.1 c.1 in
    subst (λ (z : Content × ℕ × List Token). Read (reference_at admitted word f) left tokens (z.0 ∷ []) z.1 z.2) same (reference_of admitted word f left tokens y.0 y.1 known (leaf y.0) c.0 c.1 off)

alone_there : (f : List ℕ → Content) (read : Taking (List ℕ)) (left : ℕ) (tokens : List Token) (id : List ℕ) (after : List Token) → read tokens ≡ Some (id, after) → alone f read left tokens ≡ Some (f id, left, after)
alone_there f read left tokens id after e = rw e refl

principal_tied : (admitted : Admitted) → admitted.names ≡ false → (left : ℕ) (tokens : List Token) (v : Content) (less : ℕ) (rest : List Token) → alone plain (primitive_at primitives.Principal) left tokens ≡ Some (v, less, rest)
    → Read (primitive_value_at admitted primitives.Principal) left tokens (v ∷ []) less rest
unfolding primitive_at
principal_tied admitted known left tokens v less rest e =
    let b = bind_some (taken principal (after_word (codes "principal") principal_text_at) tokens) (λ (x : Plain × List Token). Some (plain x.0, left, x.1)) (v, less, rest) e in
    let y : Plain × List Token = b.0 in
    let c = bind_some (after_word (codes "principal") principal_text_at tokens) (λ (x : List ℕ × List Token). Some (principal x.0, x.1)) y b.1 in
    let z : List ℕ × List Token = c.0 in
    let whole = alone_there (λ id. plain (principal id)) (after_word (codes "principal") principal_text_at) left tokens z.0 z.1 c.1 in
    let first : (principal z.0, z.1) ≡ y = some_is {A = Plain × List Token} (principal z.0, z.1) y c.2 in
    let second : Some (plain (principal z.0), left, z.1) ≡ Some (v, less, rest) = ap (λ (x : Plain × List Token). Some (plain x.0, left, x.1)) first ∙ b.2 in
    reference_tied admitted (codes "principal") (λ id. plain (principal id)) known (λ id. refl) left tokens v less rest (whole ∙ second)

pub primitive_tied : (admitted : Admitted) → admitted.names ≡ false → (p : Primitive) (left : ℕ) (tokens : List Token) (v : Content) (less : ℕ) (rest : List Token) → alone plain (primitive_at p) left tokens ≡ Some (v, less, rest)
    → Read (primitive_value_at admitted p) left tokens (v ∷ []) less rest
unfolding is_principal
primitive_tied admitted known primitives.Null left tokens v less rest e = one_value admitted primitives.Null left tokens v less rest (λ c. refl) refl e
primitive_tied admitted known primitives.Bool left tokens v less rest e = one_value admitted primitives.Bool left tokens v less rest (λ c. refl) refl e
primitive_tied admitted known primitives.Nat left tokens v less rest e = one_value admitted primitives.Nat left tokens v less rest (λ c. refl) refl e
primitive_tied admitted known primitives.Int left tokens v less rest e = one_value admitted primitives.Int left tokens v less rest (λ c. refl) refl e
primitive_tied admitted known primitives.Nat8 left tokens v less rest e = one_value admitted primitives.Nat8 left tokens v less rest (λ c. refl) refl e
primitive_tied admitted known primitives.Nat16 left tokens v less rest e = one_value admitted primitives.Nat16 left tokens v less rest (λ c. refl) refl e
primitive_tied admitted known primitives.Nat32 left tokens v less rest e = one_value admitted primitives.Nat32 left tokens v less rest (λ c. refl) refl e
primitive_tied admitted known primitives.Nat64 left tokens v less rest e = one_value admitted primitives.Nat64 left tokens v less rest (λ c. refl) refl e
primitive_tied admitted known primitives.Int8 left tokens v less rest e = one_value admitted primitives.Int8 left tokens v less rest (λ c. refl) refl e
primitive_tied admitted known primitives.Int16 left tokens v less rest e = one_value admitted primitives.Int16 left tokens v less rest (λ c. refl) refl e
primitive_tied admitted known primitives.Int32 left tokens v less rest e = one_value admitted primitives.Int32 left tokens v less rest (λ c. refl) refl e
primitive_tied admitted known primitives.Int64 left tokens v less rest e = one_value admitted primitives.Int64 left tokens v less rest (λ c. refl) refl e
primitive_tied admitted known primitives.Text left tokens v less rest e = one_value admitted primitives.Text left tokens v less rest (λ c. refl) refl e
primitive_tied admitted known primitives.Reserved left tokens v less rest e = one_value admitted primitives.Reserved left tokens v less rest (λ c. refl) refl e
primitive_tied admitted known primitives.Empty left tokens v less rest e = one_value admitted primitives.Empty left tokens v less rest (λ c. refl) refl e
primitive_tied admitted known primitives.Principal left tokens v less rest e = principal_tied admitted known left tokens v less rest e

method_is : (tokens : List Token) (m : List ℕ × List Token) → method_at tokens ≡ Some m → (starts (is_mark 46) tokens ≡ true) × (first_at name_of (drop 1 tokens) ≡ Some m)
method_is tokens m e = elim (true_or_false (starts (is_mark 46) tokens)) [
  | inl dot ↦ (dot, rw dot at e)
  | inr stuck ↦ let none : None ≡ Some m = rw stuck at e in absurd cc
]

func_of : (admitted : Admitted) (left : ℕ) (tokens : List Token) (id : List ℕ) (after : List Token) (method : List ℕ) (rest : List Token) → admitted.names ≡ false → starts (is_word (codes "func")) tokens ≡ true
    → principal_text_at (drop 1 tokens) ≡ Some (id, after) → starts (is_mark 46) (drop 1 (drop 1 tokens)) ≡ true → first_at name_of (drop 1 (drop 1 (drop 1 tokens))) ≡ Some (method, rest) → rest ≡ drop 1 (drop 1 (drop 1 (drop 1 tokens)))
    → Read (our_func admitted) left tokens (plain (func id method) ∷ []) left rest
func_of admitted left tokens id after method rest known there said dot name off =
    record { steps = exactly (plain (func id method)) ∷ []; reads = λ before. rw (there, known, said, dot, name, off) refl; met = leaf_met (plain (func id method)) refl }

pub func_tied : (admitted : Admitted) → admitted.names ≡ false → (left : ℕ) (tokens : List Token) (v : Content) (less : ℕ) (rest : List Token) → alone (λ f. plain (func f.0 f.1)) func_at left tokens ≡ Some (v, less, rest)
    → Read (our_func admitted) left tokens (v ∷ []) less rest
unfolding func_at
func_tied admitted known left tokens v less rest e =
    let a = bind_some (func_at tokens) (λ (x : (List ℕ × List ℕ) × List Token). Some (plain (func x.0.0 x.0.1), left, x.1)) (v, less, rest) e in
    let y : (List ℕ × List ℕ) × List Token = a.0 in
    let same : (plain (func y.0.0 y.0.1), left, y.1) ≡ (v, less, rest) = some_is {A = Content × ℕ × List Token} (plain (func y.0.0 y.0.1), left, y.1) (v, less, rest) a.2 in
    let b = behind_is (codes "func") (λ (ts : List Token). principal_text_at ts >>= λ (p : List ℕ × List Token). taken (λ m. (p.0, m)) method_at p.1) tokens y a.1 in
    let c = bind_some (principal_text_at (drop 1 tokens)) (λ (p : List ℕ × List Token). taken (λ m. (p.0, m)) method_at p.1) y b.1 in
    let p : List ℕ × List Token = c.0 in
    let off : p.1 ≡ drop 1 (drop 1 tokens) = one_principal (drop 1 tokens) p.0 p.1 c.1 in
    let d = bind_some (method_at p.1) (λ (m : List ℕ × List Token). Some ((p.0, m.0), m.1)) y c.2 in
    let m : List ℕ × List Token = d.0 in
    let made : ((p.0, m.0), m.1) ≡ y = some_is {A = (List ℕ × List ℕ) × List Token} ((p.0, m.0), m.1) y d.2 in
    let f = method_is (drop 1 (drop 1 tokens)) m (subst (λ (ts : List Token). method_at ts ≡ Some m) off d.1) in
    let last : m.1 ≡ drop 1 (drop 1 (drop 1 (drop 1 tokens))) = one_first name_of (drop 1 (drop 1 (drop 1 tokens))) m.0 m.1 f.1 in
    subst (λ (z : Content × ℕ × List Token). Read (our_func admitted) left tokens (z.0 ∷ []) z.1 z.2) (ap (λ (z : (List ℕ × List ℕ) × List Token). (plain (func z.0.0 z.0.1), left, z.1)) made ∙ same)
    (func_of admitted left tokens p.0 p.1 m.0 m.1 known b.0 c.1 f.0 f.1 last)
