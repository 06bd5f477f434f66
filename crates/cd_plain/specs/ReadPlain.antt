-- Values without parts, as functions that read tokens.
use Rattle.std.specs.Prelude.{ℕ, ℤ, ◌^◌, Bool, true, false, List, [], ◌∷◌, drop, Option, Some, None, codes, if◌then◌else◌}
use Rattle.ic_base.specs.Reader.{◌>>=◌}
use Rattle.ic_principal.specs.Text.{principal_of}
use Rattle.cd_types.specs.declared.primitive.Primitive.{Primitive}
use Rattle.cd_types.specs.declared.primitive.Primitive.TheVariants as primitives
use Rattle.cd_codec.specs.Content.{Content, Plain, null, bool, nat, int, nat8, nat16, nat32, nat64, int8, int16, int32, int64, text, reserved, principal}
use Rattle.cd_tokens.specs.Token.{Token, run, quoted, mark, arrow}
use Rattle.cd_tokens.specs.ReadNumeral.{natural_of, integer_of, below, between}
use Rattle.cd_tokens.specs.ReadLabel.{text_of, name_of}
use Rattle.cd_tokens.specs.ReadString.{unescaped_of}
pub use Rattle.cd_tokens.specs.Front.{is_word, is_mark, starts}

-- what reads a value of the front of the tokens
abbrev pub Taking : Type 0 → Type 0
Taking A = List Token → Option (A × List Token)

-- what a word or a number says
abbrev pub run_says : {A : Type 0} → (List ℕ → Option A) → Token → Option A
run_says f (run r) = f r
run_says f (quoted s) = None
run_says f (mark m) = None
run_says f arrow = None

-- what a string says
abbrev pub string_says : {A : Type 0} → (List ℕ → Option A) → Token → Option A
string_says f (run r) = None
string_says f (quoted s) = f s
string_says f (mark m) = None
string_says f arrow = None

-- a value that one token says
abbrev pub first_at : {A : Type 0} → (Token → Option A) → Taking A
first_at f [] = None
first_at f (t ∷ rest) = f t >>= λ x. Some (x, rest)

-- what f makes of the value
abbrev pub taken : {A B : Type 0} → (A → B) → Taking A → Taking B
taken f read tokens = read tokens >>= λ x. Some (f x.0, x.1)

-- after a word
abbrev pub after_word : {A : Type 0} → List ℕ → Taking A → Taking A
after_word w read tokens = if starts (is_word w) tokens then read (drop 1 tokens) else None

-- a word alone
abbrev pub word_at : {A : Type 0} → List ℕ → A → Taking A
word_at w x = after_word w (λ tokens. Some (x, tokens))

unfoldable pub natural_at : ℕ → Taking ℕ
natural_at limit = first_at (run_says (λ r. below limit (natural_of r)))

unfoldable pub integer_at : ℕ → Taking ℤ
integer_at half = first_at (run_says (λ r. between half (integer_of r)))

unfoldable pub text_at : Taking (List ℕ)
text_at = first_at (string_says text_of)

-- the principal whose text a string says
abbrev pub principal_said : List ℕ → Option (List ℕ)
principal_said s = text_of s >>= principal_of

-- the text of a principal
unfoldable pub principal_text_at : Taking (List ℕ)
principal_text_at = first_at (string_says principal_said)

unfoldable pub bool_at : Taking Bool
bool_at tokens = if starts (is_word (codes "true")) tokens then Some (true, drop 1 tokens) else word_at (codes "false") false tokens

-- a dot and a name
abbrev pub method_at : Taking (List ℕ)
method_at tokens = if starts (is_mark 46) tokens then first_at name_of (drop 1 tokens) else None

-- func, the text of a service, a dot and a name
unfoldable pub func_at : Taking (List ℕ × List ℕ)
func_at = after_word (codes "func") (λ tokens. principal_text_at tokens >>= λ p. taken (λ m. (p.0, m)) method_at p.1)

-- the types whose values hold bytes of their own
abbrev pub takes_memory : Primitive → Bool
takes_memory primitives.Text = true
takes_memory primitives.Principal = true
takes_memory _ = false

-- a value of a primitive type
unfoldable pub primitive_at : Primitive → Taking Plain
primitive_at primitives.Null = word_at (codes "null") null
primitive_at primitives.Reserved = word_at (codes "null") reserved
primitive_at primitives.Bool = taken bool bool_at
primitive_at primitives.Nat = taken nat (natural_at (2 ^ 128))
primitive_at primitives.Nat8 = taken nat8 (natural_at (2 ^ 8))
primitive_at primitives.Nat16 = taken nat16 (natural_at (2 ^ 16))
primitive_at primitives.Nat32 = taken nat32 (natural_at (2 ^ 32))
primitive_at primitives.Nat64 = taken nat64 (natural_at (2 ^ 64))
primitive_at primitives.Int = taken int (integer_at (2 ^ 127))
primitive_at primitives.Int8 = taken int8 (integer_at (2 ^ 7))
primitive_at primitives.Int16 = taken int16 (integer_at (2 ^ 15))
primitive_at primitives.Int32 = taken int32 (integer_at (2 ^ 31))
primitive_at primitives.Int64 = taken int64 (integer_at (2 ^ 63))
primitive_at primitives.Text = taken text text_at
primitive_at primitives.Principal = taken principal (after_word (codes "principal") principal_text_at)
primitive_at primitives.Empty = λ tokens. None

-- the bytes of a string
unfoldable pub string_at : Taking (List ℕ)
string_at = first_at (string_says unescaped_of)

-- what reads a value: of the number of values allowed and the tokens, the value and what is left of both
abbrev pub Budgeted : Type 0 → Type 0
Budgeted A = ℕ → List Token → Option (A × ℕ × List Token)

-- a value that is read without parts
abbrev pub alone : {A : Type 0} → (A → Content) → Taking A → Budgeted Content
alone f read left tokens = read tokens >>= λ x. Some (f x.0, left, x.1)
