-- How values without parts are said, by tokens (Candid specification, "Core Grammar", values).
use Rattle.std.specs.Prelude.{◌≡◌, ℕ, ℤ, ◌^◌, ◌<◌, true, false, List, [], ◌∷◌, Some, ◌⊎◌, codes}
use Rattle.ic_principal.specs.Text.{principal_of}
use Rattle.cd_types.specs.declared.primitive.Primitive.{Primitive}
use Rattle.cd_types.specs.declared.primitive.Primitive.TheVariants as primitives
use Rattle.cd_codec.specs.Content.{Plain, null, bool, nat, int, nat8, nat16, nat32, nat64, int8, int16, int32, int64, text, reserved, principal}
use Rattle.cd_tokens.specs.Token.{Token, run, quoted}
use Rattle.cd_tokens.specs.Numeral.{IsNatural, IsInteger}
use Rattle.cd_tokens.specs.ReadNumeral.{is_between}
use Rattle.cd_tokens.specs.Label.{IsTextOf, IsNameOf}
use Rattle.cd_text.specs.Words.{dot}

-- a natural number below a limit
abbrev pub SaysNatural : ℕ → ℕ → List Token → Type 0
SaysNatural limit n tokens = (r : List ℕ) × (tokens ≡ run r ∷ []) × IsNatural n r × (n < limit)

-- an integer from -half to half - 1
abbrev pub SaysInteger : ℕ → ℤ → List Token → Type 0
SaysInteger half z tokens = (r : List ℕ) × (tokens ≡ run r ∷ []) × IsInteger z r × (is_between half z ≡ true)

-- the string is the text of the principal
abbrev pub IsPrincipalText : List ℕ → List ℕ → Type 0
IsPrincipalText p written = (text : List ℕ) × IsTextOf text written × (principal_of text ≡ Some p)

-- a word, and the text of a principal
abbrev pub SaysPrincipal : List ℕ → List ℕ → List Token → Type 0
SaysPrincipal word p tokens = (s : List ℕ) × (tokens ≡ run word ∷ quoted s ∷ []) × IsPrincipalText p s

-- func, the text of a service, a dot, and the method's name
abbrev pub SaysFunc : List ℕ → List ℕ → List Token → Type 0
SaysFunc p method tokens = (s : List ℕ) × (name : Token) × (tokens ≡ run (codes "func") ∷ quoted s ∷ dot ∷ name ∷ []) × IsPrincipalText p s × IsNameOf method name

-- a value of a primitive type
abbrev pub SaysPlain : Primitive → Plain → List Token → Type 0
SaysPlain primitives.Null v tokens = (v ≡ null) × (tokens ≡ run (codes "null") ∷ [])
SaysPlain primitives.Reserved v tokens = (v ≡ reserved) × (tokens ≡ run (codes "null") ∷ [])
SaysPlain primitives.Bool v tokens = ((v ≡ bool true) × (tokens ≡ run (codes "true") ∷ [])) ⊎ ((v ≡ bool false) × (tokens ≡ run (codes "false") ∷ []))
SaysPlain primitives.Nat v tokens = (n : ℕ) × (v ≡ nat n) × SaysNatural (2 ^ 128) n tokens
SaysPlain primitives.Nat8 v tokens = (n : ℕ) × (v ≡ nat8 n) × SaysNatural (2 ^ 8) n tokens
SaysPlain primitives.Nat16 v tokens = (n : ℕ) × (v ≡ nat16 n) × SaysNatural (2 ^ 16) n tokens
SaysPlain primitives.Nat32 v tokens = (n : ℕ) × (v ≡ nat32 n) × SaysNatural (2 ^ 32) n tokens
SaysPlain primitives.Nat64 v tokens = (n : ℕ) × (v ≡ nat64 n) × SaysNatural (2 ^ 64) n tokens
SaysPlain primitives.Int v tokens = (z : ℤ) × (v ≡ int z) × SaysInteger (2 ^ 127) z tokens
SaysPlain primitives.Int8 v tokens = (z : ℤ) × (v ≡ int8 z) × SaysInteger (2 ^ 7) z tokens
SaysPlain primitives.Int16 v tokens = (z : ℤ) × (v ≡ int16 z) × SaysInteger (2 ^ 15) z tokens
SaysPlain primitives.Int32 v tokens = (z : ℤ) × (v ≡ int32 z) × SaysInteger (2 ^ 31) z tokens
SaysPlain primitives.Int64 v tokens = (z : ℤ) × (v ≡ int64 z) × SaysInteger (2 ^ 63) z tokens
SaysPlain primitives.Text v tokens = (s : List ℕ) × (written : List ℕ) × (v ≡ text s) × (tokens ≡ quoted written ∷ []) × IsTextOf s written
SaysPlain primitives.Principal v tokens = (p : List ℕ) × (v ≡ principal p) × SaysPrincipal (codes "principal") p tokens
SaysPlain primitives.Empty v tokens = ⊥
