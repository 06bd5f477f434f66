-- The tokens of a text, with gaps between them (Candid specification, "Core Grammar").
use Rattle.std.specs.Prelude.{◌≡◌, ℕ, Bool, List, [], ◌∷◌, ◌++◌, Result, Ok, Err}
use Rattle.ic_base.specs.declared.read_error.ReadError.{ReadError}
use Rattle.ic_base.specs.declared.read_error.ReadError.TheVariants.{NoMemory, Refused}
use Rattle.cd_tokens.specs.Token.{Token, IsToken, IsEnded}
use Rattle.cd_tokens.specs.Gap.{IsGap, IsLastGap}

-- a token after a gap, and what follows
pub record Next (comments : Bool) (t : Token) (Rest : List ℕ → Type 0) (text : List ℕ) : Type 0 where
  pub gap : List ℕ
  pub front : List ℕ
  pub rest : List ℕ
  pub whole : text ≡ gap ++ (front ++ rest)
  pub is_gap : IsGap comments gap
  pub is_token : IsToken t front
  pub ended : IsEnded t rest
  pub follows : Rest rest

-- the tokens are in the text, in order, with gaps before, between and after them
abbrev pub IsTokens : Bool → List Token → List ℕ → Type 0
IsTokens comments [] text = IsLastGap comments text
IsTokens comments (t ∷ tokens) text = Next comments t (IsTokens comments tokens) text

-- the answer, seen by view, is this value, unless memory ran out
abbrev pub Agrees : {A B : Type 0} → (A → B) → Result A ReadError → B → Type 0
Agrees view (Ok x) y = view x ≡ y
Agrees view (Err Refused) y = ⊥
Agrees view (Err NoMemory) y = Unit {0}
