-- Tokens with their places, one after the other.
use Rattle.std.proofs.Common.{◌≡◌, ℕ, ◌<◌, ◌≤◌, Bool, true, List, [], ◌∷◌, ◌++◌, length, Option, Some, None, refl, sym, ap, ◌∙◌, arith}
use Rattle.std.specs.Prelude.{nat_lt, option_map}
use Rattle.cd_tokens.specs.Token.{Token}
use Rattle.cd_tokens.specs.Placed.{is_within, are_within}
use Rattle.cd_tokens.specs.ReadGap.{past_gap}
use Rattle.cd_tokens.specs.ReadToken.{token_at}
use Rattle.cd_tokens.specs.declared.placed.PlacedToken.{PlacedToken}
use Rattle.std.proofs.lemmas.List.{length-append}
use Rattle.cd_tokens.proofs.Fronts.{both}
use Rattle.cd_tokens.proofs.Firsts.{token_takes, some_byte}
use Rattle.cd_tokens.proofs.Gaps.{gap_takes, gap, all}

-- what is found, where it is none
pub none_is : {A B : Type 0} (view : A → B) (found : Option A) (read : Option B) → option_map view found ≡ read → found ≡ None → read ≡ None
none_is view found read e is = sym e ∙ ap (option_map view) is

-- one token more within the text
pub one_within : (text : List ℕ) (tokens : List PlacedToken) (t : PlacedToken) → are_within text tokens ≡ true → t.place < length text → are_within text (tokens ++ t ∷ []) ≡ true
one_within text [] t are below = let h : nat_lt t.place (length text) ≡ true = grind (arith, below) in rw h refl
one_within text (u ∷ tokens) t are below = let h = both (is_within text u) (are_within text tokens) are in rw (h.0, one_within text tokens t h.1 below) refl

-- what follows a gap is no longer, and what follows a token is shorter
pub gap_shorter : (comments : Bool) (text rest : List ℕ) → past_gap comments text ≡ Some rest → length rest ≤ length text
gap_shorter comments text rest e = elim (gap_takes comments text rest e) [
  | gap front whole is_gap clear ↦ let n = ap length whole ∙ length-append front rest in omega (arith, n)
  | all last none ↦ let n = ap length none in omega (arith, n)
]

pub token_shorter : (text rest : List ℕ) (t : Token) → token_at text ≡ Some (t, rest) → length rest < length text
token_shorter text rest t e =
    let r = token_takes text (t, rest) e in
    let n = ap length r.whole ∙ length-append r.front rest in
    let m = some_byte t r.front r.is_token in
    omega (arith, n, m)
