-- The words of test files are distinct.
use Rattle.std.proofs.Common.{◌≡◌, true, false, List, [], ◌∷◌, ℕ, drop, refl, ap, inl, inr}
use Rattle.std.specs.Prelude.{◌≢◌, bytes_eq}
use Rattle.std.proofs.lemmas.Slice.Eq.{bytes_eq-Decides}
use Rattle.cd_tokens.specs.Token.{Token, run, quoted, mark, arrow}
use Rattle.cd_tokens.specs.Front.{starts}
use Rattle.cd_tokens.proofs.Fronts.{true_or_false}
use Rattle.ct_file.specs.declared.keyword.Keyword.{Keyword}
use Rattle.ct_file.specs.Words.{spelling, word, is_word}

same_bytes : (bytes others : List ℕ) → bytes_eq bytes others ≡ true → bytes ≡ others
same_bytes bytes others e = (bytes_eq-Decides bytes others).0 e

word_is : (w : Keyword) (t : Token) → is_word w t ≡ true → t ≡ word w
word_is w (run r) e = ap run (same_bytes r (spelling w) e)
word_is w (quoted s) e = absurd cc
word_is w (mark m) e = absurd cc
word_is w arrow e = absurd cc

pub word_first : (w : Keyword) (tokens : List Token) → starts (is_word w) tokens ≡ true → tokens ≡ word w ∷ drop 1 tokens
word_first w [] e = absurd cc
word_first w (t ∷ rest) e = ap (λ (x : Token). x ∷ rest) (word_is w t e)

pub same_word : (w : Keyword) → is_word w (word w) ≡ true
same_word w = (bytes_eq-Decides (spelling w) (spelling w)).1 refl

pub not_word : (w : Keyword) (r : List ℕ) → (r ≢ spelling w) → is_word w (run r) ≡ false
not_word w r other = elim (true_or_false (bytes_eq r (spelling w))) [
  | inl same ↦ absurd (other (same_bytes r (spelling w) same))
  | inr differs ↦ differs
]
