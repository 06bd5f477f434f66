-- The table of words has each word as it is spelled.
use Rattle.std.proofs.Common.{◌≡◌, ℕ, List, [], ◌∷◌, map, refl, ap, ◌∙◌, inl, inr}
use Rattle.std.specs.Prelude.{bytes_eq, find}
use Rattle.cd_grammar.specs.declared.word.Word.{Word}
use Rattle.cd_grammar.specs.declared.word.TheConstants.{WORDS}
use Rattle.cd_grammar.specs.Words.{spelling, words, word_in, word_of}
use Rattle.cd_tokens.proofs.Fronts.{true_or_false}

abbrev spelled : List Word → List (List ℕ × Word)
spelled ws = map (λ w. (spelling w, w)) ws

found : (ws : List Word) (bytes : List ℕ) → word_in (spelled ws) bytes ≡ find (λ w. bytes_eq bytes (spelling w)) ws
found [] bytes = refl
found (w ∷ ws) bytes = elim (true_or_false (bytes_eq bytes (spelling w))) [
  | inl same ↦ rw same refl
  | inr other ↦ rw other (found ws bytes)
]

table_is : map (λ w. (w.0.now, w.1)) WORDS ≡ spelled words
unfolding spelling
table_is = refl

pub table_word : (bytes : List ℕ) → word_in (map (λ w. (w.0.now, w.1)) WORDS) bytes ≡ word_of bytes
unfolding word_of
table_word bytes = ap (λ (rows : List (List ℕ × Word)). word_in rows bytes) table_is ∙ found words bytes
