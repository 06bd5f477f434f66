-- The words that no name is (Candid specification, "Core Grammar", values).
use Rattle.std.specs.Prelude.{ℕ, ◌&&◌, ◌||◌, not, Bool, false, bytes_eq, List, [], ◌∷◌, codes}
use Rattle.cd_tokens.specs.Label.{is_name}

-- the word is one of these
abbrev pub is_among : List (List ℕ) → List ℕ → Bool
is_among [] word = false
is_among (other ∷ words) word = bytes_eq word other || is_among words word

-- the words of Candid's values, and of patterns
unfoldable pub candid_words : List (List ℕ)
candid_words =
    codes "true" ∷ codes "false" ∷ codes "null" ∷ codes "opt" ∷ codes "vec" ∷ codes "record" ∷ codes "variant" ∷ codes "func" ∷ codes "service" ∷ codes "principal"
    ∷ codes "blob" ∷ codes "let" ∷ codes "_" ∷ []

unfoldable pub is_candid_word : List ℕ → Bool
is_candid_word word = is_among candid_words word

-- a word that a name may be
abbrev pub is_free_name : List ℕ → Bool
is_free_name word = is_name word && not (is_candid_word word)
