-- The table of words has each word as it is spelled.
use Rattle.std.proofs.Common.{◌≡◌, ℕ, List, map, refl, ap}
use Rattle.ct_names.specs.declared.word.TheConstants.{CANDID_WORDS}
use Rattle.ct_names.specs.Words.{candid_words, is_among, is_candid_word}

table_is : map (λ w. w.now) CANDID_WORDS ≡ candid_words
unfolding candid_words
table_is = refl

pub table_word : (word : List ℕ) → is_among (map (λ w. w.now) CANDID_WORDS) word ≡ is_candid_word word
unfolding is_candid_word
table_word word = ap (λ (words : List (List ℕ)). is_among words word) table_is
