-- A key is made word by word.
use Rattle.std.proofs.Common.{◌≡◌, ℕ, suc, ◌+◌, ◌/◌, List, length, take, drop, sym, ap, ap₂, ◌∙◌, arith}
use Rattle.std.specs.Int.{w64, from_le_bytes}
use Rattle.ic_exact.specs.Key.{mix, with_words}

pub next_word : (key now n : ℕ) (rest word others : List ℕ) → length others + 8 ≡ length rest → word ≡ take 8 rest → others ≡ drop 8 rest → n ≡ from_le_bytes w64 word → now ≡ mix key n
    → with_words (length others / 8) now others ≡ with_words (length rest / 8) key rest
next_word key now n rest word others size front back is made =
    let count : length rest / 8 ≡ suc (length others / 8) = omega (arith, size) in
    ap₂ (λ (k : ℕ) (l : List ℕ). with_words (length others / 8) k l) (made ∙ ap (mix key) (is ∙ ap (from_le_bytes w64) front)) back
    ∙ sym (ap (λ k. with_words k key rest) count)
