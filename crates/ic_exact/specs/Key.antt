-- A number of the bytes of a range, by which what has it is looked up. No standard has this.
use Rattle.std.specs.Prelude.{ℕ, zero, suc, ◌+◌, ◌*◌, ◌/◌, ◌%◌, ◌^◌, List, length, take, drop}
use Rattle.std.specs.Int.{w64, from_le_bytes}

-- one number more, in 64 bits
abbrev pub mix : ℕ → ℕ → ℕ
mix key n = (key * 1099511628211 % 2 ^ 64 + n) % 2 ^ 64

-- that many words of eight bytes more, the lowest byte of each first
abbrev pub with_words : (count : ℕ) → (key : ℕ) → List ℕ → ℕ
with_words zero key bytes = key
with_words (suc n) key bytes = with_words n (mix key (from_le_bytes w64 (take 8 bytes))) (drop 8 bytes)

-- of the words of a range
abbrev pub key_of_range : List ℕ → ℕ
key_of_range bytes = with_words (length bytes / 8) 0 bytes
