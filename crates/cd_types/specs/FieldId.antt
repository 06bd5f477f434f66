-- Candid specification, "Shorthand: Symbolic Field Ids"
use Rattle.std.specs.Prelude.{ℕ, ◌+◌, ◌*◌, ◌^◌, ◌%◌, List, [], ◌∷◌, length}

-- the sum of each byte times 223 to the number of bytes after it
abbrev pub label_sum : List ℕ → ℕ
label_sum [] = 0
label_sum (byte ∷ bytes) = byte * 223 ^ length bytes + label_sum bytes

-- the id of the field with this name
abbrev pub field_id_of : List ℕ → ℕ
field_id_of name = label_sum name % 2 ^ 32
