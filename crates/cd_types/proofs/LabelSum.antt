-- The id of a name, byte by byte.
use Rattle.std.proofs.Common.{◌≡◌, ℕ, ◌+◌, ◌*◌, ◌^◌, ◌%◌, ◌<◌, List, [], ◌∷◌, ◌++◌, length, take, get_or, arith, length-append, add-one}
use Rattle.std.proofs.Math.Seq.{take-suc}
use Rattle.cd_types.specs.FieldId.{label_sum}

-- the sum with one more byte
label_sum_push : (bytes : List ℕ) (b : ℕ) → label_sum (bytes ++ b ∷ []) ≡ label_sum bytes * 223 + b
label_sum_push [] b = omega arith
label_sum_push (x ∷ bytes) b =
    let longer : length (bytes ++ b ∷ []) ≡ length bytes + 1 = omega (arith, length-append bytes (b ∷ [])) in
    let power : 223 ^ length (bytes ++ b ∷ []) ≡ 223 ^ length bytes * 223 = rw (longer, add-one) (omega arith) in
    rw (power, label_sum_push bytes b) (grind arith)

-- the remainder may be taken at each step
step : (sum b : ℕ) → (sum % 2 ^ 32 * 223 + b) % 2 ^ 32 ≡ (sum * 223 + b) % 2 ^ 32
step sum b = omega arith

-- the id of one byte more
pub next_id : (bytes : List ℕ) (i id : ℕ) → i < length bytes → id ≡ label_sum (take i bytes) % 2 ^ 32 → (id * 223 + get_or bytes i 0) % 2 ^ 32 ≡ label_sum (take (i + 1) bytes) % 2 ^ 32
next_id bytes i id lt e =
    let more : take (i + 1) bytes ≡ take i bytes ++ get_or bytes i 0 ∷ [] = rw add-one (take-suc bytes i 0 lt) in
    rw (e, more, label_sum_push (take i bytes) (get_or bytes i 0)) (step (label_sum (take i bytes)) (get_or bytes i 0))
