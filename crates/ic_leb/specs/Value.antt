-- What the bytes of one number stand for (WebAssembly Core 1.0, section 5.2.2; Candid, "Binary Format").
use Rattle.std.specs.Prelude.{ℕ, ◌-◌, ◌*◌, ◌%◌, ◌^◌, List, length, slice_index, Bool, nat_le, ℤ, pos, ◌-ℤ◌, if◌then◌else◌}
use Rattle.std.specs.List.{sum_by, enumerate_from}

-- the sum of the low seven bits of byte i, times 128 ^ i
unfoldable pub unsigned_value : List ℕ → ℕ
unsigned_value bytes = sum_by (λ (i, byte). byte % 128 * 128 ^ i) (enumerate_from 0 bytes)

-- bit 6 of the last byte, the sign
unfoldable pub is_negative : List ℕ → Bool
is_negative bytes = nat_le 64 (slice_index bytes (length bytes - 1) % 128)

-- the same in two's complement: less 128 ^ length where the sign is set
unfoldable pub signed_value : List ℕ → ℤ
signed_value bytes =
    if is_negative bytes then pos (unsigned_value bytes) -ℤ pos (128 ^ length bytes) else pos (unsigned_value bytes)
