-- The definitions at known numbers, by computing.
use Rattle.std.proofs.Common.{◌≡◌, [], ◌∷◌, ◌++◌, Ok, Err, refl}
use Rattle.std.specs.Prelude.{pos, negsuc, filter, replicate}
use Rattle.std.specs.List.{range_with_len}
use Rattle.ic_leb.specs.declared.width.Width.TheVariants.{Wasm32, Wasm64, Candid}
use Rattle.ic_leb.specs.declared.fault.LebFault.TheVariants.{Short, Long, Wide}
use Rattle.ic_leb.specs.Value.{unsigned_value, is_negative, signed_value}
use Rattle.ic_leb.specs.Reading.{size_at, unsigned_at, signed_at, fits_unsigned, fits_signed}
use Rattle.ic_leb.specs.Spelling.{seven_bits_each, unsigned_spelling, signed_spelling}

largest_32 : unsigned_at Wasm32 (0xff ∷ 0xff ∷ 0xff ∷ 0xff ∷ 0x0f ∷ []) ≡ Ok (4294967295, 5)
unfolding unsigned_at size_at unsigned_value
largest_32 = refl

wide_32 : unsigned_at Wasm32 (0x80 ∷ 0x80 ∷ 0x80 ∷ 0x80 ∷ 0x10 ∷ []) ≡ Err Wide
unfolding unsigned_at size_at unsigned_value
wide_32 = refl

long_32 : unsigned_at Wasm32 (0x80 ∷ 0x80 ∷ 0x80 ∷ 0x80 ∷ 0x80 ∷ []) ≡ Err Long
unfolding unsigned_at size_at unsigned_value
long_32 = refl

short_32 : unsigned_at Wasm32 (0x80 ∷ []) ≡ Err Short
unfolding unsigned_at size_at unsigned_value
short_32 = refl

padded_127 : unsigned_at Candid (0xff ∷ 0x00 ∷ []) ≡ Ok (127, 2)
unfolding unsigned_at size_at unsigned_value
padded_127 = refl

least_32 : signed_at Wasm32 (0x80 ∷ 0x80 ∷ 0x80 ∷ 0x80 ∷ 0x78 ∷ []) ≡ Ok (negsuc 2147483647, 5)
unfolding signed_at size_at signed_value unsigned_value is_negative
least_32 = refl

padded_minus_2 : signed_at Wasm64 (0xfe ∷ 0xff ∷ 0x7f ∷ []) ≡ Ok (negsuc 1, 3)
unfolding signed_at size_at signed_value unsigned_value is_negative
padded_minus_2 = refl

-- At the last byte that WebAssembly permits, a number fits where the unused bits are zero ..
unused_bits_zero_32 : filter (λ byte. fits_unsigned Wasm32 (unsigned_value (replicate 4 0x80 ++ byte ∷ []))) (range_with_len 0 128) ≡ range_with_len 0 16
unfolding unsigned_value
unused_bits_zero_32 = refl

unused_bits_zero_64 : filter (λ byte. fits_unsigned Wasm64 (unsigned_value (replicate 9 0x80 ++ byte ∷ []))) (range_with_len 0 128) ≡ range_with_len 0 2
unfolding unsigned_value
unused_bits_zero_64 = refl

-- .. and a signed one where they are copies of the sign.
unused_bits_sign_32 : filter (λ byte. fits_signed Wasm32 (signed_value (replicate 4 0x80 ++ byte ∷ []))) (range_with_len 0 128) ≡ range_with_len 0 8 ++ range_with_len 120 8
unfolding signed_value unsigned_value is_negative
unused_bits_sign_32 = refl

unused_bits_sign_64 : filter (λ byte. fits_signed Wasm64 (signed_value (replicate 9 0x80 ++ byte ∷ []))) (range_with_len 0 128) ≡ 0x00 ∷ 0x7f ∷ []
unfolding signed_value unsigned_value is_negative
unused_bits_sign_64 = refl

spelling_624485 : unsigned_spelling 624485 ≡ 0xe5 ∷ 0x8e ∷ 0x26 ∷ []
unfolding unsigned_spelling seven_bits_each
spelling_624485 = refl

spelling_minus_123456 : signed_spelling (negsuc 123455) ≡ 0xc0 ∷ 0xbb ∷ 0x78 ∷ []
unfolding signed_spelling seven_bits_each
spelling_minus_123456 = refl

spelling_64 : signed_spelling (pos 64) ≡ 0xc0 ∷ 0x00 ∷ []
unfolding signed_spelling seven_bits_each
spelling_64 = refl
