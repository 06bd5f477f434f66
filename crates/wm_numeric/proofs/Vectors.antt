use Rattle.std.proofs.Common.{◌≡◌, ◌-◌, ◌^◌, refl, Ok, Err}
use Rattle.wm_numeric.specs.declared.failure.Failure.TheVariants.{DivideByZero, Overflow}
use Rattle.std.specs.Int.Count.{count_leading_zeros, count_trailing_zeros, ones, ones_in}
use Rattle.wm_numeric.specs.Integers.{iadd, isub, imul, idiv_s, irem_s, ishl, ishr_s, irotl, irotr, iclz, ictz, ipopcnt, ilt_s, ige_s, extend_s, wrap}

v1 : iadd 32 (2 ^ 32 - 1) 2 ≡ 1
v1 = refl

v2 : isub 64 1 2 ≡ 2 ^ 64 - 1
v2 = refl

v3 : imul 32 (2 ^ 31) 3 ≡ 2 ^ 31
v3 = refl

v4 : idiv_s 32 (2 ^ 31) (2 ^ 32 - 1) ≡ Err Overflow
v4 = refl

v5 : idiv_s 32 (2 ^ 32 - 7) 2 ≡ Ok (2 ^ 32 - 3)
v5 = refl

v6 : irem_s 32 (2 ^ 31) (2 ^ 32 - 1) ≡ Ok 0
v6 = refl

v7 : irem_s 64 (2 ^ 64 - 7) 2 ≡ Ok (2 ^ 64 - 1)
v7 = refl

v8 : irem_s 32 7 0 ≡ Err DivideByZero
v8 = refl

v9 : ishl 32 1 33 ≡ 2
v9 = refl

v10 : ishr_s 32 (2 ^ 31) 31 ≡ 2 ^ 32 - 1
v10 = refl

v11 : irotl 32 0xABCD9876 1 ≡ 0x579B30ED
v11 = refl

v12 : irotr 32 1 1 ≡ 2 ^ 31
v12 = refl

v13 : irotl 64 5 64 ≡ 5
v13 = refl

v14 : iclz 32 0 ≡ 32
unfolding count_leading_zeros
v14 = refl

v15 : iclz 32 1 ≡ 31
unfolding count_leading_zeros
v15 = refl

v16 : ictz 64 0 ≡ 64
unfolding count_trailing_zeros
v16 = refl

v17 : ictz 64 24 ≡ 3
unfolding count_trailing_zeros
v17 = refl

v18 : ipopcnt 32 255 ≡ 8
unfolding ones ones_in
v18 = refl

v19 : ilt_s 32 (2 ^ 32 - 1) 0 ≡ 1
v19 = refl

v20 : extend_s 8 64 0x80 ≡ 2 ^ 64 - 128
v20 = refl

v21 : wrap 32 (2 ^ 64 - 1) ≡ 2 ^ 32 - 1
v21 = refl

v22 : ige_s 64 (2 ^ 63) (2 ^ 63) ≡ 1
v22 = refl
