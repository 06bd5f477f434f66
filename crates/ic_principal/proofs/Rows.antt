-- The definitions computed at known values.
use Rattle.std.proofs.Common.{◌≡◌, [], ◌∷◌, refl}
use Rattle.std.specs.Prelude.{codes}
use Rattle.ic_principal.specs.Bits.{bits_of, number}
use Rattle.ic_principal.specs.Checksum.{sent, flipped, polynomial, turned, remainder, ones, dividend, checksum}
use Rattle.ic_principal.specs.Base32.{alphabet, fives}
use Rattle.ic_principal.specs.Text.{dashed, text_of}

check_value : number (checksum (codes "123456789")) ≡ 0xCBF43926
unfolding bits_of number sent flipped polynomial turned remainder ones dividend checksum
check_value = refl

no_bytes : text_of [] ≡ codes "aaaaa-aa"
unfolding bits_of number sent flipped polynomial turned remainder ones dividend checksum alphabet fives dashed text_of
no_bytes = refl

anonymous : text_of (4 ∷ []) ≡ codes "2vxsx-fae"
unfolding bits_of number sent flipped polynomial turned remainder ones dividend checksum alphabet fives dashed text_of
anonymous = refl

three_bytes : text_of (0xAB ∷ 0xCD ∷ 0x01 ∷ []) ≡ codes "em77e-bvlzu-aq"
unfolding bits_of number sent flipped polynomial turned remainder ones dividend checksum alphabet fives dashed text_of
three_bytes = refl

first_canister : text_of (0 ∷ 0 ∷ 0 ∷ 0 ∷ 0 ∷ 0 ∷ 0 ∷ 0 ∷ 1 ∷ 1 ∷ []) ≡ codes "rwlgt-iiaaa-aaaaa-aaaaa-cai"
unfolding bits_of number sent flipped polynomial turned remainder ones dividend checksum alphabet fives dashed text_of
first_canister = refl

second_canister : text_of (0 ∷ 0 ∷ 0 ∷ 0 ∷ 0 ∷ 0 ∷ 0 ∷ 1 ∷ 1 ∷ 1 ∷ []) ≡ codes "rrkah-fqaaa-aaaaa-aaaaq-cai"
unfolding bits_of number sent flipped polynomial turned remainder ones dividend checksum alphabet fives dashed text_of
second_canister = refl
