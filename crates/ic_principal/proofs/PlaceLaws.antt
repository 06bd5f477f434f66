-- The table of the places of bytes in the alphabet, computed.
use Rattle.std.proofs.Common.{◌≡◌, ℕ, ◌<◌, true, get_or, refl, arith}
use Rattle.std.specs.Prelude.{◌==◌, ◌||◌, nat_le}
use Rattle.std.proofs.lemmas.Bool.Decides.{Decides-eqb, nat_tests}
use Rattle.ic_principal.specs.Base32.{alphabet, character}
use Rattle.ic_principal.specs.declared.base32.TheConstants.{PLACES}
use Rattle.ic_principal.proofs.Base32Laws.{passes, passes-below}

-- where a byte has a place, its character is there
pub character-place : (letter : ℕ) → letter < 256 → get_or PLACES letter 0 < 32 → character (get_or PLACES letter 0) ≡ letter
unfolding alphabet passes
character-place letter h small =
    let test : (nat_le 32 (get_or PLACES letter 0) || (character (get_or PLACES letter 0) == letter)) ≡ true =
    passes-below (λ k. nat_le 32 (get_or PLACES k 0) || (character (get_or PLACES k 0) == k)) 256 refl letter h in
    grind (arith, nat_tests)

-- the place of a character is its value
pub place-character : (value : ℕ) → value < 32 → get_or PLACES (character value) 0 ≡ value
unfolding alphabet passes
place-character value h = (Decides-eqb (get_or PLACES (character value) 0) value).0 (passes-below (λ v. get_or PLACES (character v) 0 == v) 32 refl value h)
