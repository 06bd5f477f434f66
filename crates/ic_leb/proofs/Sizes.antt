-- How many bytes the number at the front has.
use Rattle.std.proofs.Common.{◌≡◌, ℕ, suc, zero, ◌+◌, ◌<◌, ◌≤◌, List, [], ◌∷◌, ◌++◌, Bool, true, false, length, refl, sym, ◌∙◌, ap, subst, arith, take, nat_lt, length-append, cond, Option, Some, None}
use Rattle.std.specs.Prelude.{Result, Ok, Err, if◌then◌else◌}
use Rattle.std.specs.List.{AllByRecursion, position_from}
use Rattle.std.proofs.lemmas.Bool.{lt-ltb, le-ltb, ltb-true, ltb-false}
use Rattle.ic_leb.specs.declared.fault.LebFault.{LebFault}
use Rattle.ic_leb.specs.declared.fault.LebFault.TheVariants.{Short, Long, Wide}
use Rattle.ic_leb.specs.Spells.{IsOneNumber}
use Rattle.ic_leb.specs.Faults.{IsCutShort, RunsOn}
use Rattle.ic_leb.specs.Reading.{size_at, and_one}

-- one number has a byte
pub some_bytes : (bytes : List ℕ) → IsOneNumber bytes → 0 < length bytes
some_bytes bytes one = omega (arith, ap length one.whole ∙ length-append one.front (one.last ∷ []))

-- the first bytes, that many, are one number
pub record IsFound (most : ℕ) (bytes : List ℕ) (size : ℕ) : Type 0 where
  pub one : IsOneNumber (take size bytes)
  pub some : 0 < size
  pub short : size ≤ most
  pub inside : size ≤ length bytes

-- what an answer to "how many bytes" says
abbrev pub Sized : ℕ → List ℕ → Result ℕ LebFault → Type 0
Sized most bytes (Ok size) = IsFound most bytes size
Sized most bytes (Err Short) = IsCutShort most bytes
Sized most bytes (Err Long) = RunsOn most bytes
Sized most bytes (Err Wide) = ⊥

-- after a byte that continues
one_more : (b : ℕ) (most : ℕ) (bytes : List ℕ) (r : Result ℕ LebFault) → 128 ≤ b → Sized most bytes r → Sized (suc most) (b ∷ bytes) (and_one r)
one_more b most bytes (Ok size) h found = record {
  one = record {
    front = b ∷ found.one.front;
    last = found.one.last;
    whole = ap (λ xs. b ∷ xs) found.one.whole;
    continued = (h, found.one.continued);
    ended = found.one.ended;
  };
  some = omega arith;
  short = omega arith;
  inside = omega arith;
}
one_more b most bytes (Err Short) h cut = record { fewer = omega arith; continued = (h, cut.continued) }
one_more b most bytes (Err Long) h runs = record { enough = omega arith; continued = (h, runs.continued) }
one_more b most bytes (Err Wide) h none = none

from_first : (b most : ℕ) (bytes : List ℕ) (r : Result ℕ LebFault) (ends : Bool) → nat_lt b 128 ≡ ends → Sized most bytes r → Sized (suc most) (b ∷ bytes) (if ends then Ok 1 else and_one r)
from_first b most bytes r true e sized = record {
  one = record { front = []; last = b; whole = refl; continued = tt; ended = omega (arith, ltb-true b 128 e) };
  some = omega arith;
  short = omega arith;
  inside = omega arith;
}
from_first b most bytes r false e sized = one_more b most bytes r (omega (arith, ltb-false b 128 e)) sized

pub sized : (most : ℕ) (bytes : List ℕ) → Sized most bytes (size_at most bytes)
unfolding size_at
sized zero bytes = record { enough = omega arith; continued = tt }
sized (suc most) [] = record { fewer = omega arith; continued = tt }
sized (suc most) (b ∷ bytes) = from_first b most bytes (size_at most bytes) (nat_lt b 128) refl (sized most bytes)

pub found_again : (front rest : List ℕ) (last most : ℕ) → AllByRecursion (λ byte. 128 ≤ byte) front → last < 128 → length front < most → size_at most (front ++ last ∷ rest) ≡ Ok (suc (length front))
unfolding size_at
found_again front rest last zero all end room = absurd (omega arith)
found_again [] rest last (suc most) all end room = rw (lt-ltb last 128 end) refl
found_again (b ∷ front) rest last (suc most) all end room =
    rw (le-ltb b 128 all.0) (ap and_one (found_again front rest last most all.1 end (omega arith)))

pub cut_again : (most : ℕ) (bytes : List ℕ) → length bytes < most → AllByRecursion (λ byte. 128 ≤ byte) bytes → size_at most bytes ≡ Err Short
unfolding size_at
cut_again zero bytes room all = absurd (omega arith)
cut_again (suc most) [] room all = refl
cut_again (suc most) (b ∷ bytes) room all = rw (le-ltb b 128 all.0) (ap and_one (cut_again most bytes (omega arith) all.1))

pub runs_again : (most : ℕ) (bytes : List ℕ) → most ≤ length bytes → AllByRecursion (λ byte. 128 ≤ byte) (take most bytes) → size_at most bytes ≡ Err Long
unfolding size_at
runs_again zero bytes room all = refl
runs_again (suc most) [] room all = absurd (omega arith)
runs_again (suc most) (b ∷ bytes) room all = rw (le-ltb b 128 all.0) (ap and_one (runs_again most bytes (omega arith) all.1))

abbrev pub ends_number : ℕ → Bool
ends_number byte = nat_lt byte 128

-- what the place of the last byte, counted from i on, says of the size
abbrev pub SizeBy : ℕ → ℕ → List ℕ → Option ℕ → Type 0
SizeBy i most bytes (Some last) = (size : ℕ) × (size_at most bytes ≡ Ok size) × (i + size ≡ last + 1) × (size ≤ length bytes)
SizeBy i most bytes None = (length bytes < most → size_at most bytes ≡ Err Short) × (most ≤ length bytes → size_at most bytes ≡ Err Long)

later : (i most b : ℕ) (bytes : List ℕ) (place : Option ℕ) → nat_lt b 128 ≡ false → SizeBy (i + 1) most bytes place → SizeBy i (suc most) (b ∷ bytes) place
unfolding size_at
later i most b bytes (Some last) e by = (suc by.0, rw e (ap and_one by.1), omega (arith, by.2), omega (arith, by.3))
later i most b bytes None e by = (λ h. rw e (ap and_one (by.0 (omega arith))), λ h. rw e (ap and_one (by.1 (omega arith))))

first_or_later : (i most b : ℕ) (bytes : List ℕ) (ends : Bool) → nat_lt b 128 ≡ ends → SizeBy (i + 1) most bytes (position_from ends_number (i + 1) (take most bytes)) → SizeBy i (suc most) (b ∷ bytes) (cond ends (Some i) (position_from ends_number (i + 1) (take most bytes)))
unfolding size_at
first_or_later i most b bytes true e by = (1, rw e refl, refl, omega arith)
first_or_later i most b bytes false e by = later i most b bytes (position_from ends_number (i + 1) (take most bytes)) e by

pub size_by_last : (i most : ℕ) (bytes : List ℕ) → SizeBy i most bytes (position_from ends_number i (take most bytes))
unfolding size_at
size_by_last i zero bytes = (λ h. absurd (omega arith), λ h. refl)
size_by_last i (suc most) [] = (λ h. refl, λ h. absurd (omega arith))
size_by_last i (suc most) (b ∷ bytes) = first_or_later i most b bytes (nat_lt b 128) refl (size_by_last (i + 1) most bytes)

pub size_by : (most : ℕ) (bytes : List ℕ) (place : Option ℕ) → place ≡ position_from ends_number 0 (take most bytes) → SizeBy 0 most bytes place
size_by most bytes place e = subst (SizeBy 0 most bytes) (sym e) (size_by_last 0 most bytes)
