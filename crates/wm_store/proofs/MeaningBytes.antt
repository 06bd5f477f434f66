-- Numbers in little-endian bytes, and bytes written into bytes.
use Rattle.std.proofs.Common.{◌≡◌, ℕ, zero, suc, ◌+◌, ◌-◌, ◌*◌, ◌/◌, ◌^◌, ◌<◌, ◌≤◌, ◌∙◌, inl, inr, Bool, true, false, nat_le, if◌then◌else◌, Some, None, List, [], ◌∷◌, ◌++◌, length, take, drop, get_or, ap, sym, arith}
use Rattle.std.proofs.Math.Nat.{pow-suc, mul-le-mul_right}
use Rattle.std.proofs.lemmas.Bool.{cases_lt}
use Rattle.std.proofs.lemmas.List.{get_or_past, length-take}
use Rattle.std.proofs.lemmas.List.Elements.{All-nil, All-cons, All-append, All-take, All-drop}
use Rattle.std.proofs.lemmas.Nat.{mod_below}
use Rattle.std.specs.List.{All}
use Rattle.std.specs.Option.{option_map, ok_or}
use Rattle.std.specs.Result.{IfOk}
use Rattle.std.specs.Int.{w64, from_le_bytes, byte_at, byte_worth, bytes_low_first, sum_through}
use Rattle.wm_numeric.specs.declared.failure.Failure.TheVariants.{MemoryBounds}
use Rattle.wm_pages.specs.Over.{over}
use Rattle.wm_store.specs.Meaning.{number_at}

abbrev pub AreBytes : List ℕ → Type 0
AreBytes xs = All (λ b. b < 256) xs

pub part_are : (at n : ℕ) (xs : List ℕ) → AreBytes xs → AreBytes (take n (drop at xs))
part_are at n xs h = All-take (λ b. b < 256) n (drop at xs) (All-drop (λ b. b < 256) at xs h)

byte_below : (xs : List ℕ) (i : ℕ) → AreBytes xs → get_or xs i 0 < 256
byte_below xs i h = elim (cases_lt i (length xs)) [ inl p ↦ h i 0 p | inr p ↦ omega (arith, get_or_past xs i 0 p) ]

-- bytes 0 to i of the list as a number
abbrev worth : List ℕ → ℕ → ℕ
worth xs i = sum_through (λ k. byte_worth k (get_or xs k 0)) i

worth_below : (xs : List ℕ) (i : ℕ) → AreBytes xs → worth xs i < 256 ^ suc i
worth_below xs zero h = omega (arith, byte_below xs 0 h)
worth_below xs (suc i) h =
    let b : suc (get_or xs (suc i) 0) ≤ 256 = byte_below xs (suc i) h in
    omega (arith, worth_below xs i h, pow-suc 256 (suc i), mul-le-mul_right (256 ^ suc i) b)

worth_past : (xs : List ℕ) (i more : ℕ) → length xs ≤ suc i → worth xs (more + i) ≡ worth xs i
worth_past xs i zero h = ap (worth xs) (let e : 0 + i ≡ i = omega arith in e)
worth_past xs i (suc more) h =
    let e : suc more + i ≡ suc (more + i) = omega arith in
    let lost : get_or xs (suc (more + i)) 0 ≡ 0 = get_or_past xs (suc (more + i)) 0 (omega arith) in
    ap (worth xs) e ∙ omega (arith, worth_past xs i more h, ap (λ b. b * 256 ^ suc (more + i)) lost)

-- at most n bytes of eight are a number below 256 ^ n
number_below : (xs : List ℕ) (n : ℕ) → n ≤ 8 → length xs ≤ n → AreBytes xs → from_le_bytes w64 xs < 256 ^ n
number_below [] zero few short h = omega arith
number_below (x ∷ xs) zero few short h = absurd (omega arith)
number_below xs (suc i) few short h =
    let e : (7 - i) + i ≡ 7 = omega arith in
    let same : worth xs 7 ≡ worth xs i = ap (worth xs) (sym e) ∙ worth_past xs i (7 - i) short in
    omega (arith, same, worth_below xs i h)

read_below : (fit : Bool) (xs : List ℕ) (extend : ℕ → ℕ) (most : ℕ) → extend (from_le_bytes w64 xs) < most
    → IfOk (ok_or (option_map (λ bytes. extend (from_le_bytes w64 bytes)) (if fit then Some xs else None)) MemoryBounds) (λ n. n < most)
read_below true xs extend most h = h
read_below false xs extend most h = tt

-- what is read is in range where that of that many bytes is
pub number_at_below : (size : ℕ) (extend : ℕ → ℕ) (at : ℕ) (memory : List ℕ) (most : ℕ) → size ≤ 8 → AreBytes memory
    → ((n : ℕ) → n < 256 ^ size → extend n < most) → IfOk (number_at size extend at memory) (λ n. n < most)
number_at_below size extend at memory most few are keeps =
    let xs : List ℕ = take size (drop at memory) in
    let short : length xs ≤ size = omega (arith, length-take size (drop at memory)) in
    read_below (nat_le (at + size) (length memory)) xs extend most (keeps (from_le_bytes w64 xs) (number_below xs size few short (part_are at size memory are)))

-- ---- writing

byte_at_below : (i n : ℕ) → byte_at i n < 256
byte_at_below zero n = mod_below n 256 (omega arith)
byte_at_below (suc i) n = mod_below (n / 256 ^ suc i) 256 (omega arith)

pub bytes_of_are : (i k n : ℕ) → AreBytes (bytes_low_first i k n)
bytes_of_are i zero n = All-nil (λ b. b < 256)
bytes_of_are i (suc k) n = All-cons (λ b. b < 256) (byte_at i n) (bytes_low_first (suc i) k n) (byte_at_below i n) (bytes_of_are (suc i) k n)

pub over_are : (at : ℕ) (bytes xs : List ℕ) → AreBytes bytes → AreBytes xs → AreBytes (over at bytes xs)
unfolding over
over_are at bytes xs are h =
    let rest : List ℕ = drop (at + length bytes) xs in
    All-append (λ b. b < 256) (take at xs) (bytes ++ rest) (All-take (λ b. b < 256) at xs h)
    (All-append (λ b. b < 256) bytes rest are (All-drop (λ b. b < 256) (at + length bytes) xs h))
