-- A register of 32 bits divides as the list of bits does.
use Rattle.std.proofs.Common.{◌≡◌, ℕ, suc, zero, ◌+◌, ◌-◌, ◌*◌, ◌/◌, ◌%◌, ◌^◌, ◌<◌, Bool, true, false, not, List, [], ◌∷◌, ◌++◌, length, reverse, replicate, bit_xor, refl, sym, ap, ◌∙◌, arith, length-append, append_assoc, append-nil}
use Rattle.std.specs.Prelude.{◌==◌, if◌then◌else◌}
use Rattle.std.specs.Int.{bit_at}
use Rattle.std.proofs.lemmas.List.{reverse-append, reverse-reverse, length-reverse}
use Rattle.std.proofs.lemmas.Nat.{xor_shr, xor_comm}
use Rattle.std.proofs.lemmas.Nat.Bits.{bit_at_xor, bit_at-lt, bit_at_above}
use Rattle.ic_principal.specs.Bits.{bit, bits_of}
use Rattle.ic_principal.specs.Checksum.{sent, flipped, polynomial, turned, remainder, ones, dividend, checksum}
use Rattle.ic_principal.proofs.BitLaws.{length-bits_of, bits_of-cat, reverse-bits_of}

-- the lowest 32 bits of n, from the lowest up
abbrev register_bits : ℕ → List Bool
register_bits n = reverse (bits_of 32 n)

-- ---- masks
-- clear bits after a mask change nothing
flipped-clear_behind : (k : ℕ) (mask bits : List Bool) → flipped (mask ++ replicate k false) bits ≡ flipped mask bits
unfolding flipped
flipped-clear_behind k (set ∷ mask) [] = refl
flipped-clear_behind k (set ∷ mask) (b ∷ bits) = ap (λ l. (if set then not b else b) ∷ l) (flipped-clear_behind k mask bits)
flipped-clear_behind zero [] bits = refl
flipped-clear_behind (suc k) [] [] = refl
flipped-clear_behind (suc k) [] (b ∷ bits) = ap (λ l. b ∷ l) (flipped-clear_behind k [] bits)

-- a mask is where all was clear
flipped-onto_clear : (mask bits : List Bool) → flipped mask (replicate (length mask) false ++ bits) ≡ mask ++ bits
unfolding flipped
flipped-onto_clear [] bits = refl
flipped-onto_clear (true ∷ mask) bits = ap (λ l. true ∷ l) (flipped-onto_clear mask bits)
flipped-onto_clear (false ∷ mask) bits = ap (λ l. false ∷ l) (flipped-onto_clear mask bits)

flip_twice : (a c b : Bool) → (if a then not (if c then not b else b) else (if c then not b else b)) ≡ (if (if a then not c else c) then not b else b)
flip_twice true true true = refl
flip_twice true true false = refl
flip_twice true false b = refl
flip_twice false c b = refl

-- two masks of one length are one
flipped-flipped : (xs ys bits : List Bool) → length xs ≡ length ys → flipped xs (flipped ys bits) ≡ flipped (flipped xs ys) bits
unfolding flipped
flipped-flipped [] [] bits h = refl
flipped-flipped [] (y ∷ ys) bits h = absurd (omega arith)
flipped-flipped (x ∷ xs) [] bits h = absurd (omega arith)
flipped-flipped (x ∷ xs) (y ∷ ys) [] h = refl
flipped-flipped (x ∷ xs) (y ∷ ys) (b ∷ bits) h =
    ap (λ c. c ∷ flipped xs (flipped ys bits)) (flip_twice x y b)
    ∙ ap (λ l. (if (if x then not y else y) then not b else b) ∷ l) (flipped-flipped xs ys bits (omega arith))

-- ---- registers
xor_test : (x y : ℕ) → x < 2 → y < 2 → ((x + y) % 2 == 1) ≡ (if x == 1 then not (y == 1) else (y == 1))
xor_test zero zero h g = refl
xor_test zero (suc zero) h g = refl
xor_test (suc zero) zero h g = refl
xor_test (suc zero) (suc zero) h g = refl
xor_test (suc (suc x)) y h g = absurd (omega arith)
xor_test x (suc (suc y)) h g = absurd (omega arith)

bit-xor : (a c i : ℕ) → bit (bit_xor a c) i ≡ (if bit a i then not (bit c i) else bit c i)
bit-xor a c i = ap (λ x. x == 1) (bit_at_xor a c i) ∙ xor_test (bit_at a i) (bit_at c i) (bit_at-lt a i) (bit_at-lt c i)

-- `^` flips the register's bits
flipped-registers : (n a c : ℕ) → flipped (reverse (bits_of n a)) (reverse (bits_of n c)) ≡ reverse (bits_of n (bit_xor a c))
unfolding bits_of flipped
flipped-registers zero a c = refl
flipped-registers (suc n) a c =
    ap (λ m. flipped m (reverse (bits_of (suc n) c))) (reverse-bits_of n a)
    ∙ ap (λ l. flipped (bit a 0 ∷ reverse (bits_of n (a / 2))) l) (reverse-bits_of n c)
    ∙ ap (λ b. b ∷ flipped (reverse (bits_of n (a / 2))) (reverse (bits_of n (c / 2)))) (sym (bit-xor a c 0))
    ∙ ap (λ l. bit (bit_xor a c) 0 ∷ l) (flipped-registers n (a / 2) (c / 2) ∙ ap (λ v. reverse (bits_of n v)) (sym (xor_shr a c 1)))
    ∙ sym (reverse-bits_of n (bit_xor a c))

length-register : (n v : ℕ) → length (reverse (bits_of n v)) ≡ n
length-register n v = length-reverse (bits_of n v) ∙ length-bits_of n v

registers_flip : (a c : ℕ) (bits : List Bool) → flipped (register_bits a) (flipped (register_bits c) bits) ≡ flipped (register_bits (bit_xor a c)) bits
registers_flip a c bits =
    flipped-flipped (register_bits a) (register_bits c) bits (length-register 32 a ∙ sym (length-register 32 c))
    ∙ ap (λ m. flipped m bits) (flipped-registers 32 a c)

-- ---- one bit of division
shifted : (register : ℕ) (bits : List Bool) → register < 2 ^ 32 → flipped (register_bits register) (false ∷ bits) ≡ bit register 0 ∷ flipped (register_bits (register / 2)) bits
unfolding bits_of flipped
shifted register bits h =
    let clear : bit (register / 2) 31 ≡ false = ap (λ x. x == 1) (bit_at_above (register / 2) 31 31 (omega arith) (omega arith)) in
    let top : register_bits (register / 2) ≡ reverse (bits_of 31 (register / 2)) ++ (false ∷ []) =
    reverse-append (bit (register / 2) 31 ∷ []) (bits_of 31 (register / 2)) ∙ ap (λ b. reverse (bits_of 31 (register / 2)) ++ (b ∷ [])) clear in
    ap (λ m. flipped m (false ∷ bits)) (reverse-bits_of 31 register)
    ∙ ap (λ b. b ∷ flipped (reverse (bits_of 31 (register / 2))) bits) (clear_flip (bit register 0))
    ∙ ap (λ l. bit register 0 ∷ l) (sym (flipped-clear_behind 1 (reverse (bits_of 31 (register / 2))) bits) ∙ ap (λ m. flipped m bits) (sym top))
  where
    clear_flip : (b : Bool) → (if b then not false else false) ≡ b
    clear_flip true = refl
    clear_flip false = refl

coefficients : polynomial ≡ register_bits 0xEDB88320
unfolding polynomial bits_of
coefficients = refl

pub turned-set : (register : ℕ) (bits : List Bool) → register < 2 ^ 32 → bit register 0 ≡ true → turned (flipped (register_bits register) (false ∷ bits)) ≡ flipped (register_bits (bit_xor (register / 2) 0xEDB88320)) bits
unfolding turned
turned-set register bits h odd =
    ap turned (shifted register bits h ∙ ap (λ b. b ∷ flipped (register_bits (register / 2)) bits) odd)
    ∙ ap (λ m. flipped m (flipped (register_bits (register / 2)) bits)) coefficients
    ∙ registers_flip 0xEDB88320 (register / 2) bits
    ∙ ap (λ v. flipped (register_bits v) bits) (xor_comm 0xEDB88320 (register / 2))

pub turned-clear : (register : ℕ) (bits : List Bool) → register < 2 ^ 32 → bit register 0 ≡ false → turned (flipped (register_bits register) (false ∷ bits)) ≡ flipped (register_bits (register / 2)) bits
unfolding turned
turned-clear register bits h even = ap turned (shifted register bits h ∙ ap (λ b. b ∷ flipped (register_bits (register / 2)) bits) even)

-- ---- one byte of division
pub remainder-add : (n j k : ℕ) (bits : List Bool) → n ≡ j + k → remainder n bits ≡ remainder k (remainder j bits)
unfolding remainder
remainder-add n zero k bits e = let same : n ≡ k = omega arith in ap (λ m. remainder m bits) same
remainder-add zero (suc j) k bits e = absurd (omega arith)
remainder-add (suc n) (suc j) k bits e = remainder-add n j k (turned bits) (omega arith)

-- a register takes a byte's bits in
taken_in : (register b : ℕ) (bits : List Bool) → b < 256 → flipped (register_bits register) (reverse (bits_of 8 b) ++ bits) ≡ flipped (register_bits (bit_xor register b)) (replicate 8 false ++ bits)
unfolding bits_of
taken_in register b bits h =
    let spread : bits_of 32 b ≡ replicate 24 false ++ bits_of 8 b = ap (λ v. bits_of 32 v) (let e : b ≡ 0 * 2 ^ 8 + b = omega arith in e) ∙ bits_of-cat 32 24 8 0 b refl h in
    let wide : register_bits b ≡ reverse (bits_of 8 b) ++ replicate 24 false = ap reverse spread ∙ reverse-append (replicate 24 false) (bits_of 8 b) in
    ap (λ l. flipped (register_bits register) l) (
    sym (flipped-onto_clear (reverse (bits_of 8 b)) bits)
    ∙ ap (λ k. flipped (reverse (bits_of 8 b)) (replicate k false ++ bits)) (length-register 8 b)
    ∙ sym (flipped-clear_behind 24 (reverse (bits_of 8 b)) (replicate 8 false ++ bits))
    ∙ ap (λ m. flipped m (replicate 8 false ++ bits)) (sym wide)
    )
    ∙ registers_flip register b (replicate 8 false ++ bits)

-- what is left once a register has met the bytes before
abbrev pub left : ℕ → List ℕ → List Bool
left register bytes = remainder (8 * length bytes) (flipped (register_bits register) (dividend bytes))

dividend-cons : (b : ℕ) (bytes : List ℕ) → dividend (b ∷ bytes) ≡ reverse (bits_of 8 b) ++ dividend bytes
unfolding dividend sent
dividend-cons b bytes = append_assoc (reverse (bits_of 8 b)) (sent bytes) (replicate 32 false)

pub left-cons : (register b next : ℕ) (bytes : List ℕ) → b < 256
    → ((bits : List Bool) → remainder 8 (flipped (register_bits (bit_xor register b)) (replicate 8 false ++ bits)) ≡ flipped (register_bits next) bits)
    → left register (b ∷ bytes) ≡ left next bytes
left-cons register b next bytes h divided =
    remainder-add (8 * suc (length bytes)) 8 (8 * length bytes) (flipped (register_bits register) (dividend (b ∷ bytes))) (omega arith)
    ∙ ap (λ l. remainder (8 * length bytes) (remainder 8 l)) (ap (λ l. flipped (register_bits register) l) (dividend-cons b bytes) ∙ taken_in register b (dividend bytes) h)
    ∙ ap (λ l. remainder (8 * length bytes) l) (divided (dividend bytes))

-- ---- the whole
all_set : register_bits 0xFFFFFFFF ≡ ones
unfolding bits_of ones
all_set = refl

left-start : (bytes : List ℕ) → left 0xFFFFFFFF bytes ≡ remainder (8 * length bytes) (flipped ones (dividend bytes))
left-start bytes = ap (λ m. remainder (8 * length bytes) (flipped m (dividend bytes))) all_set

left-end : (register : ℕ) → left register [] ≡ register_bits register
unfolding remainder dividend sent
left-end register =
    ap (λ k. flipped (register_bits register) (replicate k false)) (sym (length-register 32 register))
    ∙ ap (λ l. flipped (register_bits register) l) (sym (append-nil (replicate (length (register_bits register)) false)))
    ∙ flipped-onto_clear (register_bits register) [] ∙ append-nil (register_bits register)

pub checksum_from_left : (register : ℕ) (bytes : List ℕ) → left register [] ≡ left 0xFFFFFFFF bytes → bits_of 32 (bit_xor register 0xFFFFFFFF) ≡ checksum bytes
unfolding checksum
checksum_from_left register bytes e =
    sym (reverse-reverse (bits_of 32 (bit_xor register 0xFFFFFFFF)))
    ∙ ap (λ v. reverse (register_bits v)) (xor_comm register 0xFFFFFFFF)
    ∙ ap reverse (sym (flipped-registers 32 0xFFFFFFFF register))
    ∙ ap (λ l. reverse (flipped (register_bits 0xFFFFFFFF) l)) (sym (left-end register) ∙ e ∙ left-start bytes)
    ∙ ap (λ m. reverse (flipped m (remainder (8 * length bytes) (flipped ones (dividend bytes))))) all_set

-- ---- its length
length-flipped : (mask bits : List Bool) → length (flipped mask bits) ≡ length bits
unfolding flipped
length-flipped [] bits = refl
length-flipped (set ∷ mask) [] = refl
length-flipped (set ∷ mask) (b ∷ bits) = ap suc (length-flipped mask bits)

length-turned : (bits : List Bool) → length (turned bits) ≡ length bits - 1
unfolding turned
length-turned [] = omega arith
length-turned (true ∷ bits) = omega (arith, length-flipped polynomial bits)
length-turned (false ∷ bits) = omega arith

length-remainder : (turns : ℕ) (bits : List Bool) → length (remainder turns bits) ≡ length bits - turns
unfolding remainder
length-remainder zero bits = omega arith
length-remainder (suc turns) bits = omega (arith, length-turned bits, length-remainder turns (turned bits))

length-dividend : (bytes : List ℕ) → length (dividend bytes) ≡ 8 * length bytes + 32
unfolding dividend sent
length-dividend [] = refl
length-dividend (b ∷ bytes) = omega (arith, ap length (dividend-cons b bytes), length-append (reverse (bits_of 8 b)) (dividend bytes), length-register 8 b, length-dividend bytes)

pub length-checksum : (bytes : List ℕ) → length (checksum bytes) ≡ 32
unfolding checksum
length-checksum bytes =
    let started = flipped ones (dividend bytes) in let left = remainder (8 * length bytes) started in
    omega (arith, length-reverse (flipped ones left), length-flipped ones left, length-remainder (8 * length bytes) started, length-flipped ones (dividend bytes), length-dividend bytes)
