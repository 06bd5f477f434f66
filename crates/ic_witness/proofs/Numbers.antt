-- The numbers in heads are read exactly, and the heads.
use Rattle.std.proofs.Common.{◌≡◌, ℕ, zero, suc, ◌+◌, ◌-◌, ◌^◌, ◌%◌, ◌<◌, ◌≤◌, Bool, true, false, List, [], ◌∷◌, ◌++◌, length, get_or, Some, None, refl, sym, ap, subst, ◌∙◌, append_assoc, arith, if◌then◌else◌}
use Rattle.std.specs.Prelude.{nat_lt, nat_le, ◌==◌}
use Rattle.std.specs.Int.{Width, w8, w16, w32, w64, byte_len, byte_at as byte_of, bytes_high_first, from_be_bytes, to_be_bytes}
use Rattle.std.proofs.lemmas.Bool.{and_parts, eqb-true, leb-true, le-leb, lt-ltb, le-ltb, ltb-true, ltb-false}
use Rattle.std.proofs.lemmas.Nat.{be_bytes_2, be_bytes_4, be_bytes_8, from_be_bytes-to_be_bytes_2, from_be_bytes-to_be_bytes_4, from_be_bytes-to_be_bytes_8}
use Rattle.ic_base.specs.Reader.{Reader, byte_at, bytes_at, filter_at}
use Rattle.ic_base.specs.Spelling.{Spelling}
use Rattle.ic_base.specs.Exact.{Exact}
use Rattle.ic_base.proofs.Steps.{bind_some, some_is}
use Rattle.ic_base.proofs.Exact.{Takes, byte_exact, bytes_exact, exact_of, filter_exact, map_exact, reworded, taken}
use Rattle.ic_witness.specs.Cbor.{head, string}
use Rattle.ic_witness.specs.ReadCbor.{are_bytes, length_after, length_at, long_at, number_at, string_at, then_at}

-- ---- one part and then another

pub record SpellsThen {A B : Type 0} (P : Spelling A) (Q : A → Spelling B) (y : B) (bytes : List ℕ) : Type 0 where
  pub value : A
  pub front : List ℕ
  pub rest : List ℕ
  pub whole : bytes ≡ front ++ rest
  pub first : P value front
  pub second : Q value y rest

pub then_exact : {A B : Type 0} (P : Spelling A) (Q : A → Spelling B) (read : Reader A) (next : A → Reader B)
    → Exact P read → ((x : A) → Exact (Q x) (next x)) → Exact (SpellsThen P Q) (then_at read next)
then_exact {A} {B} P Q read next first second = exact_of (SpellsThen P Q) (then_at read next)
    (λ y front rest p. rw (p.whole, append_assoc p.front p.rest rest, first.again p.value p.front (p.rest ++ rest) p.first) ((second p.value).again y p.rest rest p.second))
    (λ bytes z e.
    let a = bind_some (read bytes) (λ x. next x.0 x.1) z e in
    let s = taken P read first bytes a.0 a.1 in
    let t = taken (Q a.0.0) (next a.0.0) (second a.0.0) a.0.1 z a.2 in
    record {
      front = s.front ++ t.front;
      parts = s.parts ∙ ap (λ (r : List ℕ). s.front ++ r) t.parts ∙ sym (append_assoc s.front t.front z.1);
      spelled = record { value = a.0.0; front = s.front; rest = t.front; whole = refl; first = s.spelled; second = t.spelled };
    })

-- ---- numbers of fixed width

below_each : (bytes : List ℕ) → are_bytes bytes ≡ true → (i : ℕ) → get_or bytes i 0 < 256
below_each [] all i = omega arith
below_each (b ∷ bytes) all zero = ltb-true b 256 (and_parts (nat_lt b 256) (are_bytes bytes) all).0
below_each (b ∷ bytes) all (suc i) = below_each bytes (and_parts (nat_lt b 256) (are_bytes bytes) all).1 i

one_byte : (i n : ℕ) → byte_of i n < 256
one_byte zero n = omega arith
one_byte (suc i) n = omega arith

high_bytes : (k n : ℕ) → are_bytes (bytes_high_first k n) ≡ true
high_bytes zero n = refl
high_bytes (suc k) n = rw (lt-ltb (byte_of k n) 256 (one_byte k n), high_bytes k n) refl

length_high : (k n : ℕ) → length (bytes_high_first k n) ≡ k
length_high zero n = refl
length_high (suc k) n = ap suc (length_high k n)

-- what reading a number of this width and writing it have in common
pub record IsFixed (width : Width) : Type 0 where
  pub back : (bytes : List ℕ) → length bytes ≡ byte_len width → ((i : ℕ) → get_or bytes i 0 < 256) → to_be_bytes width (from_be_bytes width bytes) ≡ bytes
  pub again : (n : ℕ) → n < 256 ^ byte_len width → from_be_bytes width (to_be_bytes width n) ≡ n
  pub below : (bytes : List ℕ) → ((i : ℕ) → get_or bytes i 0 < 256) → from_be_bytes width bytes < 256 ^ byte_len width

one_back : (bytes : List ℕ) → length bytes ≡ 1 → ((i : ℕ) → get_or bytes i 0 < 256) → to_be_bytes w8 (from_be_bytes w8 bytes) ≡ bytes
one_back [] e fits = absurd (omega arith)
one_back (b ∷ []) e fits = let low : b % 256 ≡ b = omega (arith, fits 0) in ap (λ (n : ℕ). n ∷ []) low
one_back (b ∷ c ∷ bytes) e fits = absurd (omega arith)

fixed8 : IsFixed w8
fixed8 = record { back = one_back; again = λ n lt. omega arith; below = λ bytes fits. omega (arith, fits 0) }

fixed16 : IsFixed w16
fixed16 = record { back = λ bytes len fits. be_bytes_2 bytes _ len fits refl; again = λ n lt. from_be_bytes-to_be_bytes_2 n lt; below = λ bytes fits. omega (arith, fits 0, fits 1) }

fixed32 : IsFixed w32
fixed32 = record { back = λ bytes len fits. be_bytes_4 bytes _ len fits refl; again = λ n lt. from_be_bytes-to_be_bytes_4 n lt; below = λ bytes fits. omega (arith, fits 0, fits 1, fits 2, fits 3) }

fixed64 : IsFixed w64
fixed64 = record { back = λ bytes len fits. be_bytes_8 bytes _ len fits refl; again = λ n lt. from_be_bytes-to_be_bytes_8 n lt; below = λ bytes fits. omega (arith, fits 0, fits 1, fits 2, fits 3, fits 4, fits 5, fits 6, fits 7) }

-- a number of this width, and not below the least
abbrev Long : Width → ℕ → Spelling ℕ
Long width least n bytes = (least ≤ n) × (n < 256 ^ byte_len width) × (bytes ≡ to_be_bytes width n)

long_exact : (width : Width) → IsFixed width → (least : ℕ) → Exact (Long width least) (long_at width least)
unfolding number_at
long_exact width fixed least =
    reworded
    (λ n bs. (nat_le least n ≡ true) × ((x : List ℕ) × (from_be_bytes width x ≡ n) × ((are_bytes x ≡ true) × ((length x ≡ byte_len width) × (bs ≡ x)))))
    (Long width least)
    (long_at width least)
    (λ n bs q. (le-leb least n q.0, (to_be_bytes width n, fixed.again n q.1, (high_bytes (byte_len width) n, (length_high (byte_len width) n, q.2)))))
    (λ n bs p.
    let fits = below_each p.1.0 p.1.2.0 in
    (leb-true least n p.0, subst (λ (m : ℕ). m < 256 ^ byte_len width) p.1.1 (fixed.below p.1.0 fits), p.1.2.1.1 ∙ sym (fixed.back p.1.0 p.1.2.1.0 fits) ∙ ap (to_be_bytes width) p.1.1))
    (filter_exact (λ n bs. (x : List ℕ) × (from_be_bytes width x ≡ n) × ((are_bytes x ≡ true) × ((length x ≡ byte_len width) × (bs ≡ x)))) (number_at width) (nat_le least)
    (map_exact (λ x bs. (are_bytes x ≡ true) × ((length x ≡ byte_len width) × (bs ≡ x))) (filter_at are_bytes (bytes_at (byte_len width))) (from_be_bytes width)
    (filter_exact (λ x bs. (length x ≡ byte_len width) × (bs ≡ x)) (bytes_at (byte_len width)) are_bytes (bytes_exact (byte_len width)))))

-- ---- heads

-- the head of the length is this byte and these
abbrev After : ℕ → Spelling ℕ
After first n bytes = (n < 2 ^ 64) × (head n ≡ first ∷ bytes)

after_again : (first n : ℕ) (bytes rest : List ℕ) → n < 2 ^ 64 → head n ≡ first ∷ bytes → length_after first (bytes ++ rest) ≡ Some (n, rest)
unfolding length_after
after_again first n bytes rest lt e = go (nat_lt n 24) refl (nat_lt n (2 ^ 8)) refl (nat_lt n (2 ^ 16)) refl (nat_lt n (2 ^ 32)) refl
    (subst (λ (x : List ℕ). x ≡ first ∷ bytes) refl e)
  where
    go : (a : Bool) → nat_lt n 24 ≡ a → (b : Bool) → nat_lt n (2 ^ 8) ≡ b → (c : Bool) → nat_lt n (2 ^ 16) ≡ c → (d : Bool) → nat_lt n (2 ^ 32) ≡ d
        → (if a then (64 + n) ∷ [] else (if b then 88 ∷ to_be_bytes w8 n else (if c then 89 ∷ to_be_bytes w16 n else (if d then 90 ∷ to_be_bytes w32 n else 91 ∷ to_be_bytes w64 n)))) ≡ first ∷ bytes
        → length_after first (bytes ++ rest) ≡ Some (n, rest)
    go true a b is c it d at f =
        let m : first ≡ 64 + n = cc in
        let none : bytes ≡ [] = cc in
        let low = ltb-true n 24 a in
        let back : first - 64 ≡ n = omega arith in
        rw (none, le-ltb first 64 (omega arith), lt-ltb first 88 (omega arith), back) refl
    go false a true is c it d at f =
        let m : first ≡ 88 = cc in
        let more : bytes ≡ to_be_bytes w8 n = cc in
        rw m ((long_exact w8 fixed8 24).again n bytes rest (ltb-false n 24 a, ltb-true n 256 is, more))
    go false a false is true it d at f =
        let m : first ≡ 89 = cc in
        let more : bytes ≡ to_be_bytes w16 n = cc in
        rw m ((long_exact w16 fixed16 256).again n bytes rest (ltb-false n 256 is, ltb-true n 65536 it, more))
    go false a false is false it true at f =
        let m : first ≡ 90 = cc in
        let more : bytes ≡ to_be_bytes w32 n = cc in
        rw m ((long_exact w32 fixed32 65536).again n bytes rest (ltb-false n 65536 it, ltb-true n 4294967296 at, more))
    go false a false is false it false at f =
        let m : first ≡ 91 = cc in
        let more : bytes ≡ to_be_bytes w64 n = cc in
        rw m ((long_exact w64 fixed64 4294967296).again n bytes rest (ltb-false n 4294967296 at, lt, more))

-- a long number is a length whose head begins with this byte
as_length : (width : Width) (fixed : IsFixed width) (least first : ℕ) → ((n : ℕ) (bytes : List ℕ) → Long width least n bytes → After first n bytes)
    → (bytes : List ℕ) (z : ℕ × List ℕ) → long_at width least bytes ≡ Some z → Takes (After first) bytes z
as_length width fixed least first says bytes z e =
    let t = taken (Long width least) (long_at width least) (long_exact width fixed least) bytes z e in
    record { front = t.front; parts = t.parts; spelled = says z.0 t.front t.spelled }

after_takes : (first : ℕ) (bytes : List ℕ) (z : ℕ × List ℕ) → length_after first bytes ≡ Some z → Takes (After first) bytes z
unfolding length_after
after_takes first bytes z e = go (nat_lt first 64) refl (nat_lt first 88) refl (first == 88) refl (first == 89) refl (first == 90) refl (first == 91) refl e
  where
    small : 64 ≤ first → first < 88 → (first - 64, bytes) ≡ z → Takes (After first) bytes z
    small low high same =
        let back : 64 + (first - 64) ≡ first = omega arith in
        let short : head (first - 64) ≡ first ∷ [] = rw (lt-ltb (first - 64) 24 (omega arith), back) refl in
        let little : first - 64 < 2 ^ 64 = omega arith in
        subst (Takes (After first) bytes) same (record { front = []; parts = refl; spelled = (little, short) })

    go : (a : Bool) → nat_lt first 64 ≡ a → (b : Bool) → nat_lt first 88 ≡ b → (c : Bool) → (first == 88) ≡ c → (d : Bool) → (first == 89) ≡ d → (g : Bool) → (first == 90) ≡ g → (h : Bool) → (first == 91) ≡ h
        → (if a then None else (if b then Some (first - 64, bytes) else (if c then long_at w8 24 bytes else (if d then long_at w16 256 bytes else (if g then long_at w32 65536 bytes else (if h then long_at w64 4294967296 bytes else None)))))) ≡ Some z
        → Takes (After first) bytes z
    go true p b q c r d s g t h u f = absurd cc
    go false p true q c r d s g t h u f = small (ltb-false first 64 p) (ltb-true first 88 q) (some_is {A = ℕ × List ℕ} (first - 64, bytes) z f)
    go false p false q true r d s g t h u f =
        let m : first ≡ 88 = eqb-true first 88 r in
        as_length w8 fixed8 24 first (λ n bs l. (omega arith, rw (le-ltb n 24 l.0, lt-ltb n 256 l.1, l.2, m) refl)) bytes z f
    go false p false q false r true s g t h u f =
        let m : first ≡ 89 = eqb-true first 89 s in
        as_length w16 fixed16 256 first (λ n bs l. (omega arith, rw (le-ltb n 24 (omega arith), le-ltb n 256 l.0, lt-ltb n 65536 l.1, l.2, m) refl)) bytes z f
    go false p false q false r false s true t h u f =
        let m : first ≡ 90 = eqb-true first 90 t in
        as_length w32 fixed32 65536 first (λ n bs l. (omega arith, rw (le-ltb n 24 (omega arith), le-ltb n 256 (omega arith), le-ltb n 65536 l.0, lt-ltb n 4294967296 l.1, l.2, m) refl)) bytes z f
    go false p false q false r false s false t true u f =
        let m : first ≡ 91 = eqb-true first 91 u in
        as_length w64 fixed64 4294967296 first (λ n bs l. (l.1, rw (le-ltb n 24 (omega arith), le-ltb n 256 (omega arith), le-ltb n 65536 (omega arith), le-ltb n 4294967296 l.0, l.2, m) refl)) bytes z f
    go false p false q false r false s false t false u f = absurd cc

after_exact : (first : ℕ) → Exact (After first) (length_after first)
after_exact first = exact_of (After first) (length_after first) (λ n bytes rest p. after_again first n bytes rest p.0 p.1) (after_takes first)

head_begins : (n : ℕ) → (first : ℕ) × (rest : List ℕ) × (head n ≡ first ∷ rest)
head_begins n = go (nat_lt n 24) (nat_lt n (2 ^ 8)) (nat_lt n (2 ^ 16)) (nat_lt n (2 ^ 32))
  where
    go : (a b c d : Bool) → (first : ℕ) × (rest : List ℕ)
        × ((if a then (64 + n) ∷ [] else (if b then 88 ∷ to_be_bytes w8 n else (if c then 89 ∷ to_be_bytes w16 n else (if d then 90 ∷ to_be_bytes w32 n else 91 ∷ to_be_bytes w64 n)))) ≡ first ∷ rest)
    go true b c d = (64 + n, [], refl)
    go false true c d = (88, to_be_bytes w8 n, refl)
    go false false true d = (89, to_be_bytes w16 n, refl)
    go false false false true = (90, to_be_bytes w32 n, refl)
    go false false false false = (91, to_be_bytes w64 n, refl)

length_exact : Exact (λ n bytes. (n < 2 ^ 64) × (bytes ≡ head n)) length_at
unfolding length_at
length_exact =
    reworded (SpellsThen (λ b bytes. bytes ≡ b ∷ []) After) (λ n bytes. (n < 2 ^ 64) × (bytes ≡ head n)) (then_at byte_at length_after)
    (λ n bytes q. let h = head_begins n in record { value = h.0; front = h.0 ∷ []; rest = h.1; whole = q.1 ∙ h.2; first = refl; second = (q.0, h.2) })
    (λ n bytes p. (p.second.0, p.whole ∙ ap (λ (r : List ℕ). r ++ p.rest) p.first ∙ sym p.second.1))
    (then_exact (λ b bytes. bytes ≡ b ∷ []) After byte_at length_after byte_exact after_exact)

-- ---- byte strings

-- a byte string, counted by its head
abbrev pub IsString : Spelling (List ℕ)
IsString s bytes = (length s < 2 ^ 64) × (bytes ≡ string s)

pub string_exact : Exact IsString string_at
unfolding string_at
string_exact =
    reworded (SpellsThen (λ n bytes. (n < 2 ^ 64) × (bytes ≡ head n)) (λ n s bytes. (length s ≡ n) × (bytes ≡ s))) IsString (then_at length_at bytes_at)
    (λ s bytes q. record { value = length s; front = head (length s); rest = s; whole = q.1; first = (q.0, refl); second = (refl, refl) })
    (λ s bytes p. (subst (λ (n : ℕ). n < 2 ^ 64) (sym p.second.0) p.first.0, rw (p.whole, p.first.1, p.second.1, p.second.0) refl))
    (then_exact (λ n bytes. (n < 2 ^ 64) × (bytes ≡ head n)) (λ n s bytes. (length s ≡ n) × (bytes ≡ s)) length_at bytes_at length_exact bytes_exact)
