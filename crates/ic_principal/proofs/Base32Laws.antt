-- Five bits a value: writing and reading back.
use Rattle.std.proofs.Common.{◌≡◌, ℕ, suc, zero, ◌+◌, ◌-◌, ◌*◌, ◌<◌, ◌≤◌, Bool, true, false, List, [], ◌∷◌, ◌++◌, length, replicate, drop, refl, sym, ap, ◌∙◌, arith, length-append, append_assoc, append-nil, Some, None, Option}
use Rattle.std.specs.Prelude.{◌==◌, ◌&&◌, unwrap_or, nat_lt}
use Rattle.std.proofs.lemmas.List.{length-replicate, nil_from_length}
use Rattle.std.proofs.lemmas.Bool.Decides.{Decides-below_and, Decides-eqb, Decides-ltb}
use Rattle.std.specs.List.{AllByRecursion, flat_map, position}
use Rattle.ic_principal.specs.Bits.{bits_of, bits, number}
use Rattle.ic_principal.specs.Base32.{alphabet, character, fives, eights}
use Rattle.ic_principal.proofs.BitLaws.{length-bits_of, number-bits_of, number-lt, bits_of-number}

pub length-spelled : (values : List ℕ) → length (flat_map (bits_of 5) values) ≡ 5 * length values
length-spelled [] = refl
length-spelled (v ∷ vs) = omega (arith, length-append (bits_of 5 v) (flat_map (bits_of 5) vs), length-bits_of 5 v, length-spelled vs)

-- a value is cut off where its bits are in front
fives-bits_of : (v : ℕ) (more : List Bool) → v < 32 → fives (bits_of 5 v ++ more) ≡ v ∷ fives more
unfolding fives bits_of
fives-bits_of v more h = ap (λ x. x ∷ fives more) (number-bits_of 5 v h)

pub fives-spelled : (values : List ℕ) (more : List Bool) → AllByRecursion (λ v. v < 32) values → fives (flat_map (bits_of 5) values ++ more) ≡ values ++ fives more
fives-spelled [] more h = refl
fives-spelled (v ∷ vs) more h =
    ap fives (append_assoc (bits_of 5 v) (flat_map (bits_of 5) vs) more) ∙ fives-bits_of v (flat_map (bits_of 5) vs ++ more) h.0
    ∙ ap (λ l. v ∷ l) (fives-spelled vs more h.1)

-- the last value, filled up
pub fives-short : (bits : List Bool) → 0 < length bits → length bits < 5 → fives bits ≡ number (bits ++ bits_of (5 - length bits) 0) ∷ []
unfolding fives bits_of
fives-short [] h g = absurd (omega arith)
fives-short (a ∷ []) h g = refl
fives-short (a ∷ b ∷ []) h g = refl
fives-short (a ∷ b ∷ c ∷ []) h g = refl
fives-short (a ∷ b ∷ c ∷ d ∷ []) h g = refl
fives-short (a ∷ b ∷ c ∷ d ∷ e ∷ bits) h g = absurd (omega arith)

pub fives-nil : fives [] ≡ []
unfolding fives
fives-nil = refl

-- the bits of the values are the bits, with fewer than five zeros after them
pub record Filled (bits : List Bool) : Type 0 where
  pub zeros : ℕ
  pub few : zeros < 5
  pub spelled : flat_map (bits_of 5) (fives bits) ≡ bits ++ replicate zeros false

five : (bs : List Bool) → length bs ≡ 5 → bits_of 5 (number bs) ≡ bs
five bs h = ap (λ n. bits_of n (number bs)) (sym h) ∙ bits_of-number bs

pub filled : (bits : List Bool) → Filled bits
unfolding fives
filled [] = record { zeros = 0; few = omega arith; spelled = refl }
filled (a ∷ []) = record { zeros = 4; few = omega arith; spelled = append-nil _ ∙ five (a ∷ false ∷ false ∷ false ∷ false ∷ []) refl }
filled (a ∷ b ∷ []) = record { zeros = 3; few = omega arith; spelled = append-nil _ ∙ five (a ∷ b ∷ false ∷ false ∷ false ∷ []) refl }
filled (a ∷ b ∷ c ∷ []) = record { zeros = 2; few = omega arith; spelled = append-nil _ ∙ five (a ∷ b ∷ c ∷ false ∷ false ∷ []) refl }
filled (a ∷ b ∷ c ∷ d ∷ []) = record { zeros = 1; few = omega arith; spelled = append-nil _ ∙ five (a ∷ b ∷ c ∷ d ∷ false ∷ []) refl }
filled (a ∷ b ∷ c ∷ d ∷ e ∷ bits) =
    let rest : Filled bits = filled bits in
    record {
      zeros = rest.zeros;
      few = rest.few;
      spelled = ap (λ l. l ++ flat_map (bits_of 5) (fives bits)) (five (a ∷ b ∷ c ∷ d ∷ e ∷ []) refl) ∙ ap (λ l. a ∷ b ∷ c ∷ d ∷ e ∷ l) rest.spelled;
    }

-- values are below 32
pub fives-below : (bits : List Bool) → AllByRecursion (λ v. v < 32) (fives bits)
unfolding fives
fives-below [] = tt
fives-below (a ∷ []) = (number-lt (a ∷ false ∷ false ∷ false ∷ false ∷ []), tt)
fives-below (a ∷ b ∷ []) = (number-lt (a ∷ b ∷ false ∷ false ∷ false ∷ []), tt)
fives-below (a ∷ b ∷ c ∷ []) = (number-lt (a ∷ b ∷ c ∷ false ∷ false ∷ []), tt)
fives-below (a ∷ b ∷ c ∷ d ∷ []) = (number-lt (a ∷ b ∷ c ∷ d ∷ false ∷ []), tt)
fives-below (a ∷ b ∷ c ∷ d ∷ e ∷ bits) = (number-lt (a ∷ b ∷ c ∷ d ∷ e ∷ []), fives-below bits)

pub length-fives : (bs : List Bool) → (5 * length (fives bs) ≤ length bs + 4) × (length bs ≤ 5 * length (fives bs))
length-fives bs =
    let whole : Filled bs = filled bs in
    let same = ap length whole.spelled in let facts = length-append bs (replicate whole.zeros false) in
    let zeros = length-replicate {A = Bool} whole.zeros false in let values = length-spelled (fives bs) in
    (omega (arith, whole.few, same, facts, zeros, values), omega (arith, whole.few, same, facts, zeros, values))

-- the value that filled bits make
pub last-value : (q rest : List Bool) (v : ℕ) → 0 < length q → length q < 5 → v < 32 → q ++ bits_of (5 - length q) 0 ≡ bits_of 5 v ++ rest → fives q ≡ v ∷ []
last-value q rest v h g small e =
    let ended : rest ≡ [] = nil_from_length rest (omega (arith, ap length e, length-append q (bits_of (5 - length q) 0), length-append (bits_of 5 v) rest, length-bits_of (5 - length q) 0, length-bits_of 5 v)) in
    fives-short q h g ∙ ap (λ bs. number bs ∷ []) (e ∙ ap (λ l. bits_of 5 v ++ l) ended ∙ append-nil (bits_of 5 v)) ∙ ap (λ x. x ∷ []) (number-bits_of 5 v small)

-- ---- bytes
eights-bits_of : (b : ℕ) (more : List Bool) → b < 256 → eights (bits_of 8 b ++ more) ≡ b ∷ eights more
unfolding eights bits_of
eights-bits_of b more h = ap (λ x. x ∷ eights more) (number-bits_of 8 b h)

eights-short : (bs : List Bool) → length bs < 8 → eights bs ≡ []
unfolding eights
eights-short (a ∷ b ∷ c ∷ d ∷ e ∷ f ∷ g ∷ h ∷ bs) few = absurd (omega arith)
eights-short bs few = refl

-- bytes are read from their bits, whatever few bits come after
pub eights-bits : (bytes : List ℕ) (more : List Bool) → AllByRecursion (λ b. b < 256) bytes → length more < 8 → eights (bits bytes ++ more) ≡ bytes
eights-bits [] more h few = eights-short more few
eights-bits (b ∷ bytes) more h few =
    ap eights (append_assoc (bits_of 8 b) (bits bytes) more) ∙ eights-bits_of b (bits bytes ++ more) h.0 ∙ ap (λ l. b ∷ l) (eights-bits bytes more h.1 few)

-- bytes in front are dropped as their bits
pub drop-eights : (k : ℕ) (xs ys : List Bool) → length xs ≡ 8 * k → drop k (eights (xs ++ ys)) ≡ eights ys
unfolding eights
drop-eights zero [] ys e = refl
drop-eights zero (x ∷ xs) ys e = absurd (omega arith)
drop-eights (suc k) (a ∷ b ∷ c ∷ d ∷ e ∷ f ∷ g ∷ h ∷ xs) ys n = drop-eights k xs ys (omega arith)
drop-eights (suc k) xs ys n = absurd (omega arith)

pub eights-below : (bs : List Bool) → AllByRecursion (λ b. b < 256) (eights bs)
unfolding eights
eights-below (a ∷ b ∷ c ∷ d ∷ e ∷ f ∷ g ∷ h ∷ bs) = (number-lt (a ∷ b ∷ c ∷ d ∷ e ∷ f ∷ g ∷ h ∷ []), eights-below bs)
eights-below bs = tt

-- ---- characters
-- whether each number below passes
unfoldable pub passes : (ℕ → Bool) → ℕ → Bool
passes p zero = true
passes p (suc n) = p n && passes p n

pub passes-below : (p : ℕ → Bool) (n : ℕ) → passes p n ≡ true → (k : ℕ) → k < n → p k ≡ true
unfolding passes
passes-below p n = (Decides-below_and p (λ k. p k ≡ true) (passes p) (λ k. ((λ h. h), (λ h. h))) refl (λ k. refl) n).0

-- a value is at the place of its character
pub position-character : (v : ℕ) → v < 32 → position (λ c. c == character v) alphabet ≡ Some v
unfolding alphabet passes
position-character v h = found (position (λ c. c == character v) alphabet) (passes-below (λ v. unwrap_or (position (λ c. c == character v) alphabet) 32 == v) 32 refl v h)
  where
    found : (place : Option ℕ) → (unwrap_or place 32 == v) ≡ true → place ≡ Some v
    found None e = absurd (omega (arith, (Decides-eqb 32 v).0 e))
    found (Some w) e = ap Some ((Decides-eqb w v).0 e)

-- each character is ASCII
pub character-lt : (v : ℕ) → v < 32 → character v < 128
unfolding alphabet passes
character-lt v h = (Decides-ltb (character v) 128).0 (passes-below (λ v. nat_lt (character v) 128) 32 refl v h)
