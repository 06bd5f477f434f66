-- Reading a text: what its letters spell, and when it is the text of a principal.
use Rattle.std.proofs.Common.{◌≡◌, ℕ, suc, zero, ◌+◌, ◌-◌, ◌*◌, ◌%◌, ◌<◌, ◌≤◌, Bool, false, List, [], ◌∷◌, ◌++◌, length, get_or, take, drop, map, replicate, refl, sym, ap, ◌∙◌, arith, length-append, append_assoc, append-nil, length-drop, length-take, take-append-drop, take_at, drop_at}
use Rattle.std.specs.Prelude.{Option, Some, None, IfSome, IfNone}
use Rattle.std.specs.List.{All, AllByRecursion, flat_map, filter_map}
use Rattle.std.specs.Int.{to_be_bytes, w32}
use Rattle.std.proofs.lemmas.List.{length-replicate, map-append, take_more}
use Rattle.std.proofs.lemmas.List.Elements.{recursion_from_All, All-from_recursion, All-take}
use Rattle.std.proofs.lemmas.Grind.{flat_map-append}
use Rattle.ic_principal.specs.Bits.{bits, bits_of}
use Rattle.ic_principal.specs.Base32.{character, fives, value_of, eights}
use Rattle.ic_principal.specs.Checksum.{checksum}
use Rattle.ic_principal.specs.IsPrincipal.{IsPrincipal}
use Rattle.ic_principal.specs.HasChecksum.{HasChecksum}
use Rattle.ic_principal.specs.Text.{dashed, text_of, bytes_read, principal_of}
use Rattle.ic_principal.proofs.BitLaws.{length-bits, bits-to_be_bytes}
use Rattle.ic_principal.proofs.ChecksumLaws.{length-checksum}
use Rattle.ic_principal.proofs.Base32Laws.{Filled, filled, fives-below, fives-nil, fives-spelled, length-spelled, eights-bits}
use Rattle.ic_principal.proofs.TextLaws.{values-dashed, after_dash-dashed, length-dashed-le, dashed-push, dashed-push_dash}
use Rattle.ic_principal.proofs.PrincipalLaws.{none_found, principal_of-tells, principal_of-none_other, principal_of-read, bytes_read-text_of}

-- ---- places of a text
-- a dash is at each sixth place, and something after it
pub dashed-dash : (xs : List ℕ) (k : ℕ) → k < length (dashed xs) → k % 6 ≡ 5 → (get_or (dashed xs) k 0 ≡ 45) × (k + 1 < length (dashed xs))
unfolding dashed
dashed-dash [] k h at = absurd (omega arith)
dashed-dash (a ∷ []) k h at = absurd (omega arith)
dashed-dash (a ∷ b ∷ []) k h at = absurd (omega arith)
dashed-dash (a ∷ b ∷ c ∷ []) k h at = absurd (omega arith)
dashed-dash (a ∷ b ∷ c ∷ d ∷ []) k h at = absurd (omega arith)
dashed-dash (a ∷ b ∷ c ∷ d ∷ e ∷ []) k h at = absurd (omega arith)
dashed-dash (a ∷ b ∷ c ∷ d ∷ e ∷ x ∷ xs) (suc (suc (suc (suc (suc zero))))) h at =
    let rest = after_dash-dashed x xs in
    (ap (λ l. get_or l 0 0) rest, omega (arith, ap length rest, length-dashed-le (x ∷ xs)))
dashed-dash (a ∷ b ∷ c ∷ d ∷ e ∷ x ∷ xs) (suc (suc (suc (suc (suc (suc k)))))) h at =
    let rest = after_dash-dashed x xs in
    let more = dashed-dash (x ∷ xs) k (omega (arith, ap length rest)) (omega arith) in
    (ap (λ l. get_or l (suc k) 0) rest ∙ more.0, omega (arith, ap length rest, more.1))
dashed-dash (a ∷ b ∷ c ∷ d ∷ e ∷ x ∷ xs) k h at = absurd (omega arith)

-- at every other place stands a character
pub dashed-letter : (xs : List ℕ) (k : ℕ) → k < length (dashed xs) → (k % 6 ≡ 5 → ⊥) → (j : ℕ) × (j < length xs) × (get_or (dashed xs) k 0 ≡ get_or xs j 0)
unfolding dashed
dashed-letter [] k h at = absurd (omega arith)
dashed-letter (a ∷ []) k h at = (k, h, refl)
dashed-letter (a ∷ b ∷ []) k h at = (k, h, refl)
dashed-letter (a ∷ b ∷ c ∷ []) k h at = (k, h, refl)
dashed-letter (a ∷ b ∷ c ∷ d ∷ []) k h at = (k, h, refl)
dashed-letter (a ∷ b ∷ c ∷ d ∷ e ∷ []) k h at = (k, h, refl)
dashed-letter (a ∷ b ∷ c ∷ d ∷ e ∷ x ∷ xs) zero h at = (0, omega arith, refl)
dashed-letter (a ∷ b ∷ c ∷ d ∷ e ∷ x ∷ xs) (suc zero) h at = (1, omega arith, refl)
dashed-letter (a ∷ b ∷ c ∷ d ∷ e ∷ x ∷ xs) (suc (suc zero)) h at = (2, omega arith, refl)
dashed-letter (a ∷ b ∷ c ∷ d ∷ e ∷ x ∷ xs) (suc (suc (suc zero))) h at = (3, omega arith, refl)
dashed-letter (a ∷ b ∷ c ∷ d ∷ e ∷ x ∷ xs) (suc (suc (suc (suc zero)))) h at = (4, omega arith, refl)
dashed-letter (a ∷ b ∷ c ∷ d ∷ e ∷ x ∷ xs) (suc (suc (suc (suc (suc zero))))) h at = absurd (at refl)
dashed-letter (a ∷ b ∷ c ∷ d ∷ e ∷ x ∷ xs) (suc (suc (suc (suc (suc (suc k)))))) h at =
    let rest = after_dash-dashed x xs in
    let more = dashed-letter (x ∷ xs) k (omega (arith, ap length rest)) (λ g. at (omega arith)) in
    (suc (suc (suc (suc (suc more.0)))), omega (arith, more.1), ap (λ l. get_or l (suc k) 0) rest ∙ more.2)

-- one letter more
pub front-letter : (text old : List ℕ) (place v : ℕ) → take place text ≡ dashed (map character old) → place < length text → (place % 6 ≡ 5 → ⊥)
    → character v ≡ get_or text place 0 → take (place + 1) text ≡ dashed (map character (old ++ v ∷ []))
front-letter text old place v front inside at is =
    let due : length (dashed (map character old)) % 6 ≡ 5 → ⊥ = λ g. at (omega (arith, ap length front, length-take place text)) in
    take_more text place 0 inside ∙ ap (λ l. l ++ get_or text place 0 ∷ []) front ∙ ap (λ c. dashed (map character old) ++ c ∷ []) (sym is)
    ∙ sym (dashed-push (map character old) (character v) due) ∙ ap dashed (sym (map-append character old (v ∷ [])))

-- a dash and one letter more
pub front-dash : (text old : List ℕ) (place v : ℕ) → take place text ≡ dashed (map character old) → place + 1 < length text → place % 6 ≡ 5
    → get_or text place 0 ≡ 45 → character v ≡ get_or text (place + 1) 0 → take (place + 1 + 1) text ≡ dashed (map character (old ++ v ∷ []))
front-dash text old place v front inside at dash is =
    let due : length (dashed (map character old)) % 6 ≡ 5 = omega (arith, ap length front, length-take place text) in
    take_more text (place + 1) 0 inside ∙ ap (λ l. l ++ get_or text (place + 1) 0 ∷ []) (take_more text place 0 (omega arith))
    ∙ ap (λ l. (l ++ get_or text place 0 ∷ []) ++ get_or text (place + 1) 0 ∷ []) front ∙ append_assoc (dashed (map character old)) (get_or text place 0 ∷ []) (get_or text (place + 1) 0 ∷ [])
    ∙ ap (λ c. dashed (map character old) ++ c ∷ get_or text (place + 1) 0 ∷ []) dash ∙ ap (λ c. dashed (map character old) ++ 45 ∷ c ∷ []) (sym is)
    ∙ sym (dashed-push_dash (map character old) (character v) due) ∙ ap dashed (sym (map-append character old (v ∷ [])))

-- ---- what is read back
values-read : (vs : List ℕ) → AllByRecursion (λ v. v < 32) vs → fives (flat_map (bits_of 5) vs) ≡ vs
values-read vs h =
    ap fives (sym (append-nil (flat_map (bits_of 5) vs))) ∙ fives-spelled vs [] h ∙ ap (λ l. vs ++ l) fives-nil ∙ append-nil vs

pub bytes-read : (bytes : List ℕ) → AllByRecursion (λ b. b < 256) bytes → eights (bits bytes) ≡ bytes
bytes-read bytes h = ap eights (sym (append-nil (bits bytes))) ∙ eights-bits bytes [] h (omega arith)

-- lists that are cut at one place are the same before and after it
same_front : (a b c d : List Bool) → a ++ b ≡ c ++ d → length a ≡ length c → a ≡ c
same_front a b c d e h = sym (take_at a b (length c) h) ∙ ap (take (length c)) e ∙ take_at c d (length c) refl

same_back : (a b c d : List Bool) → a ++ b ≡ c ++ d → length a ≡ length c → b ≡ d
same_back a b c d e h = sym (drop_at a b (length c) h) ∙ ap (drop (length c)) e ∙ drop_at c d (length c) refl

pub to_be_bytes-below : (v : ℕ) → AllByRecursion (λ b. b < 256) (to_be_bytes w32 v)
to_be_bytes-below v = (omega arith, (omega arith, (omega arith, (omega arith, tt))))

-- ---- the letters of a text, the bytes that they spell, and the bits that are left
module _ (text values bytes : List ℕ) (left : List Bool) (is : text ≡ dashed (map character values)) (small : AllByRecursion (λ v. v < 32) values)
    (whole : bits bytes ++ left ≡ flat_map (bits_of 5) values) (below : AllByRecursion (λ b. b < 256) bytes) (few : length left < 8) where
  spelled : List Bool
  spelled = checksum (drop 4 bytes) ++ bits (drop 4 bytes)

  pub bytes_read-is : bytes_read text ≡ drop 4 bytes
  unfolding bytes_read
  bytes_read-is =
      ap (λ t. drop 4 (eights (flat_map (bits_of 5) (filter_map value_of t)))) is
      ∙ ap (λ l. drop 4 (eights (flat_map (bits_of 5) l))) (values-dashed values small)
      ∙ ap (λ l. drop 4 (eights l)) (sym whole) ∙ ap (drop 4) (eights-bits bytes left below few)

  length-spelled_bits : length spelled ≡ 32 + 8 * (length bytes - 4)
  unfolding spelled
  length-spelled_bits =
      omega (arith, length-append (checksum (drop 4 bytes)) (bits (drop 4 bytes)), length-checksum (drop 4 bytes), length-bits (drop 4 bytes), length-drop 4 bytes)

  cut : bits bytes ≡ bits (take 4 bytes) ++ bits (drop 4 bytes)
  cut = ap bits (sym (take-append-drop 4 bytes)) ∙ flat_map-append (bits_of 8) (take 4 bytes) (drop 4 bytes)

  -- after their checksum the bytes are a principal's, whose text this is
  pub text-of_bytes : HasChecksum bytes → length left < 5 → left ≡ replicate (length left) false → text_of (drop 4 bytes) ≡ text
  unfolding text_of spelled
  text-of_bytes has short clear =
      let filling : Filled spelled = filled spelled in
      let back = bits (drop 4 bytes) in
      let all : spelled ++ left ≡ flat_map (bits_of 5) values = ap (λ l. (l ++ back) ++ left) (sym has.front) ∙ ap (λ l. l ++ left) (sym cut) ∙ whole in
      let zeros : filling.zeros ≡ length left =
      omega (
        arith,
        filling.few,
        ap length filling.spelled,
        length-append spelled (replicate filling.zeros false),
        length-replicate {A = Bool} filling.zeros false,
        length-spelled (fives spelled),
        ap length all,
        length-append spelled left,
        length-spelled values,
      ) in
      let same : flat_map (bits_of 5) (fives spelled) ≡ flat_map (bits_of 5) values =
      filling.spelled ∙ ap (λ k. spelled ++ replicate k false) zeros ∙ ap (λ l. spelled ++ l) (sym clear) ∙ all in
      ap (λ vs. dashed (map character vs)) (sym (values-read (fives spelled) (fives-below spelled)) ∙ ap fives same ∙ values-read values small) ∙ sym is

  -- and a principal's text spells no other bytes
  pub text-of_other : text_of (drop 4 bytes) ≡ text → HasChecksum bytes × (length left < 5) × (left ≡ replicate (length left) false)
  unfolding text_of spelled
  text-of_other own =
      let filling : Filled spelled = filled spelled in
      let zeros = replicate filling.zeros false in
      let same : fives spelled ≡ values =
      sym (values-dashed (fives spelled) (fives-below spelled)) ∙ ap (filter_map value_of) (own ∙ is) ∙ values-dashed values small in
      let all : bits bytes ++ left ≡ spelled ++ zeros = whole ∙ ap (flat_map (bits_of 5)) (sym same) ∙ filling.spelled in
      let sizes : 8 * length bytes + length left ≡ 32 + 8 * (length bytes - 4) + filling.zeros =
      omega (arith, ap length all, length-append (bits bytes) left, length-bits bytes, length-append spelled zeros, length-spelled_bits, length-replicate {A = Bool} filling.zeros false) in
      let enough : 4 ≤ length bytes = omega (arith, filling.few) in
      let count : length left ≡ filling.zeros = omega arith in
      let even : length (bits bytes) ≡ length spelled = omega (arith, length-bits bytes, length-spelled_bits) in
      let front : bits (take 4 bytes) ≡ checksum (drop 4 bytes) =
      same_front (bits (take 4 bytes)) (bits (drop 4 bytes)) (checksum (drop 4 bytes)) (bits (drop 4 bytes)) (sym cut ∙ same_front (bits bytes) left spelled zeros all even)
      (omega (arith, length-bits (take 4 bytes), length-take 4 bytes, length-checksum (drop 4 bytes))) in (
        record { enough = enough; front = front },
        omega (arith, filling.few),
        same_back (bits bytes) left spelled zeros all even ∙ ap (λ k. replicate k false) (sym count),
      )

  told : (p : List ℕ) → principal_of text ≡ Some p → (HasChecksum bytes × (length left < 5) × (left ≡ replicate (length left) false)) × (length (drop 4 bytes) ≤ 29)
  told p e =
      let tells = principal_of-tells text p e in
      let same : drop 4 bytes ≡ p = sym bytes_read-is ∙ ap bytes_read tells.1 ∙ bytes_read-text_of p tells.0 in
      (text-of_other (ap text_of same ∙ sym tells.1), omega (arith, tells.0.short, ap length same))

  pub none-for : (HasChecksum bytes → length left < 5 → left ≡ replicate (length left) false → length (drop 4 bytes) ≤ 29 → ⊥) → principal_of text ≡ None
  none-for wrong = none_found (principal_of text) (λ p e. let t = told p e in wrong t.0.0 t.0.1 t.0.2 t.1)

  pub answer-for : (result : Option (List ℕ)) → length left < 5 → left ≡ replicate (length left) false
      → IfSome result (λ p. (p ≡ drop 4 bytes) × HasChecksum bytes × IsPrincipal p) → IfNone result (HasChecksum bytes → 29 < length (drop 4 bytes)) → result ≡ principal_of text
  answer-for None short clear some none = sym (none-for (λ has _ _ fits. absurd (omega (arith, none has, fits))))
  answer-for (Some p) short clear some none =
      ap Some (some.0 ∙ sym bytes_read-is)
      ∙ sym (principal_of-read text (omega (arith, some.2.short, ap length some.0, ap length bytes_read-is)) (ap text_of bytes_read-is ∙ text-of_bytes some.1 short clear))

-- a text that is not letters with dashes is no principal's
pub none-unspelled : (text : List ℕ) → ((values : List ℕ) → All (λ v. v < 32) values → text ≡ dashed (map character values) → ⊥) → principal_of text ≡ None
unfolding text_of
none-unspelled text wrong =
    let all = checksum (bytes_read text) ++ bits (bytes_read text) in
    principal_of-none_other text (λ own. wrong (fives all) (All-from_recursion (λ v. v < 32) (fives all) (fives-below all)) (sym own))

-- ---- a checksum
-- bytes are known by their bits
pub same_bytes : (xs ys : List ℕ) → AllByRecursion (λ b. b < 256) xs → AllByRecursion (λ b. b < 256) ys → bits xs ≡ bits ys → xs ≡ ys
same_bytes xs ys h g e = sym (bytes-read xs h) ∙ ap eights e ∙ bytes-read ys g

pub checksum-front : (bytes : List ℕ) (crc : ℕ) → All (λ b. b < 256) bytes → bits_of 32 crc ≡ checksum (drop 4 bytes) → HasChecksum bytes → take 4 bytes ≡ to_be_bytes w32 crc
checksum-front bytes crc below is has =
    same_bytes (take 4 bytes) (to_be_bytes w32 crc) (recursion_from_All (λ b. b < 256) (take 4 bytes) (All-take (λ b. b < 256) 4 bytes below)) (to_be_bytes-below crc)
    (has.front ∙ sym is ∙ sym (bits-to_be_bytes crc))

pub front-checksum : (bytes : List ℕ) (crc : ℕ) → 4 ≤ length bytes → bits_of 32 crc ≡ checksum (drop 4 bytes) → take 4 bytes ≡ to_be_bytes w32 crc → HasChecksum bytes
front-checksum bytes crc enough is same = record { enough = enough; front = ap bits same ∙ bits-to_be_bytes crc ∙ is }
