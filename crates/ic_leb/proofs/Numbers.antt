-- The number at the front, of either sign.
use Rattle.std.proofs.Common.{◌≡◌, ℕ, suc, ◌<◌, ◌≤◌, List, [], ◌∷◌, ◌++◌, Bool, true, false, length, refl, sym, ◌∙◌, ap, subst, arith, take, drop, append_assoc, length-append}
use Rattle.std.specs.Prelude.{Result, Ok, Err, if◌then◌else◌}
use Rattle.std.specs.Bool.{Decides}
use Rattle.std.proofs.lemmas.List.{take_at, take-append-drop, length-take-le}
use Rattle.ic_leb.specs.declared.fault.LebFault.{LebFault}
use Rattle.ic_leb.specs.declared.fault.LebFault.TheVariants.{Short, Long, Wide}
use Rattle.ic_leb.specs.Spells.{IsOneNumber, Spells}
use Rattle.ic_leb.specs.Faults.{IsCutShort, RunsOn, StandsForTooMuch}
use Rattle.ic_leb.specs.Reading.{size_at, value_of, number_at}
use Rattle.ic_leb.proofs.Sizes.{IsFound, Sized, sized, found_again}

-- numbers of one width and sign: what the bytes stand for, and what fits, with its test
pub record Format (A : Type 0) : Type 1 where
  pub value : List ℕ → A
  pub Fits : A → Type 0
  pub most : ℕ
  pub fits : A → Bool
  pub decides : (x : A) → Decides (fits x) (Fits x)

abbrev pub SpellsBy : {A : Type 0} → Format A → A → List ℕ → Type 0
SpellsBy format = Spells format.value format.Fits format.most

abbrev pub number_by : {A : Type 0} → Format A → List ℕ → Result (A × ℕ) LebFault
number_by format = number_at format.value format.fits format.most

-- what an answer to "which number" says
abbrev pub Answered : {A : Type 0} → Format A → List ℕ → Result (A × ℕ) LebFault → Type 0
Answered format bytes (Ok x) = (0 < x.1) × (x.1 ≤ length bytes) × SpellsBy format x.0 (take x.1 bytes)
Answered format bytes (Err Short) = IsCutShort format.most bytes
Answered format bytes (Err Long) = RunsOn format.most bytes
Answered format bytes (Err Wide) = StandsForTooMuch format.value format.Fits format.most bytes

by_fit : {A : Type 0} (format : Format A) (bytes : List ℕ) (size : ℕ) (fit : Bool) → format.fits (format.value (take size bytes)) ≡ fit → IsFound format.most bytes size → Answered format bytes (if fit then Ok (format.value (take size bytes), size) else Err Wide)
by_fit format bytes size true e found = (
  found.some,
  found.inside,
  record {
    one = found.one;
    size = omega (arith, length-take-le size bytes found.inside, found.short);
    means = refl;
    fits = (format.decides (format.value (take size bytes))).0 e;
  },
)
by_fit format bytes size false e found = record {
  front = take size bytes;
  rest = drop size bytes;
  whole = sym (take-append-drop size bytes);
  one = found.one;
  size = omega (arith, length-take-le size bytes found.inside, found.short);
  unfit = λ h. let clash : true ≡ false = sym ((format.decides (format.value (take size bytes))).1 h) ∙ e in cc;
}

by_size : {A : Type 0} (format : Format A) (bytes : List ℕ) (r : Result ℕ LebFault) → Sized format.most bytes r → Answered format bytes (value_of format.value format.fits bytes r)
by_size format bytes (Ok size) found = by_fit format bytes size (format.fits (format.value (take size bytes))) refl found
by_size format bytes (Err Short) cut = cut
by_size format bytes (Err Long) runs = runs
by_size format bytes (Err Wide) none = absurd none

pub answered : {A : Type 0} (format : Format A) (bytes : List ℕ) (r : Result (A × ℕ) LebFault) → number_by format bytes ≡ r → Answered format bytes r
answered format bytes r e = subst (Answered format bytes) e (by_size format bytes (size_at format.most bytes) (sized format.most bytes))

-- one number of at most that many bytes is found, whatever follows
one_again : (most : ℕ) (front rest : List ℕ) → IsOneNumber front → length front ≤ most → size_at most (front ++ rest) ≡ Ok (length front)
one_again most front rest one room =
    let e : front ++ rest ≡ one.front ++ one.last ∷ rest = ap (λ xs. xs ++ rest) one.whole ∙ append_assoc one.front (one.last ∷ []) rest in
    let n : length front ≡ suc (length one.front) = ap length one.whole ∙ length-append one.front (one.last ∷ []) ∙ omega arith in
    ap (size_at most) e ∙ found_again one.front rest one.last most one.continued one.ended (omega arith) ∙ ap Ok (sym n)

-- a front that is one number is read by what it stands for
pub front_again : {A : Type 0} (format : Format A) (front rest : List ℕ) → IsOneNumber front → length front ≤ format.most → number_by format (front ++ rest) ≡ (if format.fits (format.value front) then Ok (format.value front, length front) else Err Wide)
front_again format front rest one room =
    ap (value_of format.value format.fits (front ++ rest)) (one_again format.most front rest one room)
    ∙ ap (λ xs. if format.fits (format.value xs) then Ok (format.value xs, length front) else Err Wide) (take_at front rest (length front) refl)

pub spelled_again : {A : Type 0} (format : Format A) (x : A) (front rest : List ℕ) → SpellsBy format x front → number_by format (front ++ rest) ≡ Ok (x, length front)
spelled_again format x front rest spells =
    let fit : format.fits (format.value front) ≡ true = ap format.fits (sym spells.means) ∙ (format.decides x).1 spells.fits in
    front_again format front rest spells.one spells.size
    ∙ ap (λ b. if b then Ok (format.value front, length front) else Err Wide) fit
    ∙ ap (λ y. Ok (y, length front)) (sym spells.means)

-- what does not fit is refused
pub wide_again : {A : Type 0} (format : Format A) (bytes : List ℕ) → StandsForTooMuch format.value format.Fits format.most bytes → number_by format bytes ≡ Err Wide
wide_again format bytes wide =
    ap (number_by format) wide.whole
    ∙ front_again format wide.front wide.rest wide.one wide.size
    ∙ ap (λ b. if b then Ok (format.value wide.front, length wide.front) else Err Wide) (unfit (format.fits (format.value wide.front)) (format.decides (format.value wide.front)).0 wide.unfit)
  where
    unfit : {P : Type 0} (b : Bool) → (b ≡ true → P) → (P → ⊥) → b ≡ false
    unfit true yields none = absurd (none (yields refl))
    unfit false yields none = refl
