-- The sections that are written: in order, and each found by its id.
use Rattle.std.proofs.Common.{◌≡◌, ℕ, ◌<◌, ◌≤◌, suc, List, [], ◌∷◌, ◌++◌, length, Option, Some, None, refl, sym, subst, arith, inl, inr, eq-eqb}
use Rattle.std.specs.List.{AllByRecursion, flat_map}
use Rattle.std.proofs.lemmas.Bool.{ne_eqb, le-leb, cases_lt}
use Rattle.ic_base.specs.Spelling.{Spelling, SpellsMany}
use Rattle.ic_leb.specs.Spelling.{unsigned_spelling}
use Rattle.wm_decode.specs.Values.{SpellsList}
use Rattle.wm_decode.specs.Mod.{Section, SpellsSection, InOrder, place_of, content_of, Lists, Starts}
use Rattle.wm_encode.specs.Values.{vec}
use Rattle.wm_encode.specs.Whole.{part, start_part, section}
use Rattle.wm_encode.specs.Ranges.{IsMaybe32}
use Rattle.wm_encode.specs.Fits.{Short}
use Rattle.wm_encode.proofs.Lists.{u32_spelled, many_spelled}

pub sections_spelled : (ss : List Section) → AllByRecursion (λ s. Short s.content) ss → SpellsMany SpellsSection ss (flat_map section ss)
sections_spelled ss all = many_spelled SpellsSection section (λ s. Short s.content)
    (λ s h. record {
      rest = unsigned_spelling (length s.content) ++ s.content;
      whole = refl;
      behind = record { count = unsigned_spelling (length s.content); whole = refl; counted = u32_spelled (length s.content) h };
    })
    ss all

-- the ids rise from the last one on, below 12
abbrev pub Rises : ℕ → List Section → Type 0
Rises last [] = Unit {0}
Rises last (s ∷ ss) = (last < s.id) × (s.id < 12) × Rises s.id ss

-- the code and the data stand one place further, since the data count comes before them
low_place : (id : ℕ) → id < 10 → place_of id ≡ id
low_place id h = rw (le-leb id 9 (omega arith)) refl

high_place : (id : ℕ) → 10 ≤ id → id < 12 → place_of id ≡ suc id
high_place id h k = elim (cases_lt id 11) [
  | inl below ↦ let id_is : 10 ≡ id = omega arith in subst (λ (n : ℕ). place_of n ≡ suc n) id_is refl
  | inr above ↦ let id_is : 11 ≡ id = omega arith in subst (λ (n : ℕ). place_of n ≡ suc n) id_is refl
]

places_rise : (last id : ℕ) → last < id → id < 12 → place_of last < place_of id
places_rise last id h k = elim (cases_lt id 10) [
  | inl low ↦ omega (arith, low_place last (omega arith), low_place id low)
  | inr high ↦ elim (cases_lt last 10) [
    | inl below ↦ omega (arith, low_place last below, high_place id high k)
    | inr above ↦ omega (arith, high_place last above (omega arith), high_place id high k)
  ]
]

pub in_order : (last : ℕ) (ss : List Section) → Rises last ss → InOrder (place_of last) ss
in_order last [] rises = tt
in_order last (s ∷ ss) rises = inr (places_rise last s.id rises.0 rises.1, in_order s.id ss rises.2)

later : (last id : ℕ) (ss : List Section) → last ≤ id → Rises id ss → Rises last ss
later last id [] h rises = tt
later last id (s ∷ ss) h rises = (omega arith, rises.1, rises.2)

pub part_rises : {A : Type 0} (f : A → List ℕ) (items : List A) (last id : ℕ) (more : List Section) → last < id → id < 12 → Rises id more → Rises last (part id f items ++ more)
part_rises f [] last id more h k rises = later last id more (omega arith) rises
part_rises f (x ∷ items) last id more h k rises = (h, k, rises)

pub start_rises : (start : Option ℕ) (last : ℕ) (more : List Section) → last < 8 → Rises 8 more → Rises last (start_part start ++ more)
start_rises None last more h rises = later last 8 more (omega arith) rises
start_rises (Some f) last more h rises = (h, omega arith, rises)

-- no section before the last one is found after it
absent : (last id : ℕ) (ss : List Section) → Rises last ss → id ≤ last → content_of id ss ≡ None
absent last id [] rises h = refl
absent last id (s ∷ ss) rises h = rw (ne_eqb s.id id (omega arith)) (absent s.id id ss rises.2 (omega arith))

pub found : {A : Type 0} (P : Spelling A) (f : A → List ℕ) (items : List A) (id : ℕ) (more : List Section) → Rises id more → SpellsList P items (vec f items) → Lists P items (content_of id (part id f items ++ more))
found P f [] id more rises spelled = subst (Lists P []) (sym (absent id id more rises (omega arith))) refl
found P f (x ∷ items) id more rises spelled = rw (eq-eqb id id refl) spelled

pub found_start : (start : Option ℕ) (more : List Section) → IsMaybe32 start → Rises 8 more → Starts start (content_of 8 (start_part start ++ more))
found_start None more h rises = subst (Starts None) (sym (absent 8 8 more rises (omega arith))) refl
found_start (Some f) more h rises = (f, refl, u32_spelled f h)

-- a section further on is found after a part
pub passed : {A : Type 0} (f : A → List ℕ) (items : List A) (id : ℕ) (more : List Section) (sought : ℕ) → id < sought → content_of sought (part id f items ++ more) ≡ content_of sought more
passed f [] id more sought h = refl
passed f (x ∷ items) id more sought h = rw (ne_eqb id sought (omega arith)) refl

pub passed_start : (start : Option ℕ) (more : List Section) (sought : ℕ) → 8 < sought → content_of sought (start_part start ++ more) ≡ content_of sought more
passed_start None more sought h = refl
passed_start (Some f) more sought h = rw (ne_eqb 8 sought (omega arith)) refl
