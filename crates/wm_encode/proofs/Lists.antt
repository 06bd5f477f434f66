-- Lists whose items are spelled one after the other.
use Rattle.std.proofs.Common.{ℕ, ◌<◌, ◌≤◌, ◌^◌, List, [], ◌∷◌, ◌++◌, length, refl, length-append, arith}
use Rattle.std.specs.List.{AllByRecursion, flat_map}
use Rattle.ic_base.specs.Spelling.{Spelling, SpellsMany}
use Rattle.ic_leb.specs.declared.width.Width.TheVariants.{Wasm32}
use Rattle.ic_leb.specs.Spelling.{unsigned_spelling}
use Rattle.ic_leb.proofs.Shortest.{unsigned_spelled}
use Rattle.wm_decode.specs.Values.{SpellsU32, SpellsList, SpellsPair, SpellsBytes}
use Rattle.wm_encode.specs.Values.{vec, sized}
use Rattle.wm_encode.specs.Fits.{Short}

pub u32_spelled : (n : ℕ) → n < 2 ^ 32 → SpellsU32 n (unsigned_spelling n)
u32_spelled n h = unsigned_spelled Wasm32 n h

pub short_front : (front rest : List ℕ) → Short (front ++ rest) → Short front
short_front front rest short = omega (arith, length-append front rest)

pub short_rest : (front rest : List ℕ) → Short (front ++ rest) → Short rest
short_rest front rest short = omega (arith, length-append front rest)

pub front_some : (front rest : List ℕ) → 0 < length front → 0 < length (front ++ rest)
front_some front rest some = omega (arith, length-append front rest)

pub pair_spelled : {A B : Type 0} (P : Spelling A) (Q : Spelling B) (a : A) (b : B) (front rest : List ℕ) → P a front → Q b rest → SpellsPair P Q (a, b) (front ++ rest)
pair_spelled P Q a b front rest p q = record { front = front; rest = rest; whole = refl; first = p; second = q }

-- what holds of each item where its bytes are few
pub each_short : {A : Type 0} (f : A → List ℕ) (Holds : A → Type 0) (items : List A) → AllByRecursion Holds items → Short (flat_map f items) → AllByRecursion (λ x. Holds x × Short (f x)) items
each_short f Holds [] all short = tt
each_short f Holds (x ∷ items) all short =
    ((all.0, short_front (f x) (flat_map f items) short), each_short f Holds items all.1 (short_rest (f x) (flat_map f items) short))

pub many_spelled : {A : Type 0} (P : Spelling A) (f : A → List ℕ) (Holds : A → Type 0) → ((x : A) → Holds x → P x (f x)) → (items : List A) → AllByRecursion Holds items → SpellsMany P items (flat_map f items)
many_spelled P f Holds each [] all = refl
many_spelled P f Holds each (x ∷ items) all = (f x, flat_map f items, refl, each x all.0, many_spelled P f Holds each items all.1)

-- each item takes a byte
counted : {A : Type 0} (f : A → List ℕ) → ((x : A) → 0 < length (f x)) → (items : List A) → length items ≤ length (flat_map f items)
counted f some [] = omega arith
counted f some (x ∷ items) = omega (arith, some x, counted f some items, length-append (f x) (flat_map f items))

pub vec_spelled : {A : Type 0} (P : Spelling A) (f : A → List ℕ) (Holds : A → Type 0) → ((x : A) → 0 < length (f x)) → ((x : A) → Holds x → Short (f x) → P x (f x)) → (items : List A) → AllByRecursion Holds items → Short (vec f items) → SpellsList P items (vec f items)
vec_spelled P f Holds some each items all short =
    let count = unsigned_spelling (length items) in
    let few = short_rest count (flat_map f items) short in
    record {
      front = count;
      rest = flat_map f items;
      whole = refl;
      count = u32_spelled (length items) (omega (arith, few, counted f some items));
      values = many_spelled P f (λ x. Holds x × Short (f x)) (λ x h. each x h.0 h.1) items (each_short f Holds items all few);
    }

pub bytes_spelled : (items : List ℕ) → Short (sized items) → SpellsBytes items (sized items)
bytes_spelled items short =
    let count = unsigned_spelling (length items) in
    record { count = count; whole = refl; counted = u32_spelled (length items) (short_rest count items short) }
