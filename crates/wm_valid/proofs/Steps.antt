-- One more turn of a loop that looks for the first element that passes a test, or keeps what it finds.
use Rattle.std.proofs.Common.{◌≡◌, ℕ, ◌+◌, ◌<◌, Bool, true, false, List, [], ◌∷◌, ◌++◌, length, get_or, take, drop, Option, Some, refl, sym, ap, ◌∙◌}
use Rattle.std.proofs.lemmas.List.{at_drop_more, take_more, map_more, map-append}
use Rattle.std.proofs.lemmas.List.Elements.{filter_map-append}
use Rattle.std.specs.Prelude.{map, filter_map}
use Rattle.std.specs.List.{position_from, cons_option}

-- the element here does not pass
pub position_more : {X : Type 0} (test : X → Bool) (xs : List X) (n : ℕ) (x : X) → n < length xs → x ≡ get_or xs n x → test x ≡ false → position_from test n (drop n xs) ≡ position_from test (n + 1) (drop (n + 1) xs)
position_more test xs n x lt is e =
    let here : test (get_or xs n x) ≡ false = rw (← is) e in
    at_drop_more (position_from test n) xs n x lt ∙ rw here refl

-- the element here passes
pub position_here : {X : Type 0} (test : X → Bool) (xs : List X) (n : ℕ) (x : X) → n < length xs → x ≡ get_or xs n x → test x ≡ true → position_from test n (drop n xs) ≡ Some n
position_here test xs n x lt is e =
    let here : test (get_or xs n x) ≡ true = rw (← is) e in
    at_drop_more (position_from test n) xs n x lt ∙ rw here refl

-- what each element so far gives, and what this one gives
pub found_more : {X Y : Type 0} (f : X → Option Y) (xs : List X) (n : ℕ) (x : X) (ys : List Y) (y : Y) → n < length xs → x ≡ get_or xs n x → f x ≡ Some y → map f (take n xs) ≡ map (λ z. Some z) ys → map f (take (n + 1) xs) ≡ map (λ z. Some z) (ys ++ y ∷ [])
found_more f xs n x ys y lt is e so_far =
    let here : f (get_or xs n x) ≡ Some y = rw (← is) e in
    map_more f xs n x lt ∙ rw (so_far, here) (sym (map-append (λ z. Some z) ys (y ∷ [])))

-- what the elements so far give, and what this one gives, if anything
pub filter_map_more : {X Y : Type 0} (f : X → Option Y) (xs : List X) (n : ℕ) (x : X) → n < length xs → x ≡ get_or xs n x → filter_map f (take (n + 1) xs) ≡ filter_map f (take n xs) ++ cons_option (f x) []
filter_map_more f xs n x lt is =
    ap (filter_map f) (take_more xs n x lt) ∙ filter_map-append f (take n xs) (get_or xs n x ∷ []) ∙ rw (← is) refl

cons_parts : {X : Type 0} (x y : X) (xs ys : List X) → ◌≡◌ {A = List X} (x ∷ xs) (y ∷ ys) → (x ≡ y) × (xs ≡ ys)
cons_parts x y xs ys e = (cc, cc)

-- what each element gives, where each gives something
pub filter_map_found : {X Y : Type 0} (f : X → Option Y) (xs : List X) (ys : List Y) → map f xs ≡ map (λ z. Some z) ys → ys ≡ filter_map f xs
filter_map_found f [] [] e = refl
filter_map_found f [] (y ∷ ys) e = absurd cc
filter_map_found f (x ∷ xs) [] e = absurd cc
filter_map_found f (x ∷ xs) (y ∷ ys) e =
    let parts = cons_parts (f x) (Some y) (map f xs) (map (λ z. Some z) ys) e in
    let first = parts.0 in
    rw first (ap (λ zs. y ∷ zs) (filter_map_found f xs ys parts.1))
