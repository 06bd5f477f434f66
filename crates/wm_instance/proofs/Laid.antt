-- Lists with some elements laid over them, and segments laid over a table or a memory.
use Rattle.std.proofs.Common.{◌≡◌, ℕ, ◌+◌, ◌<◌, ◌≤◌, Bool, true, List, [], ◌∷◌, ◌++◌, length, map, get_or, take, drop, Option, Some, refl, sym, ap, ◌∙◌, arith}
use Rattle.std.specs.Prelude.{All, nat_le}
use Rattle.std.specs.List.{list_all}
use Rattle.std.proofs.lemmas.Bool.{le-leb, leb-true}
use Rattle.std.proofs.lemmas.List.{length-append, length-take, length-drop, length-map, drop_more}
use Rattle.std.proofs.lemmas.List.Sums.{AllPass-from_list_all}
use Rattle.std.proofs.lemmas.List.Elements.{All-get_or, All-append, All-take, All-drop}
use Rattle.wm_tree.specs.declared.parts.Element.{Element}
use Rattle.wm_tree.specs.declared.parts.Segment.{Segment}
use Rattle.wm_typing.proofs.Past.{both_true}
use Rattle.wm_pages.specs.Over.{over}
use Rattle.wm_store.specs.Lists.{written}
use Rattle.wm_semantics.specs.Instance.{constant_of, laid, with_elements, with_segments, elements_fit, segments_fit}

pub length-laid : {A : Type 0} (at : ℕ) (ys xs : List A) → at + length ys ≤ length xs → length (laid at ys xs) ≡ length xs
length-laid at ys xs within = simp (length-append, length-take, length-drop) (omega arith)

pub All-laid : {A : Type 0} (P : A → Type 0) (at : ℕ) (ys xs : List A) → All P ys → All P xs → All P (laid at ys xs)
All-laid P at ys xs new old =
    All-append P (take at xs) (ys ++ drop (at + length ys) xs) (All-take P at xs old)
    (All-append P ys (drop (at + length ys) xs) new (All-drop P (at + length ys) xs old))

-- what a store writes
pub written-laid : (at : ℕ) (bytes xs : List ℕ) → at + length bytes ≤ length xs → written at bytes xs ≡ Some (laid at bytes xs)
unfolding over
written-laid at bytes xs within = rw (le-leb (at + length bytes) (length xs) within) refl

-- what holds of each element, of one that was read
read_passes : {A : Type 0} (test : A → Bool) (xs : List A) (i : ℕ) (x : A) → list_all test xs ≡ true → i < length xs → x ≡ get_or xs i x → test x ≡ true
read_passes test xs i x all within is = ap test is ∙ All-get_or (λ y. test y ≡ true) xs i x within (AllPass-from_list_all test xs all)

-- the list from a place on begins with the element there
read_first : {A : Type 0} (xs : List A) (i : ℕ) (x : A) → i < length xs → x ≡ get_or xs i x → drop i xs ≡ x ∷ drop (i + 1) xs
read_first xs i x within is = drop_more xs i x within ∙ ap (λ y. y ∷ drop (i + 1) xs) (sym is)

-- ---- element segments

pub element_fits : (size : ℕ) (elements : List Element) (i : ℕ) (e : Element) → elements_fit size elements ≡ true → i < length elements → e ≡ get_or elements i e
    → constant_of e.offset + length e.functions ≤ size
element_fits size elements i e fit within is =
    leb-true (constant_of e.offset + length e.functions) size (read_passes (λ (x : Element). nat_le (constant_of x.offset + length x.functions) size) elements i e fit within is)

pub with_elements-drop : (elements : List Element) (i : ℕ) (e : Element) (table : List (Option ℕ)) → i < length elements → e ≡ get_or elements i e
    → with_elements (drop i elements) table ≡ with_elements (drop (i + 1) elements) (laid (constant_of e.offset) (map (λ f. Some f) e.functions) table)
with_elements-drop elements i e table within is = ap (λ (es : List Element). with_elements es table) (read_first elements i e within is)

pub length-with_elements : (size : ℕ) (elements : List Element) (table : List (Option ℕ)) → elements_fit size elements ≡ true → length table ≡ size
    → length (with_elements elements table) ≡ size
length-with_elements size [] table fit long = long
length-with_elements size (e ∷ elements) table fit long =
    let both = both_true (nat_le (constant_of e.offset + length e.functions) size) (elements_fit size elements) fit in
    let functions = map (λ (f : ℕ). Some f) e.functions in
    let within = leb-true (constant_of e.offset + length e.functions) size both.0 in
    let room : constant_of e.offset + length functions ≤ length table = omega (arith, length-map e.functions (λ (f : ℕ). Some f)) in
    length-with_elements size elements (laid (constant_of e.offset) functions table) both.1 (length-laid (constant_of e.offset) functions table room ∙ long)

-- ---- data segments

pub segment_fits : (size : ℕ) (segments : List Segment) (i : ℕ) (s : Segment) → segments_fit size segments ≡ true → i < length segments → s ≡ get_or segments i s
    → constant_of s.offset + length s.bytes ≤ size
segment_fits size segments i s fit within is =
    leb-true (constant_of s.offset + length s.bytes) size (read_passes (λ (x : Segment). nat_le (constant_of x.offset + length x.bytes) size) segments i s fit within is)

pub with_segments-drop : (segments : List Segment) (i : ℕ) (s : Segment) (memory : List ℕ) → i < length segments → s ≡ get_or segments i s
    → with_segments (drop i segments) memory ≡ with_segments (drop (i + 1) segments) (laid (constant_of s.offset) s.bytes memory)
with_segments-drop segments i s memory within is = ap (λ (ss : List Segment). with_segments ss memory) (read_first segments i s within is)

pub length-with_segments : (size : ℕ) (segments : List Segment) (memory : List ℕ) → segments_fit size segments ≡ true → length memory ≡ size
    → length (with_segments segments memory) ≡ size
length-with_segments size [] memory fit long = long
length-with_segments size (s ∷ segments) memory fit long =
    let both = both_true (nat_le (constant_of s.offset + length s.bytes) size) (segments_fit size segments) fit in
    let within = leb-true (constant_of s.offset + length s.bytes) size both.0 in
    let room : constant_of s.offset + length s.bytes ≤ length memory = omega arith in
    length-with_segments size segments (laid (constant_of s.offset) s.bytes memory) both.1 (length-laid (constant_of s.offset) s.bytes memory room ∙ long)
