-- subtyping is decided: a test says whether it holds
use Rattle.std.proofs.Common.{◌≡◌, ◌↔◌, ◌⊎◌, inl, inr, ⊎_elim, ℕ, zero, suc, ◌+◌, ◌-◌, ◌*◌, ◌<◌, ◌≤◌, Bool, true, false, cond, ◌&&◌, nat_lt, slice_get, List, [], ◌∷◌, Option, Some, None, Result, Ok, Err, IfOk, length, refl, sym, ◌∙◌, ap, subst, arith}
use Rattle.std.proofs.lemmas.Bool.{cases_eq, cases_lt}
use Rattle.std.specs.List.{AllByRecursion, list_all}
use Rattle.cd_types.specs.declared.entry.TyRef.{TyRef}
use Rattle.cd_types.specs.declared.entry.TyRef.TheVariants.{Prim, Index}
use Rattle.cd_types.specs.declared.entry.Entry.{Entry}
use Rattle.cd_types.specs.Shape.{shape}
use Rattle.cd_sub.specs.Rule.{Rule}
use Rattle.cd_sub.specs.Sub.{Sub, SubAt}
use Rattle.cd_sub.specs.Parts.{part_at, looked_up_parts}
use Rattle.cd_sub.specs.Pairs.{parts_at, PlaceSub, PlaceSubAt, is_straight}
use Rattle.cd_sub.specs.Below.{all_pass, holds_at, below}
use Rattle.cd_sub.proofs.OrderLemmas.{all_map}
use Rattle.cd_types.proofs.FaultLemmas.{both_true}
use Rattle.cd_sub.proofs.RuleLemmas.{Found, Up}
use Rattle.cd_sub.proofs.KeepLemmas.{keep_part}
use Rattle.cd_sub.proofs.PlaceLemmas.{place_up, place_down, place_inside, none_at_zero, each_straight, found_at_all, all_depths, straight_up, turned_up, straight_down, turned_down, looked_up, looked_down, outside, compound_left}
use Rattle.cd_sub.proofs.PartFreeLemmas.{both_compound, part_free_up, part_free_down}
use Rattle.std.proofs.lemmas.Bool.{ltb-true}

-- all of a list pass a test
all_from : (test : ℕ → Bool) (places : List ℕ) → list_all test places ≡ true → AllByRecursion (λ p. test p ≡ true) places
all_from test [] e = tt
all_from test (p ∷ places) e = let parts = both_true (test p) (list_all test places) e in (parts.0, all_from test places parts.1)

all_to : (test : ℕ → Bool) (places : List ℕ) → AllByRecursion (λ p. test p ≡ true) places → list_all test places ≡ true
all_to test [] all = refl
all_to test (p ∷ places) all = rw all.0 (all_to test places all.1)

passes_from : (test : ℕ → Bool) (parts : Option (List ℕ)) → all_pass test parts ≡ true → Found (λ p. test p ≡ true) parts
passes_from test None e = cc
passes_from test (Some places) e = (places, refl, all_from test places e)

passes_to : (test : ℕ → Bool) (parts : Option (List ℕ)) → Found (λ p. test p ≡ true) parts → all_pass test parts ≡ true
passes_to test parts found = ap (all_pass test) found.1 ∙ all_to test found.0 found.2

found_map : (P Q : ℕ → Type 0) (parts : Option (List ℕ)) → ((p : ℕ) → P p → Q p) → Found P parts → Found Q parts
found_map P Q parts f found = (found.0, found.1, all_map P Q f found.0 found.2)

all_both : (P Q : ℕ → Type 0) (places : List ℕ) → AllByRecursion P places → AllByRecursion Q places → AllByRecursion (λ p. P p × Q p) places
all_both P Q [] all all' = tt
all_both P Q (p ∷ places) all all' = ((all.0, all'.0), all_both P Q places all.1 all'.1)

-- the places of pairs
abbrev size : List Entry → List Entry → ℕ
size first second = 2 * (length first * length second)

inside_too : (first second : List Entry) (P : ℕ → Type 0) (place : ℕ) → Found P (parts_at first second place) → Found (λ p. (p < size first second) × P p) (parts_at first second place)
inside_too first second P place found = (found.0, found.1, all_both (λ p. p < size first second) P found.0 (place_inside first second place found.0 found.1) found.2)

-- what holds passes at each depth
passes : (first second : List Entry) (n place : ℕ) → place < size first second → PlaceSub first second place → holds_at n first second place ≡ true
passes first second zero place inside holds = refl
passes first second (suc n) place inside holds =
    passes_to (holds_at n first second) (parts_at first second place)
    (found_map _ _ (parts_at first second place) (λ p both_true. passes first second n p both_true.0 both_true.1) (inside_too first second (PlaceSub first second) place (place_down first second place inside holds)))

-- what passes at a depth passes at the one before
shallower : (first second : List Entry) (n place : ℕ) → holds_at (suc n) first second place ≡ true → holds_at n first second place ≡ true
shallower first second zero place e = refl
shallower first second (suc n) place e =
    passes_to (holds_at n first second) (parts_at first second place)
    (found_map _ _ (parts_at first second place) (λ p e. shallower first second n p e) (passes_from (holds_at (suc n) first second) (parts_at first second place) e))

much_shallower : (first second : List Entry) (n k place : ℕ) → holds_at (k + n) first second place ≡ true → holds_at n first second place ≡ true
much_shallower first second n zero place e = let same : zero + n ≡ n = omega arith in subst (λ m. holds_at m first second place ≡ true) same e
much_shallower first second n (suc k) place e =
    let same : suc k + n ≡ suc (k + n) = omega arith in
    much_shallower first second n k place (shallower first second (k + n) place (subst (λ m. holds_at m first second place ≡ true) same e))

-- the next depth shows no more
abbrev Stable : List Entry → List Entry → ℕ → Type 0
Stable first second n = (place : ℕ) → place < size first second → holds_at n first second place ≡ true → holds_at (suc n) first second place ≡ true

stable_holds : (first second : List Entry) (n : ℕ) → Stable first second n → (m place : ℕ) → place < size first second → holds_at n first second place ≡ true → PlaceSubAt m first second place
stable_holds first second n stable zero place inside e = none_at_zero first second (is_straight first second place) place
stable_holds first second n stable (suc m) place inside e =
    let found = inside_too first second (λ p. holds_at n first second p ≡ true) place (passes_from (holds_at n first second) (parts_at first second place) (stable place inside e)) in
    place_up m first second place found.0 found.1 (all_map _ _ (λ p both_true. stable_holds first second n stable m p both_true.0 both_true.1) found.0 found.2)

-- how many of the numbers below a bound pass a test
count_below : (ℕ → Bool) → ℕ → ℕ
count_below test zero = 0
count_below test (suc b) = cond (test b) 1 0 + count_below test b

count_bound : (test : ℕ → Bool) (b : ℕ) → count_below test b ≤ b
unfolding count_below
count_bound test zero = omega arith
count_bound test (suc b) = one (test b) (count_bound test b)
  where
    one : (v : Bool) → count_below test b ≤ b → cond v 1 0 + count_below test b ≤ suc b
    one true h = omega arith
    one false h = omega arith

count_least : (f g : ℕ → Bool) → ((p : ℕ) → f p ≡ true → g p ≡ true) → (b : ℕ) → count_below f b ≤ count_below g b
unfolding count_below
count_least f g within zero = omega arith
count_least f g within (suc b) = one (f b) (g b) (within b) (count_least f g within b)
  where
    one : (v w : Bool) → (v ≡ true → w ≡ true) → count_below f b ≤ count_below g b → cond v 1 0 + count_below f b ≤ cond w 1 0 + count_below g b
    one true true k h = omega arith
    one true false k h = absurd (let e : false ≡ true = k refl in cc)
    one false true k h = omega arith
    one false false k h = omega arith

count_same : (f g : ℕ → Bool) → ((p : ℕ) → f p ≡ true → g p ≡ true) → (b : ℕ) → count_below g b ≤ count_below f b → (p : ℕ) → p < b → g p ≡ true → f p ≡ true
unfolding count_below
count_same f g within zero few p inside e = absurd (omega arith)
count_same f g within (suc b) few p inside e =
    ⊎_elim (λ same. subst (λ q. f q ≡ true) (sym same) (last (f b) (g b) refl few (sym (ap g same) ∙ e) (count_least f g within b)))
    (λ differ. count_same f g within b (rest (f b) (g b) (within b) few) p (omega arith) e) (cases_eq p b)
  where
    last : (v w : Bool) → f b ≡ v → cond w 1 0 + count_below g b ≤ cond v 1 0 + count_below f b → w ≡ true → count_below f b ≤ count_below g b → f b ≡ true
    last true w is few e least = is
    last false true is few e least = absurd (omega arith)
    last false false is few e least = cc

    rest : (v w : Bool) → (v ≡ true → w ≡ true) → cond w 1 0 + count_below g b ≤ cond v 1 0 + count_below f b → count_below g b ≤ count_below f b
    rest true true k few = omega arith
    rest true false k few = absurd (let e : false ≡ true = k refl in cc)
    rest false true k few = omega arith
    rest false false k few = omega arith

-- up to a depth, one is stable, or each shows fewer
stable_or_fewer : (first second : List Entry) (k : ℕ)
    → ((n : ℕ) × (n ≤ k) × Stable first second n) ⊎ (count_below (holds_at k first second) (size first second) + k ≤ size first second)
stable_or_fewer first second zero = inr (omega (arith, count_bound (holds_at zero first second) (size first second)))
stable_or_fewer first second (suc k) =
    ⊎_elim (λ stable. inl (stable.0, omega arith, stable.2))
    (λ few.
    ⊎_elim (λ less. inr (omega arith))
    (λ same. inl (k, omega arith, λ place inside e. count_same (holds_at (suc k) first second) (holds_at k first second) (shallower first second k) (size first second) same place inside e))
    (cases_lt (count_below (holds_at (suc k) first second) (size first second)) (count_below (holds_at k first second) (size first second))))
    (stable_or_fewer first second k)

-- what passes at one depth more than there are pairs holds
place_decided : (first second : List Entry) (place : ℕ) → place < size first second → holds_at (suc (size first second)) first second place ≡ true → PlaceSub first second place
place_decided first second place inside e =
    ⊎_elim
    (λ stable m.
    let more : (k : ℕ) × (suc (size first second) ≡ k + stable.0) = (suc (size first second) - stable.0, omega (arith, stable.1)) in
    stable_holds first second stable.0 stable.2 m place inside
    (much_shallower first second stable.0 more.0 place (subst (λ n. holds_at n first second place ≡ true) more.1 e)))
    (λ few. absurd (omega arith))
    (stable_or_fewer first second (suc (size first second)))

below_up : (first second : List Entry) (a b : TyRef) → below first a second b ≡ true → Sub first a second b
unfolding below
below_up first second a b e n =
    let test = holds_at (suc (size first second)) first second in
    let found = passes_from test (part_at first second false a b []) e in
    let inside = keep_part (λ p. p < size first second) first second false (each_straight first second) a b [] found.0 found.1 tt in
    (straight_up n first second a b [] found.0 found.1 (all_map _ _ (λ p both_true. place_decided first second p both_true.0 both_true.1 n) found.0 (all_both _ _ found.0 inside found.2))).0

below_down : (first second : List Entry) (a b : TyRef) → Sub first a second b → below first a second b ≡ true
unfolding below
below_down first second a b holds =
    let parts = part_at first second false a b [] in
    let found =
    found_at_all (λ n p. PlaceSubAt n first second p) parts (λ p. none_at_zero first second (is_straight first second p) p)
    (λ n. straight_down n first second a b [] (holds (suc n)) tt) in
    let inside = keep_part (λ p. p < size first second) first second false (each_straight first second) a b [] found.0 found.1 tt in
    passes_to (holds_at (suc (size first second)) first second) parts
    (found.0, found.1, all_map _ _ (λ p both_true. passes first second (suc (size first second)) p both_true.0 both_true.1) found.0 (all_both _ _ found.0 inside found.2))

-- subtyping is what the test says
pub below_is : (first second : List Entry) (a b : TyRef) → (below first a second b ≡ true) ↔ Sub first a second b
below_is first second a b = (below_up first second a b, below_down first second a b)

pub same_test : (P : Type 0) (b c : Bool) → (b ≡ true) ↔ P → (c ≡ true) ↔ P → b ≡ c
same_test P true true is is' = refl
same_test P true false is is' = absurd (let e : false ≡ true = is'.1 (is.0 refl) in cc)
same_test P false true is is' = absurd (let e : false ≡ true = is.1 (is'.0 refl) in cc)
same_test P false false is is' = refl

-- an answer that says whether it holds is the test
pub answer_is_test : {E : Type 0} (first second : List Entry) (a b : TyRef) (r : Result Bool E) → IfOk r (λ yes. (yes ≡ true) ↔ Sub first a second b) → IfOk r (λ yes. yes ≡ below first a second b)
answer_is_test first second a b (Ok answer) is = same_test (Sub first a second b) answer (below first a second b) is (below_is first second a b)
answer_is_test first second a b (Err e) is = tt

-- a pair that holds at all depths has parts that do
up_all : (P : ℕ → ℕ → Type 0) (lower upper : List Entry) (turned : Bool) (R : ℕ → TyRef → TyRef → Type 0) → ((n : ℕ) → Up (P n) lower upper turned (R n))
    → Up (λ p. (n : ℕ) → P n p) lower upper turned (λ a b. (n : ℕ) → R n a b)
up_all P lower upper turned R up a b found out e all =
    let at = λ (n : ℕ). up n a b found out e (all_map _ _ (λ p holds. holds n) out all) in
    (λ n. (at n).0, all_depths P found (λ n. (at n).1))

rule_of_entries : (first second : List Entry) (i j : ℕ) → i < length first → j < length second → Sub first (Index i) second (Index j)
    → Rule (λ s t. Sub first s second t) (λ t s. Sub second t first s) first second (shape first (Index i)) (shape second (Index j))
rule_of_entries first second i j row column holds =
    let found =
    found_at_all (λ n p. PlaceSubAt n first second p) (looked_up_parts first second false (slice_get first i) (slice_get second j)) (λ p. none_at_zero first second (is_straight first second p) p)
    (λ n. looked_down (PlaceSubAt (suc n) first second) first second false (λ a b. SubAt (suc n) first a second b) (λ b a. SubAt (suc n) second b first a) (straight_down n first second) (turned_down n first second) i j row column (holds (suc (suc n)))) in
    looked_up (PlaceSub first second) first second false (λ s t. Sub first s second t) (λ t s. Sub second t first s)
    (up_all (λ n p. PlaceSubAt n first second p) first second false (λ n a b. SubAt n first a second b) (λ n. straight_up n first second))
    (up_all (λ n p. PlaceSubAt n first second p) second first true (λ n b a. SubAt n second b first a) (λ n. turned_up n first second))
    (slice_get first i) (slice_get second j) found.0 found.1 found.2

rule_without_parts : (first second : List Entry) (a b : TyRef) → both_compound (shape first a) (shape second b) ≡ false → Sub first a second b
    → Rule (λ s t. Sub first s second t) (λ t s. Sub second t first s) first second (shape first a) (shape second b)
rule_without_parts first second a b not_both holds =
    part_free_up _ _ first second (shape first a) (shape second b) (part_free_down _ _ first second (shape first a) (shape second b) not_both (holds (suc zero)))

-- a subtype is one by a rule with parts that are subtypes
pub sub_rule : (first second : List Entry) (a b : TyRef) → Sub first a second b → Rule (λ s t. Sub first s second t) (λ t s. Sub second t first s) first second (shape first a) (shape second b)
sub_rule first second (Prim p) b holds = rule_without_parts first second (Prim p) b refl holds
sub_rule first second (Index i) (Prim q) holds = rule_without_parts first second (Index i) (Prim q) (compound_left (shape first (Index i)) q) holds
sub_rule first second (Index i) (Index j) holds = at_test (nat_lt i (length first) && nat_lt j (length second)) refl
  where
    at_test : (inside : Bool) → (nat_lt i (length first) && nat_lt j (length second)) ≡ inside
        → Rule (λ s t. Sub first s second t) (λ t s. Sub second t first s) first second (shape first (Index i)) (shape second (Index j))
    at_test true e =
        (let parts = both_true (nat_lt i (length first)) (nat_lt j (length second)) e in
        rule_of_entries first second i j (ltb-true i (length first) parts.0) (ltb-true j (length second) parts.1) holds)
    at_test false e = rule_without_parts first second (Index i) (Index j) (outside first second i j _ _ refl refl e) holds
