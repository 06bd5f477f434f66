-- pairs by their places: what each leaves to show is what it means that it holds
use Rattle.std.proofs.Common.{◌≡◌, ◌↔◌, ℕ, zero, suc, ◌+◌, ◌-◌, ◌*◌, ◌/◌, ◌%◌, ◌<◌, ◌≤◌, Bool, true, false, not, ◌&&◌, cond, List, [], ◌∷◌, ◌++◌, Option, Some, None, length, get_or, refl, sym, ◌∙◌, ap, subst, arith, nat_lt, slice_get}
use Rattle.std.proofs.lemmas.Bool.{lt-ltb, ltb-true}
use Rattle.std.proofs.lemmas.Nat.{div-mul-add, mod-mul-add, mul-add-lt}
use Rattle.std.proofs.lemmas.Option.{slice_get-get_or, slice_get_within}
use Rattle.std.proofs.Math.Nat.{mul_comm, div-lt_iff_lt-mul, mod-lt}
use Rattle.std.specs.List.{AllByRecursion}
use Rattle.cd_types.specs.declared.primitive.Primitive.{Primitive}
use Rattle.cd_types.specs.declared.entry.TyRef.{TyRef}
use Rattle.cd_types.specs.declared.entry.TyRef.TheVariants.{Prim, Index}
use Rattle.cd_types.specs.declared.entry.Entry.{Entry}
use Rattle.cd_types.specs.declared.entry.Entry.TheVariants.{Opt}
use Rattle.cd_types.specs.Shape.{Shape, primitive, compound, dangling, shape, entry_shape}
use Rattle.cd_sub.specs.PartFree.{part_free}
use Rattle.cd_sub.specs.Rule.{Rule}
use Rattle.cd_sub.specs.Sub.{Sub, SubAt}
use Rattle.cd_sub.specs.Parts.{place_of, verdict, looked_up_parts}
use Rattle.cd_sub.specs.Pairs.{is_straight, side_parts, parts_at, PairSubAt, SideSubAt, PlaceSubAt, PlaceSub}
use Rattle.cd_types.proofs.FaultLemmas.{both_true}
use Rattle.cd_sub.proofs.PartFreeLemmas.{both_compound, part_free_up, part_free_down}
use Rattle.cd_sub.proofs.RuleLemmas.{Up, Down, Found, some_same, verdict_some, verdict_true, entry_up, entry_down}
use Rattle.cd_sub.proofs.KeepLemmas.{EachPair, all_push, all_front, keep_entry}

-- the place of a pair with the lower type in the first table tells the pair
straight_is : (first second : List Entry) (i j : ℕ) → i < length first → j < length second
    → (is_straight first second (place_of first second false i j) ≡ true) × (place_of first second false i j / length second ≡ i) × (place_of first second false i j % length second ≡ j)
straight_is first second i j row column =
    let e : place_of first second false i j ≡ i * length second + j = omega arith in (
      lt-ltb _ _ (omega (arith, e, mul-add-lt i (length second) j (length first) row column, mul_comm (length first) (length second))),
      ap (λ c. c / length second) e ∙ div-mul-add i (length second) j column,
      ap (λ c. c % length second) e ∙ mod-mul-add i (length second) j column,
    )

not_less : (a b : ℕ) → b ≤ a → nat_lt a b ≡ false
not_less a b upto = grind (arith, upto)

-- and so does that of one with the lower type in the second
turned_is : (first second : List Entry) (i j : ℕ) → i < length second → j < length first
    → (is_straight first second (place_of second first true i j) ≡ false)
    × ((place_of second first true i j - length first * length second) / length first ≡ i)
    × ((place_of second first true i j - length first * length second) % length first ≡ j)
turned_is first second i j row column =
    let c = mul_comm (length first) (length second) in
    let e : place_of second first true i j - length first * length second ≡ i * length first + j = omega (arith, c) in (
      not_less _ _ (omega (arith, c)),
      ap (λ c. c / length first) e ∙ div-mul-add i (length first) j column,
      ap (λ c. c % length first) e ∙ mod-mul-add i (length first) j column,
    )

past : (a b : ℕ) → nat_lt a b ≡ false → b ≤ a
past a b e = grind (arith, e)

-- a pair by its number and by its entries
number_to : (n : ℕ) (lower upper : List Entry) (number i j : ℕ) → number / length upper ≡ i → number % length upper ≡ j
    → PairSubAt n lower upper number → SubAt n lower (Index i) upper (Index j)
number_to n lower upper number i j e f holds =
    subst (λ j. SubAt n lower (Index i) upper (Index j)) f (subst (λ i. SubAt n lower (Index i) upper (Index (number % length upper))) e holds)

number_from : (n : ℕ) (lower upper : List Entry) (number i j : ℕ) → number / length upper ≡ i → number % length upper ≡ j
    → SubAt n lower (Index i) upper (Index j) → PairSubAt n lower upper number
number_from n lower upper number i j e f holds =
    subst (λ i. SubAt n lower (Index i) upper (Index (number % length upper))) (sym e) (subst (λ j. SubAt n lower (Index i) upper (Index j)) (sym f) holds)

pub straight_to : (n : ℕ) (first second : List Entry) (i j : ℕ) → i < length first → j < length second
    → PlaceSubAt n first second (place_of first second false i j) → SubAt n first (Index i) second (Index j)
straight_to n first second i j row column holds =
    let is = straight_is first second i j row column in
    number_to n first second _ i j is.1 is.2 (subst (λ b. SideSubAt n first second b (place_of first second false i j)) is.0 holds)

pub straight_from : (n : ℕ) (first second : List Entry) (i j : ℕ) → i < length first → j < length second
    → SubAt n first (Index i) second (Index j) → PlaceSubAt n first second (place_of first second false i j)
straight_from n first second i j row column holds =
    let is = straight_is first second i j row column in
    subst (λ b. SideSubAt n first second b (place_of first second false i j)) (sym is.0) (number_from n first second _ i j is.1 is.2 holds)

turned_to : (n : ℕ) (first second : List Entry) (i j : ℕ) → i < length second → j < length first
    → PlaceSubAt n first second (place_of second first true i j) → SubAt n second (Index i) first (Index j)
turned_to n first second i j row column holds =
    let is = turned_is first second i j row column in
    number_to n second first _ i j is.1 is.2 (subst (λ b. SideSubAt n first second b (place_of second first true i j)) is.0 holds)

turned_from : (n : ℕ) (first second : List Entry) (i j : ℕ) → i < length second → j < length first
    → SubAt n second (Index i) first (Index j) → PlaceSubAt n first second (place_of second first true i j)
turned_from n first second i j row column holds =
    let is = turned_is first second i j row column in
    subst (λ b. SideSubAt n first second b (place_of second first true i j)) (sym is.0) (number_from n second first _ i j is.1 is.2 holds)

-- parts, one way
test_up : (P : ℕ → Type 0) (R : Type 0) (inside fits : Bool) (place : ℕ) (found out : List ℕ) → cond inside (Some (found ++ place ∷ [])) (verdict fits found) ≡ Some out
    → (inside ≡ true → P place → R) → (fits ≡ true → R) → AllByRecursion P out → R × AllByRecursion P found
test_up P R true fits place found out e pair flat all =
    let parts = all_front P found place (subst (AllByRecursion P) (sym (some_same _ _ e)) all) in (pair refl parts.1, parts.0)
test_up P R false fits place found out e pair flat all =
    let v = verdict_some fits found out e in (flat v.0, subst (AllByRecursion P) (sym v.1) all)

part_up : (P : ℕ → Type 0) (lower upper : List Entry) (turned : Bool) (R : TyRef → TyRef → Type 0)
    → ((i j : ℕ) → i < length lower → j < length upper → P (place_of lower upper turned i j) → R (Index i) (Index j))
    → ((a b : TyRef) → part_free (shape lower a) (shape upper b) ≡ true → R a b)
    → Up P lower upper turned R
part_up P lower upper turned R pair flat (Index i) (Index j) found out e all =
    test_up P (R (Index i) (Index j)) (nat_lt i (length lower) && nat_lt j (length upper)) _ (place_of lower upper turned i j) found out e
    (λ inside. let parts = both_true (nat_lt i (length lower)) _ inside in pair i j (ltb-true i (length lower) parts.0) (ltb-true j (length upper) parts.1))
    (flat (Index i) (Index j)) all
part_up P lower upper turned R pair flat (Index i) (Prim q) found out e all =
    let v = verdict_some _ found out e in (flat (Index i) (Prim q) v.0, subst (AllByRecursion P) (sym v.1) all)
part_up P lower upper turned R pair flat (Prim p) b found out e all =
    let v = verdict_some _ found out e in (flat (Prim p) b v.0, subst (AllByRecursion P) (sym v.1) all)

-- and the other
pub compound_left : (s : Shape) (q : Primitive) → both_compound s (primitive q) ≡ false
compound_left (primitive p) q = refl
compound_left (compound x) q = refl
compound_left dangling q = refl

dangling_right : (s : Shape) → both_compound s dangling ≡ false
dangling_right (primitive p) = refl
dangling_right (compound x) = refl
dangling_right dangling = refl

-- a pair that is not inside the tables is none of two entries
pub outside : (lower upper : List Entry) (i j : ℕ) (x y : Option Entry) → slice_get lower i ≡ x → slice_get upper j ≡ y
    → (nat_lt i (length lower) && nat_lt j (length upper)) ≡ false → both_compound (shape lower (Index i)) (shape upper (Index j)) ≡ false
outside lower upper i j None y e f past_end = ap (λ o. both_compound (entry_shape o) (shape upper (Index j))) e
outside lower upper i j (Some x) None e f past_end = ap (λ o. both_compound (shape lower (Index i)) (entry_shape o)) f ∙ dangling_right (shape lower (Index i))
outside lower upper i j (Some x) (Some y) e f past_end =
    absurd (let k : true ≡ false =
    sym (ap (λ b. b && nat_lt j (length upper)) (lt-ltb _ _ (slice_get_within lower i x e)) ∙ lt-ltb _ _ (slice_get_within upper j y f)) ∙ past_end in cc)

test_down : (P : ℕ → Type 0) (inside fits : Bool) (place : ℕ) (found : List ℕ) → (inside ≡ true → P place) → (inside ≡ false → fits ≡ true)
    → AllByRecursion P found → Found P (cond inside (Some (found ++ place ∷ [])) (verdict fits found))
test_down P true fits place found pair flat all = (found ++ place ∷ [], refl, all_push P found place all (pair refl))
test_down P false fits place found pair flat all = verdict_true P fits found (flat refl) all

part_down : (P : ℕ → Type 0) (lower upper : List Entry) (turned : Bool) (R : TyRef → TyRef → Type 0)
    → ((i j : ℕ) → i < length lower → j < length upper → R (Index i) (Index j) → P (place_of lower upper turned i j))
    → ((a b : TyRef) → both_compound (shape lower a) (shape upper b) ≡ false → R a b → part_free (shape lower a) (shape upper b) ≡ true)
    → Down P lower upper turned R
part_down P lower upper turned R pair flat (Index i) (Index j) found holds all =
    test_down P (nat_lt i (length lower) && nat_lt j (length upper)) _ (place_of lower upper turned i j) found
    (λ inside. let parts = both_true (nat_lt i (length lower)) _ inside in pair i j (ltb-true i (length lower) parts.0) (ltb-true j (length upper) parts.1) holds)
    (λ past_end. flat (Index i) (Index j) (outside lower upper i j _ _ refl refl past_end) holds) all
part_down P lower upper turned R pair flat (Index i) (Prim q) found holds all =
    verdict_true P _ found (flat (Index i) (Prim q) (compound_left (shape lower (Index i)) q) holds) all
part_down P lower upper turned R pair flat (Prim p) b found holds all = verdict_true P _ found (flat (Prim p) b refl holds) all

-- a pair without parts is below at every depth, and is so by the test if it is so at some depth
pub flat_up : (n : ℕ) (lower upper : List Entry) (a b : TyRef) → part_free (shape lower a) (shape upper b) ≡ true → SubAt n lower a upper b
flat_up zero lower upper a b e = tt
flat_up (suc n) lower upper a b e = part_free_up _ _ lower upper (shape lower a) (shape upper b) e

pub flat_down : (n : ℕ) (lower upper : List Entry) (a b : TyRef) → both_compound (shape lower a) (shape upper b) ≡ false → SubAt (suc n) lower a upper b
    → part_free (shape lower a) (shape upper b) ≡ true
flat_down n lower upper a b not_both holds = part_free_down _ _ lower upper (shape lower a) (shape upper b) not_both holds

pub straight_up : (n : ℕ) (first second : List Entry) → Up (PlaceSubAt n first second) first second false (λ a b. SubAt n first a second b)
straight_up n first second = part_up _ first second false _ (straight_to n first second) (flat_up n first second)

pub turned_up : (n : ℕ) (first second : List Entry) → Up (PlaceSubAt n first second) second first true (λ a b. SubAt n second a first b)
turned_up n first second = part_up _ second first true _ (turned_to n first second) (flat_up n second first)

pub straight_down : (n : ℕ) (first second : List Entry) → Down (PlaceSubAt (suc n) first second) first second false (λ a b. SubAt (suc n) first a second b)
straight_down n first second = part_down _ first second false _ (straight_from (suc n) first second) (flat_down n first second)

pub turned_down : (n : ℕ) (first second : List Entry) → Down (PlaceSubAt (suc n) first second) second first true (λ a b. SubAt (suc n) second a first b)
turned_down n first second = part_down _ second first true _ (turned_from (suc n) first second) (flat_down n second first)

-- entries that were looked up
pub looked_up : (P : ℕ → Type 0) (lower upper : List Entry) (turned : Bool) (R Back : TyRef → TyRef → Type 0) → Up P lower upper turned R → Up P upper lower (not turned) Back
    → (x y : Option Entry) (out : List ℕ) → looked_up_parts lower upper turned x y ≡ Some out → AllByRecursion P out → Rule R Back lower upper (entry_shape x) (entry_shape y)
looked_up P lower upper turned R Back up back None y out e all = cc
looked_up P lower upper turned R Back up back (Some x) None out e all = cc
looked_up P lower upper turned R Back up back (Some x) (Some y) out e all = entry_up P lower upper turned R Back up back x y out e all

side_up : (n : ℕ) (first second : List Entry) (b : Bool) (place : ℕ) (out : List ℕ) → side_parts first second b place ≡ Some out
    → AllByRecursion (PlaceSubAt n first second) out → SideSubAt (suc n) first second b place
side_up n first second true place out e all =
    looked_up _ first second false _ _ (straight_up n first second) (turned_up n first second) (slice_get first (place / length second)) (slice_get second (place % length second)) out e all
side_up n first second false place out e all =
    let number = place - length first * length second in
    looked_up _ second first true _ _ (turned_up n first second) (straight_up n first second) (slice_get second (number / length first)) (slice_get first (number % length first)) out e all

-- a pair whose parts hold at a depth holds at the next
pub place_up : (n : ℕ) (first second : List Entry) (place : ℕ) (out : List ℕ) → parts_at first second place ≡ Some out
    → AllByRecursion (PlaceSubAt n first second) out → PlaceSubAt (suc n) first second place
place_up n first second place out e all = side_up n first second (is_straight first second place) place out e all

-- the entries of a number are there
row_in : (m n number : ℕ) → number < m * n → number / n < m
row_in m zero number inside = absurd (omega (arith, mul_comm m zero))
row_in m (suc n) number inside = (div-lt_iff_lt-mul {k = suc n} {x = number} {y = m} (omega arith)).1 inside

column_in : (m n number : ℕ) → number < m * n → number % n < n
column_in m zero number inside = absurd (omega (arith, mul_comm m zero))
column_in m (suc n) number inside = mod-lt number (omega arith)

-- a pair of entries of the tables that holds leaves parts that hold, one depth up
pub looked_down : (P : ℕ → Type 0) (lower upper : List Entry) (turned : Bool) (R Back : TyRef → TyRef → Type 0) → Down P lower upper turned R → Down P upper lower (not turned) Back
    → (i j : ℕ) → i < length lower → j < length upper → Rule R Back lower upper (shape lower (Index i)) (shape upper (Index j))
    → Found P (looked_up_parts lower upper turned (slice_get lower i) (slice_get upper j))
looked_down P lower upper turned R Back down back i j row column rule =
    let e = slice_get-get_or lower i (Opt (Index 0)) row in
    let f = slice_get-get_or upper j (Opt (Index 0)) column in
    subst (λ o. Found P (looked_up_parts lower upper turned o (slice_get upper j))) (sym e)
    (subst (λ o. Found P (looked_up_parts lower upper turned (Some (get_or lower i (Opt (Index 0)))) o)) (sym f)
    (entry_down P lower upper turned R Back down back _ _ (shape lower (Index i)) (shape upper (Index j)) (ap entry_shape e) (ap entry_shape f) rule))

side_down : (n : ℕ) (first second : List Entry) (b : Bool) (place : ℕ) → is_straight first second place ≡ b → place < 2 * (length first * length second)
    → SideSubAt (suc (suc n)) first second b place → Found (PlaceSubAt (suc n) first second) (side_parts first second b place)
side_down n first second true place e inside holds =
    let within = ltb-true place (length first * length second) e in
    looked_down _ first second false _ _ (straight_down n first second) (turned_down n first second) (place / length second) (place % length second)
    (row_in (length first) (length second) place within) (column_in (length first) (length second) place within) holds
side_down n first second false place e inside holds =
    let number = place - length first * length second in
    let within : number < length second * length first = omega (arith, mul_comm (length first) (length second), past place (length first * length second) e) in
    looked_down _ second first true _ _ (turned_down n first second) (straight_down n first second) (number / length first) (number % length first)
    (row_in (length second) (length first) number within) (column_in (length second) (length first) number within) holds

place_down_at : (n : ℕ) (first second : List Entry) (place : ℕ) → place < 2 * (length first * length second)
    → PlaceSubAt (suc (suc n)) first second place → Found (PlaceSubAt (suc n) first second) (parts_at first second place)
place_down_at n first second place inside holds = side_down n first second (is_straight first second place) place refl inside holds

-- nothing is to be shown at depth 0
pub none_at_zero : (first second : List Entry) (b : Bool) (place : ℕ) → SideSubAt zero first second b place
none_at_zero first second true place = tt
none_at_zero first second false place = tt

-- what holds of all at each depth
pub all_depths : (P : ℕ → ℕ → Type 0) (places : List ℕ) → ((n : ℕ) → AllByRecursion (P n) places) → AllByRecursion (λ place. (n : ℕ) → P n place) places
all_depths P [] all = tt
all_depths P (place ∷ places) all = (λ n. (all n).0, all_depths P places (λ n. (all n).1))

each : (P : ℕ → Type 0) → ((place : ℕ) → P place) → (places : List ℕ) → AllByRecursion P places
each P holds [] = tt
each P holds (place ∷ places) = (holds place, each P holds places)

at_depth : (P : ℕ → ℕ → Type 0) (parts : Option (List ℕ)) (out : List ℕ) → parts ≡ Some out → ((place : ℕ) → P zero place) → ((n : ℕ) → Found (P (suc n)) parts)
    → (n : ℕ) → AllByRecursion (P n) out
at_depth P parts out is start all zero = each (P zero) start out
at_depth P parts out is start all (suc n) = subst (AllByRecursion (P (suc n))) (some_same _ _ (sym (all n).1 ∙ is)) (all n).2

-- parts that are found at each depth are found at all of them
pub found_at_all : (P : ℕ → ℕ → Type 0) (parts : Option (List ℕ)) → ((place : ℕ) → P zero place) → ((n : ℕ) → Found (P (suc n)) parts)
    → Found (λ place. (n : ℕ) → P n place) parts
found_at_all P parts start all = ((all zero).0, (all zero).1, all_depths P (all zero).0 (at_depth P parts (all zero).0 (all zero).1 start all))

-- a pair that holds leaves parts that hold
pub place_down : (first second : List Entry) (place : ℕ) → place < 2 * (length first * length second) → PlaceSub first second place
    → Found (PlaceSub first second) (parts_at first second place)
place_down first second place inside holds =
    found_at_all (λ n place. PlaceSubAt n first second place) (parts_at first second place) (λ place. none_at_zero first second (is_straight first second place) place)
    (λ n. place_down_at n first second place inside (holds (suc (suc n))))

-- every part is the place of a pair of entries
pub each_straight : (first second : List Entry) → EachPair (λ place. place < 2 * (length first * length second)) first second false
each_straight first second i j row column =
    omega (arith, mul-add-lt i (length second) j (length first) row column, mul_comm (length first) (length second))

each_turned : (first second : List Entry) → EachPair (λ place. place < 2 * (length first * length second)) second first true
each_turned first second i j row column =
    omega (arith, mul-add-lt i (length first) j (length second) row column, mul_comm (length first) (length second))

looked_inside : (P : ℕ → Type 0) (lower upper : List Entry) (turned : Bool) → EachPair P lower upper turned → EachPair P upper lower (not turned)
    → (x y : Option Entry) (out : List ℕ) → looked_up_parts lower upper turned x y ≡ Some out → AllByRecursion P out
looked_inside P lower upper turned each back None y out e = cc
looked_inside P lower upper turned each back (Some x) None out e = cc
looked_inside P lower upper turned each back (Some x) (Some y) out e = keep_entry P lower upper turned each back x y out e

side_inside : (first second : List Entry) (b : Bool) (place : ℕ) (out : List ℕ) → side_parts first second b place ≡ Some out
    → AllByRecursion (λ place. place < 2 * (length first * length second)) out
side_inside first second true place out e =
    looked_inside _ first second false (each_straight first second) (each_turned first second) (slice_get first (place / length second)) (slice_get second (place % length second)) out e
side_inside first second false place out e =
    let number = place - length first * length second in
    looked_inside _ second first true (each_turned first second) (each_straight first second) (slice_get second (number / length first)) (slice_get first (number % length first)) out e

pub place_inside : (first second : List Entry) (place : ℕ) (out : List ℕ) → parts_at first second place ≡ Some out
    → AllByRecursion (λ place. place < 2 * (length first * length second)) out
place_inside first second place out e = side_inside first second (is_straight first second place) place out e

-- a pair that is not of two entries is below by the test
pub flat_is : (lower upper : List Entry) (a b : TyRef) → both_compound (shape lower a) (shape upper b) ≡ false → (part_free (shape lower a) (shape upper b) ≡ true) ↔ Sub lower a upper b
flat_is lower upper a b not_both = (λ e n. flat_up n lower upper a b e, λ holds. flat_down zero lower upper a b not_both (holds (suc zero)))

-- the pair at a place is below where the entries are
pub place_is : (first second : List Entry) (i j : ℕ) → i < length first → j < length second
    → PlaceSub first second (place_of first second false i j) ↔ Sub first (Index i) second (Index j)
place_is first second i j row column =
    (λ holds n. straight_to n first second i j row column (holds n), λ holds n. straight_from n first second i j row column (holds n))

-- the same, for tables and a place by other names
pub place_named : (first second first' second' : List Entry) (tables : List Entry × List Entry) (i j place : ℕ) → first' ≡ first → second' ≡ second → (first, second) ≡ tables
    → place ≡ place_of first second false i j → i < length tables.0 → j < length tables.1
    → PlaceSub first' second' place ↔ Sub tables.0 (Index i) tables.1 (Index j)
place_named first second first' second' tables i j place is is' view named row column =
    let row' = subst (λ (t : List Entry × List Entry). i < length t.0) (sym view) row in
    let column' = subst (λ (t : List Entry × List Entry). j < length t.1) (sym view) column in
    subst (λ (t : List Entry × List Entry). PlaceSub first' second' place ↔ Sub t.0 (Index i) t.1 (Index j)) view
    (subst (λ x. PlaceSub x second' place ↔ Sub first (Index i) second (Index j)) (sym is)
    (subst (λ y. PlaceSub first y place ↔ Sub first (Index i) second (Index j)) (sym is')
    (subst (λ c. PlaceSub first second c ↔ Sub first (Index i) second (Index j)) (sym named) (place_is first second i j row' column'))))

pub flat_named : (first second : List Entry) (tables : List Entry × List Entry) (a b : TyRef) (answer : Bool) → (first, second) ≡ tables
    → answer ≡ part_free (shape first a) (shape second b) → both_compound (shape first a) (shape second b) ≡ false → (answer ≡ true) ↔ Sub tables.0 a tables.1 b
flat_named first second tables a b answer view is not_both =
    let means = flat_is first second a b not_both in
    subst (λ (t : List Entry × List Entry). (answer ≡ true) ↔ Sub t.0 a t.1 b) view (λ e. means.0 (sym is ∙ e), λ holds. is ∙ means.1 holds)
