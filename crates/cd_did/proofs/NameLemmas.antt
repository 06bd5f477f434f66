-- Names that rise, and names that differ.
use Rattle.std.proofs.Common.{◌≡◌, ℕ, suc, ◌+◌, ◌<◌, true, false, List, [], ◌∷◌, length, map, get_or, refl, sym, ap, subst, ◌∙◌, inl, inr, arith}
use Rattle.std.specs.Prelude.{◌&&◌, bytes_eq}
use Rattle.std.specs.List.{list_all, IsDistinct, AllByRecursion}
use Rattle.std.specs.List.Sorted.{IsPermutation, IsSortedBy}
use Rattle.std.specs.Cmp.Lexicographic.{slice_cmp}
use Rattle.std.specs.Ordering.{is_lt, is_eq, nat_cmp, ordering_reverse}
use Rattle.std.specs.declared.cmp.Ordering.{Ordering}
use Rattle.std.specs.declared.cmp.Ordering.TheVariants.{Less, Equal, Greater}
use Rattle.std.specs.Str.{is_utf8}
use Rattle.std.proofs.lemmas.Cmp.{nat_list_cmp_total}
use Rattle.std.proofs.lemmas.List.Sorted.{IsPermutation-map, IsPermutation-sym}
use Rattle.std.proofs.lemmas.Map.Keys.{IsDistinct-IsPermutation}
use Rattle.std.proofs.lemmas.Map.Text.{is_eq-slice_cmp}
use Rattle.std.proofs.lemmas.Slice.Eq.{bytes_eq-Decides}
use Rattle.cd_types.specs.declared.entry.TyRef.{TyRef}
use Rattle.cd_types.specs.IsOrdered.{names_rise, names_rise_after}
use Rattle.cd_types.proofs.FaultLemmas.{both_true}
use Rattle.cd_grammar.specs.declared.written.Part.{Part}
use Rattle.cd_did.specs.Faults.{Definitions}
use Rattle.cd_did.specs.Sorted.{row}
use Rattle.cd_did.specs.Entries.{AreNamed}
use Rattle.cd_tokens.proofs.Fronts.{true_or_false}

abbrev Row : Type 0
Row = List ℕ × TyRef

abbrev names : List Row → List (List ℕ)
names rows = map (λ (r : Row). r.0) rows

abbrev cmp : List ℕ → List ℕ → Ordering
cmp = slice_cmp nat_cmp

lt_is : (o : Ordering) → is_lt o ≡ true → o ≡ Less
lt_is Less e = refl
lt_is Equal e = absurd cc
lt_is Greater e = absurd cc

is_less : (o p : Ordering) → p ≡ ordering_reverse o → is_lt p ≡ false → is_eq o ≡ false → is_lt o ≡ true
is_less Less p back not_less not_equal = refl
is_less Equal p back not_less not_equal = absurd cc
is_less Greater p back not_less not_equal = let f : true ≡ false = sym (ap is_lt back) ∙ not_less in absurd cc

flips : (x y : List ℕ) → bytes_eq x y ≡ bytes_eq y x
flips x y = elim (true_or_false (bytes_eq x y)) [
  | inl same ↦ same ∙ sym ((bytes_eq-Decides y x).1 (sym ((bytes_eq-Decides x y).0 same)))
  | inr other ↦ elim (true_or_false (bytes_eq y x)) [
    | inl back ↦ let f : true ≡ false = sym ((bytes_eq-Decides x y).1 (sym ((bytes_eq-Decides y x).0 back))) ∙ other in absurd cc
    | inr also ↦ other ∙ sym also
  ]
]

-- ---- names that rise differ

abbrev pub Behind : List ℕ → List (List ℕ) → Type 0
Behind x ys = AllByRecursion (λ y. cmp x y ≡ Less) ys

behind_more : (x y : List ℕ) (ys : List (List ℕ)) → cmp x y ≡ Less → Behind y ys → Behind x ys
behind_more x y [] less behind = tt
behind_more x y (z ∷ ys) less behind = (nat_list_cmp_total.trans x y z less behind.0, behind_more x y ys less behind.1)

pub rise_behind : (last : List ℕ) (ys : List (List ℕ)) → names_rise_after last ys ≡ true → Behind last ys
rise_behind last [] e = tt
rise_behind last (y ∷ ys) e =
    let parts = both_true (is_lt (cmp last y) && is_utf8 y) (names_rise_after y ys) e in
    let less = lt_is (cmp last y) (both_true (is_lt (cmp last y)) (is_utf8 y) parts.0).0 in
    (less, behind_more last y ys less (rise_behind y ys parts.1))

behind_differ : (x : List ℕ) (ys : List (List ℕ)) → Behind x ys → AllByRecursion (λ y. bytes_eq x y ≡ false) ys
behind_differ x [] behind = tt
behind_differ x (y ∷ ys) behind = (sym (is_eq-slice_cmp x y) ∙ ap is_eq behind.0, behind_differ x ys behind.1)

after_distinct : (last : List ℕ) (ys : List (List ℕ)) → names_rise_after last ys ≡ true → IsDistinct bytes_eq (last ∷ ys)
unfolding IsDistinct
after_distinct last [] e = (tt, tt)
after_distinct last (y ∷ ys) e =
    let parts = both_true (is_lt (cmp last y) && is_utf8 y) (names_rise_after y ys) e in
    (behind_differ last (y ∷ ys) (rise_behind last (y ∷ ys) e), after_distinct y ys parts.1)

rise_distinct : (ys : List (List ℕ)) → names_rise ys ≡ true → IsDistinct bytes_eq ys
unfolding IsDistinct
rise_distinct [] e = tt
rise_distinct (y ∷ ys) e = after_distinct y ys (both_true (is_utf8 y) (names_rise_after y ys) e).1

pub sorted_distinct : (rows sorted : List (List ℕ × TyRef)) → AreNamed rows sorted → IsDistinct bytes_eq (map (λ (r : List ℕ × TyRef). r.0) rows)
sorted_distinct rows sorted are =
    IsDistinct-IsPermutation bytes_eq flips (names sorted) (names rows) (IsPermutation-sym (names rows) (names sorted) (IsPermutation-map (λ (r : Row). r.0) rows sorted are.0)) (rise_distinct (names sorted) are.1)

-- ---- names in order that differ rise

head_apart : (x : List ℕ) (xs : List (List ℕ)) → IsDistinct bytes_eq (x ∷ xs) → AllByRecursion (λ y. bytes_eq x y ≡ false) xs × IsDistinct bytes_eq xs
unfolding IsDistinct
head_apart x xs d = d

abbrev InOrder : List Row → Type 0
InOrder rows = (k : ℕ) (d : Row) → k + 1 < length rows → is_lt (cmp (get_or rows (k + 1) d).0 (get_or rows k d).0) ≡ false

after_rise : (x : Row) (rows : List Row) → InOrder (x ∷ rows) → IsDistinct bytes_eq (names (x ∷ rows)) → list_all is_utf8 (names rows) ≡ true → names_rise_after x.0 (names rows) ≡ true
after_rise x [] order distinct utf8 = refl
after_rise x (y ∷ rows) order distinct utf8 =
    let apart = head_apart x.0 (names (y ∷ rows)) distinct in
    let u = both_true (is_utf8 y.0) (list_all is_utf8 (names rows)) utf8 in
    let not_less : is_lt (cmp y.0 x.0) ≡ false = order 0 x (omega arith) in
    let other = apart.0 in
    let not_equal : is_eq (cmp x.0 y.0) ≡ false = is_eq-slice_cmp x.0 y.0 ∙ other.0 in
    let less : is_lt (cmp x.0 y.0) ≡ true = is_less (cmp x.0 y.0) (cmp y.0 x.0) (nat_list_cmp_total.antisymm y.0 x.0) not_less not_equal in
    let more = after_rise y rows (λ k d below.
    let n : suc k + 1 ≡ suc (k + 1) = omega arith in
    subst (λ m. is_lt (cmp (get_or (x ∷ y ∷ rows) m d).0 (get_or (y ∷ rows) k d).0) ≡ false) n (order (suc k) d (omega (arith, below)))) apart.1 u.1 in
    rw (less, u.0, more) refl

rise_sorted : (rows : List Row) → InOrder rows → IsDistinct bytes_eq (names rows) → list_all is_utf8 (names rows) ≡ true → names_rise (names rows) ≡ true
rise_sorted [] order distinct utf8 = refl
rise_sorted (x ∷ rows) order distinct utf8 =
    let u = both_true (is_utf8 x.0) (list_all is_utf8 (names rows)) utf8 in
    let more = after_rise x rows order distinct u.1 in
    rw (u.0, more) refl

pub no_rise : (rows sorted : List (List ℕ × TyRef)) → IsPermutation rows sorted → IsSortedBy (λ (x y : List ℕ × TyRef). is_lt (slice_cmp nat_cmp x.0 y.0)) sorted → list_all is_utf8 (map (λ (r : List ℕ × TyRef). r.0) sorted) ≡ true → names_rise (map (λ (r : List ℕ × TyRef). r.0) sorted) ≡ false
    → IsDistinct bytes_eq (map (λ (r : List ℕ × TyRef). r.0) rows) → ⊥
no_rise rows sorted moved up utf8 fails distinct =
    let apart = IsDistinct-IsPermutation bytes_eq flips (names rows) (names sorted) (IsPermutation-map (λ (r : Row). r.0) rows sorted moved) distinct in
    let holds = rise_sorted sorted (λ k d below. up k d (omega arith) below) apart utf8 in
    let g : true ≡ false = sym holds ∙ fails in
    absurd cc

-- ---- rows of methods

names_of_rows : (defs : Definitions) (ends : List ℕ) (methods : List (List ℕ × Part)) → map (λ (r : List ℕ × TyRef). r.0) (map (row defs ends) methods) ≡ map (λ (m : List ℕ × Part). m.0) methods
names_of_rows defs ends [] = refl
names_of_rows defs ends (m ∷ methods) = ap (λ (xs : List (List ℕ)). m.0 ∷ xs) (names_of_rows defs ends methods)

same_names : (defs : Definitions) (ends : List ℕ) (methods : List (List ℕ × Part)) (rows : List (List ℕ × TyRef)) → rows ≡ map (row defs ends) methods → map (λ (r : List ℕ × TyRef). r.0) rows ≡ map (λ (m : List ℕ × Part). m.0) methods
same_names defs ends methods rows is = ap (λ (rs : List (List ℕ × TyRef)). map (λ (r : List ℕ × TyRef). r.0) rs) is ∙ names_of_rows defs ends methods

pub made_names : (defs : Definitions) (ends : List ℕ) (methods : List (List ℕ × Part)) (rows sorted : List (List ℕ × TyRef)) → rows ≡ map (row defs ends) methods → AreNamed rows sorted → AreNamed (map (row defs ends) methods) sorted × IsDistinct bytes_eq (map (λ m. m.0) methods)
made_names defs ends methods rows sorted is are = (subst (λ (rs : List (List ℕ × TyRef)). AreNamed rs sorted) is are, subst (λ (xs : List (List ℕ)). IsDistinct bytes_eq xs) (same_names defs ends methods rows is) (sorted_distinct rows sorted are))

pub no_names : (defs : Definitions) (ends : List ℕ) (methods : List (List ℕ × Part)) (rows : List (List ℕ × TyRef)) → rows ≡ map (row defs ends) methods → (IsDistinct bytes_eq (map (λ r. r.0) rows) → ⊥) → IsDistinct bytes_eq (map (λ m. m.0) methods) → ⊥
no_names defs ends methods rows is never are = never (subst (λ (xs : List (List ℕ)). IsDistinct bytes_eq xs) (sym (same_names defs ends methods rows is)) are)
