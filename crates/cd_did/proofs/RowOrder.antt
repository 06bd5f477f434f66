-- The rows of an entry are the rows written, in order.
use Rattle.std.proofs.Common.{◌≡◌, ℕ, suc, ◌≤◌, Bool, true, false, List, [], ◌∷◌, map, refl, ◌∙◌, inl, inr, arith}
use Rattle.std.specs.Prelude.{◌&&◌, nat_eq, nat_lt, nat_le, bytes_eq, ◌^◌}
use Rattle.std.specs.List.{AllByRecursion, IsDistinct}
use Rattle.std.specs.Cmp.Lexicographic.{slice_cmp}
use Rattle.std.specs.Ordering.{is_lt, is_eq, nat_cmp}
use Rattle.std.specs.Str.{is_utf8}
use Rattle.std.specs.declared.cmp.Ordering.{Ordering}
use Rattle.std.specs.declared.cmp.Ordering.TheVariants.{Less}
use Rattle.std.proofs.lemmas.Cmp.{nat_cmp_total, nat_list_cmp_total}
use Rattle.std.proofs.lemmas.Map.Text.{is_eq-slice_cmp}
use Rattle.cd_types.specs.declared.entry.TyRef.{TyRef}
use Rattle.cd_types.specs.IsOrdered.{ids_rise_from, names_rise, names_rise_after}
use Rattle.cd_types.proofs.FaultLemmas.{both_true}
use Rattle.cd_sub.specs.Rising.{Rising}
use Rattle.cd_did.specs.Sorted.{AreSorted}
use Rattle.cd_did.specs.Entries.{AreNamed}
use Rattle.cd_did.specs.InterfaceOf.{in_order}
use Rattle.cd_did.proofs.SortLemmas.{rise_above, sorted_distinct}
use Rattle.cd_did.proofs.NameLemmas.{rise_behind, sorted_distinct as named_distinct}
use Rattle.cd_did.proofs.InOrder.{Apart, in_order_is}
use Rattle.cd_tokens.proofs.Fronts.{true_or_false}

-- what holds of all labels
of_labels : {K : Type 0} (P Q : K → Type 0) → ((x : K) → P x → Q x) → (rows : List (K × TyRef)) → AllByRecursion P (map (λ (r : K × TyRef). r.0) rows) → AllByRecursion (λ (r : K × TyRef). Q r.0) rows
of_labels P Q law [] all = tt
of_labels P Q law (x ∷ rows) all = (law x.0 all.0, of_labels P Q law rows all.1)

-- labels that differ by one test differ in order
parted : {K : Type 0} (cmp : K → K → Ordering) (eq : K → K → Bool) → ((x y : K) → eq x y ≡ false → is_eq (cmp x y) ≡ false) → (rows : List (K × TyRef)) → IsDistinct eq (map (λ (r : K × TyRef). r.0) rows) → Apart cmp rows
unfolding IsDistinct
parted cmp eq law [] distinct = tt
parted {K} cmp eq law (x ∷ rows) distinct = (of_labels (λ (y : K). eq x.0 y ≡ false) (λ (y : K). is_eq (cmp x.0 y) ≡ false) (λ y e. law x.0 y e) rows distinct.0, parted cmp eq law rows distinct.1)

-- ---- ids

less_is : (x y : ℕ) → suc x ≤ y → nat_cmp x y ≡ Less
less_is x y le = let t : nat_lt x y ≡ true = grind (arith, le) in rw t refl

other_is : (x y : ℕ) → nat_eq x y ≡ false → is_eq (nat_cmp x y) ≡ false
other_is x y other = elim (true_or_false (nat_lt x y)) [ inl less ↦ rw less refl | inr more ↦ rw (more, other) refl ]

ids_rising : (least : ℕ) (rows : List (ℕ × TyRef)) → ids_rise_from least (map (λ (r : ℕ × TyRef). r.0) rows) ≡ true → Rising nat_cmp rows
ids_rising least [] e = tt
ids_rising least (x ∷ rows) e =
    let parts = both_true (nat_le least x.0 && nat_lt x.0 (2 ^ 32)) (ids_rise_from (suc x.0) (map (λ (r : ℕ × TyRef). r.0) rows)) e in
    (of_labels (λ (y : ℕ). suc x.0 ≤ y) (λ (y : ℕ). nat_cmp x.0 y ≡ Less) (λ y le. less_is x.0 y le) rows (rise_above (suc x.0) (map (λ (r : ℕ × TyRef). r.0) rows) parts.1), ids_rising (suc x.0) rows parts.1)

pub sorted_is : (rows sorted : List (ℕ × TyRef)) → AreSorted rows sorted → sorted ≡ in_order nat_cmp rows
sorted_is rows sorted are = in_order_is nat_cmp nat_cmp_total rows sorted (parted nat_cmp nat_eq other_is rows (sorted_distinct rows sorted are)) (ids_rising 0 sorted are.1) are.0

-- ---- names

rising_after : (x : List ℕ × TyRef) (rows : List (List ℕ × TyRef)) → names_rise_after x.0 (map (λ (r : List ℕ × TyRef). r.0) rows) ≡ true → Rising (slice_cmp nat_cmp) (x ∷ rows)
rising_after x [] e = (tt, tt)
rising_after x (y ∷ rows) e =
    let parts = both_true (is_lt (slice_cmp nat_cmp x.0 y.0) && is_utf8 y.0) (names_rise_after y.0 (map (λ (r : List ℕ × TyRef). r.0) rows)) e in
    (of_labels (λ (n : List ℕ). slice_cmp nat_cmp x.0 n ≡ Less) (λ (n : List ℕ). slice_cmp nat_cmp x.0 n ≡ Less) (λ n h. h) (y ∷ rows) (rise_behind x.0 (map (λ (r : List ℕ × TyRef). r.0) (y ∷ rows)) e), rising_after y rows parts.1)

names_rising : (rows : List (List ℕ × TyRef)) → names_rise (map (λ (r : List ℕ × TyRef). r.0) rows) ≡ true → Rising (slice_cmp nat_cmp) rows
names_rising [] e = tt
names_rising (x ∷ rows) e = rising_after x rows (both_true (is_utf8 x.0) (names_rise_after x.0 (map (λ (r : List ℕ × TyRef). r.0) rows)) e).1

pub named_is : (rows sorted : List (List ℕ × TyRef)) → AreNamed rows sorted → sorted ≡ in_order (slice_cmp nat_cmp) rows
named_is rows sorted are =
    in_order_is (slice_cmp nat_cmp) nat_list_cmp_total rows sorted
    (parted (slice_cmp nat_cmp) bytes_eq (λ x y other. is_eq-slice_cmp x y ∙ other) rows (named_distinct rows sorted are)) (names_rising sorted are.1) are.0
