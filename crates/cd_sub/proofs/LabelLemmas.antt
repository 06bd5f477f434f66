-- looking up a label in a list whose labels rise, from a place on
use Rattle.std.proofs.Common.{◌≡◌, ℕ, zero, suc, ◌+◌, ◌<◌, true, false, List, [], ◌∷◌, Some, None, Ordering, length, drop, get_or, refl, sym, ◌∙◌, ap, subst}
use Rattle.std.proofs.lemmas.List.{drop_more}
use Rattle.std.proofs.lemmas.Cmp.{alike_right}
use Rattle.std.specs.List.{AllByRecursion}
use Rattle.std.specs.Cmp.{IsTotalOrder}
use Rattle.std.specs.Ordering.{is_eq, is_gt, ordering_reverse}
use Rattle.std.specs.declared.cmp.Ordering.TheVariants.{Less, Equal, Greater}
use Rattle.cd_types.specs.declared.entry.TyRef.{TyRef}
use Rattle.cd_sub.specs.Rising.{Rising}
use Rattle.cd_sub.specs.TypeUnder.{type_under}

-- a list of rising labels has rising labels from each place on
pub rising_drop : {K : Type 0} (cmp : K → K → Ordering) (fields : List (K × TyRef)) (n : ℕ) → Rising cmp fields → Rising cmp (drop n fields)
rising_drop cmp fields zero rising = rising
rising_drop cmp [] (suc n) rising = tt
rising_drop cmp (field ∷ fields) (suc n) rising = rising_drop cmp fields n rising.1

-- a label that is not the first one is looked up in the rest
pub skip : {K : Type 0} (cmp : K → K → Ordering) (label : K) (field : K × TyRef) (fields : List (K × TyRef)) → is_eq (cmp field.0 label) ≡ false
    → type_under cmp label (field ∷ fields) ≡ type_under cmp label fields
skip cmp label field fields other = rw other refl

-- a label above the first one, and so other than it
is_other : (o : Ordering) → o ≡ Less → is_eq o ≡ false
is_other o less = rw less refl

above_is_other : (o : Ordering) → o ≡ Greater → is_eq o ≡ false
above_is_other o greater = rw greater refl

-- below id is below what id is not above
below_both : {K : Type 0} {cmp : K → K → Ordering} (order : IsTotalOrder cmp) (key id label : K) (o : Ordering) → cmp id label ≡ o
    → cmp key id ≡ Less → is_gt o ≡ false → cmp key label ≡ Less
below_both order key id label Less is less upto = order.trans key id label less is
below_both order key id label Equal is less upto = sym (alike_right order id label key is) ∙ less
below_both order key id label Greater is less upto = absurd (let e : true ≡ false = upto in cc)

-- a smaller first label is passed
pub passed : {K : Type 0} {cmp : K → K → Ordering} (order : IsTotalOrder cmp) (fields : List (K × TyRef)) (at : ℕ) (d : K × TyRef) (id label : K)
    → at < length fields → cmp (get_or fields at d).0 id ≡ Less → is_gt (cmp id label) ≡ false
    → type_under cmp label (drop (at + 1) fields) ≡ type_under cmp label (drop at fields)
passed {K} {cmp} order fields at d id label inside less upto =
    let other = is_other _ (below_both order _ id label (cmp id label) refl less upto) in
    sym (ap (type_under cmp label) (drop_more fields at d inside) ∙ skip cmp label _ _ other)

-- the label sought is found
pub found : {K : Type 0} (cmp : K → K → Ordering) (fields : List (K × TyRef)) (at : ℕ) (d : K × TyRef) (id : K)
    → at < length fields → cmp (get_or fields at d).0 id ≡ Equal → type_under cmp id (drop at fields) ≡ Some (get_or fields at d).1
found cmp fields at d id inside equal = ap (type_under cmp id) (drop_more fields at d inside) ∙ rw equal refl

-- and is passed by greater ones
pub found_passed : {K : Type 0} {cmp : K → K → Ordering} (order : IsTotalOrder cmp) (fields : List (K × TyRef)) (at : ℕ) (d : K × TyRef) (id label : K)
    → at < length fields → cmp (get_or fields at d).0 id ≡ Equal → cmp id label ≡ Less
    → type_under cmp label (drop (at + 1) fields) ≡ type_under cmp label (drop at fields)
found_passed {K} {cmp} order fields at d id label inside equal less =
    let other = is_other _ (order.congr _ id label equal ∙ less) in
    sym (ap (type_under cmp label) (drop_more fields at d inside) ∙ skip cmp label _ _ other)

greater_back : {K : Type 0} {cmp : K → K → Ordering} (order : IsTotalOrder cmp) (x y : K) → cmp x y ≡ Greater → cmp y x ≡ Less
greater_back order x y greater = order.antisymm y x ∙ ap ordering_reverse greater

less_back : {K : Type 0} {cmp : K → K → Ordering} (order : IsTotalOrder cmp) (x y : K) → cmp x y ≡ Less → cmp y x ≡ Greater
less_back order x y less = order.antisymm y x ∙ ap ordering_reverse less

-- among labels that are all above, one is not found
none_above : {K : Type 0} {cmp : K → K → Ordering} (order : IsTotalOrder cmp) (key id : K) (fields : List (K × TyRef))
    → cmp id key ≡ Less → AllByRecursion (λ later. cmp key later.0 ≡ Less) fields → type_under cmp id fields ≡ None
none_above order key id [] less above = refl
none_above {K} {cmp} order key id (field ∷ fields) less above =
    let other = above_is_other _ (less_back order id field.0 (order.trans id key field.0 less above.0)) in
    skip cmp id field fields other ∙ none_above order key id fields less above.1

-- a first label above the one sought
pub absent : {K : Type 0} {cmp : K → K → Ordering} (order : IsTotalOrder cmp) (fields : List (K × TyRef)) (at : ℕ) (d : K × TyRef) (id : K)
    → at < length fields → Rising cmp fields → cmp (get_or fields at d).0 id ≡ Greater → type_under cmp id (drop at fields) ≡ None
absent {K} {cmp} order fields at d id inside rising greater =
    let split = drop_more fields at d inside in
    let rises = subst (Rising cmp) split (rising_drop cmp fields at rising) in
    ap (type_under cmp id) split ∙ skip cmp id _ _ (above_is_other _ greater) ∙ none_above order _ id _ (greater_back order _ id greater) rises.0
