-- the steps of the loops that find parts
use Rattle.std.proofs.Common.{◌≡◌, ℕ, ◌+◌, ◌<◌, List, [], ◌∷◌, Option, Some, None, Ordering, length, drop, get_or, refl, sym, ◌∙◌, ap, subst}
use Rattle.std.proofs.lemmas.List.{drop_more}
use Rattle.std.specs.List.{AllByRecursion}
use Rattle.std.specs.Option.{option_and_then}
use Rattle.std.specs.declared.cmp.Ordering.TheVariants.{Less}
use Rattle.cd_types.specs.declared.entry.TyRef.{TyRef}
use Rattle.cd_sub.specs.Rising.{Rising}
use Rattle.cd_sub.specs.TypeUnder.{type_under}
use Rattle.cd_sub.specs.Parts.{labelled_parts}
use Rattle.cd_sub.proofs.LabelLemmas.{rising_drop}
use Rattle.cd_sub.proofs.OrderLemmas.{all_map}

-- what follows a value
then_same : {A B : Type 0} (f g : A → Option B) → ((x : A) → f x ≡ g x) → (o : Option A) → option_and_then f o ≡ option_and_then g o
then_same f g same None = refl
then_same f g same (Some x) = same x

-- labels that are all found alike leave the same parts
same_parts : {K : Type 0} (cmp : K → K → Ordering) (part : Option TyRef → TyRef → List ℕ → Option (List ℕ)) (others rest fields : List (K × TyRef))
    → AllByRecursion (λ field. type_under cmp field.0 others ≡ type_under cmp field.0 rest) fields
    → (found : List ℕ) → labelled_parts cmp part others fields found ≡ labelled_parts cmp part rest fields found
same_parts cmp part others rest [] same found = refl
same_parts cmp part others rest (field ∷ fields) same found =
    ap (λ type. option_and_then (λ found. labelled_parts cmp part others fields found) (part type field.1 found)) same.0
    ∙ then_same (λ found. labelled_parts cmp part others fields found) (λ found. labelled_parts cmp part rest fields found) (same_parts cmp part others rest fields same.1) (part (type_under cmp field.0 rest) field.1 found)

-- a part that was found, with the rest of the others searched from a place on
pub part_step : {K : Type 0} (cmp : K → K → Ordering) (part : Option TyRef → TyRef → List ℕ → Option (List ℕ)) (others fields : List (K × TyRef)) (at next k : ℕ) (d : K × TyRef) (found more : List ℕ)
    → k < length fields → Rising cmp fields
    → ((label : K) → cmp (get_or fields k d).0 label ≡ Less → type_under cmp label (drop next others) ≡ type_under cmp label (drop at others))
    → part (type_under cmp (get_or fields k d).0 (drop at others)) (get_or fields k d).1 found ≡ Some more
    → labelled_parts cmp part (drop next others) (drop (k + 1) fields) more ≡ labelled_parts cmp part (drop at others) (drop k fields) found
part_step cmp part others fields at next k d found more inside rising greater found_more =
    let split = drop_more fields k d inside in
    let rises = subst (Rising cmp) split (rising_drop cmp fields k rising) in
    same_parts cmp part (drop next others) (drop at others) (drop (k + 1) fields) (all_map _ _ (λ later less. greater later.0 less) (drop (k + 1) fields) rises.0) more
    ∙ sym (ap (option_and_then (λ found. labelled_parts cmp part (drop at others) (drop (k + 1) fields) found)) found_more)
    ∙ sym (ap (λ fs. labelled_parts cmp part (drop at others) fs found) split)

-- the same where the field and its label were read
pub read_step : {K : Type 0} (cmp : K → K → Ordering) (part : Option TyRef → TyRef → List ℕ → Option (List ℕ)) (others fields : List (K × TyRef)) (at next k : ℕ) (d field : K × TyRef) (label : K) (type : Option TyRef) (found more : List ℕ)
    → k < length fields → Rising cmp fields → get_or fields k d ≡ field → label ≡ field.0
    → type ≡ type_under cmp label (drop at others)
    → ((later : K) → cmp label later ≡ Less → type_under cmp later (drop next others) ≡ type_under cmp later (drop at others))
    → part type field.1 found ≡ Some more
    → labelled_parts cmp part (drop next others) (drop (k + 1) fields) more ≡ labelled_parts cmp part (drop at others) (drop k fields) found
read_step {K} cmp part others fields at next k d field label type found more inside rising is label_is type_is greater found_more =
    let key : (get_or fields k d).0 ≡ label = ap (λ (f : K × TyRef). f.0) is ∙ sym label_is in
    part_step cmp part others fields at next k d found more inside rising
    (λ later less. greater later (sym (ap (λ l. cmp l later) key) ∙ less))
    (ap (λ l. part (type_under cmp l (drop at others)) (get_or fields k d).1 found) key
    ∙ ap (λ (f : K × TyRef). part (type_under cmp label (drop at others)) f.1 found) is
    ∙ ap (λ t. part t field.1 found) (sym type_is) ∙ found_more)
