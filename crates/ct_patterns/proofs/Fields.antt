-- The values of fields at places, from the last.
use Rattle.std.proofs.Common.{◌≡◌, ℕ, zero, suc, ◌-◌, ◌<◌, ◌≤◌, List, [], ◌∷◌, ◌++◌, length, map, drop, get_or, drop-cons, Option, Some, None, refl, ap, subst, ◌∙◌, arith}
use Rattle.std.specs.Prelude.{slice_get, option_map, reverse}
use Rattle.std.proofs.lemmas.List.{map_push, reverse-append}
use Rattle.std.proofs.lemmas.Option.{slice_get-map}
use Rattle.ic_base.specs.Reader.{◌>>=◌}
use Rattle.ic_base.proofs.Steps.{some_is}
use Rattle.cd_codec.specs.declared.value.Value.{Value}
use Rattle.cd_codec.specs.Content.{Content}
use Rattle.cd_codec.specs.View.{view, views_of_fields}
use Rattle.ct_patterns.specs.declared.step.Part.{Part}
use Rattle.ct_patterns.specs.Views.{part_view, waiting}
use Rattle.ct_patterns.specs.Meets.{fields_at}

abbrev nothing : Option (List Content)
nothing = None

bind_none : (found : Option (ℕ × Content)) → (found >>= λ field. nothing) ≡ nothing
bind_none None = refl
bind_none (Some x) = refl

-- where one is not there, no values are
pub absent : (places : List ℕ) (fields : List (ℕ × Content)) (k : ℕ) → fields_at (drop k places) fields ≡ None → fields_at places fields ≡ None
absent places fields zero e = e
absent [] fields (suc k) e = e
absent (p ∷ places) fields (suc k) e = rw (absent places fields k e) (bind_none (slice_get fields p))

pub no_field : (places : List ℕ) (index : ℕ) (fields : List (ℕ × Value)) (old : List Content) → 0 < index → index ≤ length places → slice_get fields (get_or places (index - 1) 0) ≡ None
    → nothing ≡ option_map (λ parts. parts ++ old) (fields_at places (views_of_fields fields))
no_field places index fields old some within none =
    let k = index - 1 in
    let there = drop-cons places k 0 (omega (arith, some, within)) in
    let gone : slice_get (views_of_fields fields) (get_or places k 0) ≡ None = slice_get-map (λ (f : ℕ × Value). (f.0, view f.1)) fields (get_or places k 0) ∙ ap (option_map (λ (f : ℕ × Value). (f.0, view f.1))) none in
    let all = absent places (views_of_fields fields) k (rw (there, gone) refl) in
    rw all refl

extended : (x : Content) (found : Option (List Content)) (old waiting : List Content) → Some waiting ≡ option_map (λ parts. parts ++ old) found
    → Some (x ∷ waiting) ≡ option_map (λ parts. parts ++ old) (option_map (λ parts. x ∷ parts) found)
extended x None old waiting e = absurd cc
extended x (Some parts) old waiting e = let h = some_is _ _ e in rw h refl

pub one_waiting : (parts : List Part) (p : Part) → waiting (parts ++ p ∷ []) ≡ part_view p ∷ waiting parts
one_waiting parts p = ap (λ (vs : List Content). reverse vs) (map_push part_view parts p) ∙ reverse-append (map part_view parts) (part_view p ∷ [])

-- one field more, before those that are added
pub one_field : (places : List ℕ) (index : ℕ) (fields : List (ℕ × Value)) (field : ℕ × Value) (p : Part) (next pushed : List Part) (old : List Content) → 0 < index → index ≤ length places
    → slice_get fields (get_or places (index - 1) 0) ≡ Some field → part_view p ≡ view field.1 → pushed ≡ next ++ p ∷ []
    → Some (waiting next) ≡ option_map (λ parts. parts ++ old) (fields_at (drop index places) (views_of_fields fields))
    → Some (waiting pushed) ≡ option_map (λ parts. parts ++ old) (fields_at (drop (index - 1) places) (views_of_fields fields))
one_field places index fields field p next pushed old some within found same e added =
    let k = index - 1 in
    let next_one : index ≡ suc k = omega (arith, some) in
    let there = drop-cons places k 0 (omega (arith, some, within)) in
    let at : slice_get (views_of_fields fields) (get_or places k 0) ≡ Some (field.0, view field.1) = slice_get-map (λ (f : ℕ × Value). (f.0, view f.1)) fields (get_or places k 0) ∙ ap (option_map (λ (f : ℕ × Value). (f.0, view f.1))) found in
    let before = subst (λ (i : ℕ). Some (waiting next) ≡ option_map (λ parts. parts ++ old) (fields_at (drop i places) (views_of_fields fields))) next_one added in
    rw (e, one_waiting next p, same, there, at) (extended (view field.1) (fields_at (drop (suc k) places) (views_of_fields fields)) old (waiting next) before)
