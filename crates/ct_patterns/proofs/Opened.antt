-- A value meets a step exactly where it can be opened by it.
use Rattle.std.proofs.Common.{◌≡◌, ℕ, List, [], ◌∷◌, length, map, Option, Some, None, refl, sym, ap, ◌∙◌, inl, inr}
use Rattle.std.specs.Prelude.{◌==◌, ◌⊎◌}
use Rattle.ic_base.proofs.Steps.{some_is, passed}
use Rattle.cd_codec.specs.Content.{Content, plain, blob, none, some, list, record_of, variant, contents_of, parts_of}
use Rattle.cd_codec.specs.View.{view}
use Rattle.ct_patterns.specs.declared.step.Step.{Step}
use Rattle.ct_patterns.specs.declared.step.Step.TheVariants.{Any, Bound, Is, Opt, Seq, Rec, Var}
use Rattle.ct_patterns.specs.Views.{byte}
use Rattle.ct_patterns.specs.Meets.{MeetsStep, fields_at}
use Rattle.ct_patterns.specs.Met.{layer, same_layer, counted, opened_opt, opened_seq, opened_rec, opened_var, opened, values_of, fields_of}
use Rattle.ct_patterns.proofs.Layers.{values_are, contents_are, fields_are, parts_are}
use Rattle.ct_patterns.proofs.Leaves.{same_whole, whole_same, no_blob, same_number, same_as_itself}

opt_is : (v : Content) (parts : List Content) → opened_opt (layer v) ≡ Some parts → (part : Content) × (v ≡ some part) × (parts ≡ part ∷ [])
opt_is (plain p) parts e = absurd cc
opt_is (blob s) parts e = absurd cc
opt_is none parts e = absurd cc
opt_is (some v) parts e = (v, refl, sym (some_is _ _ e))
opt_is (list vs) parts e = absurd cc
opt_is (record_of ps) parts e = absurd cc
opt_is (variant i v) parts e = absurd cc

-- as many as are counted
counted_is : (count : ℕ) (parts others : List Content) → counted count parts ≡ Some others → (parts ≡ others) × (length others ≡ count)
counted_is count parts others e = let h = passed (length parts == count) parts others e in (h.1, ap length (sym h.1) ∙ same_number (length parts) count h.0)

none_some : (found : Option (List Content)) (parts : List Content) → found ≡ None → found ≡ Some parts → ⊥
none_some None parts n e = absurd cc
none_some (Some x) parts n e = absurd cc

seq_is : (count : ℕ) (v : Content) (parts : List Content) → opened_seq count (layer v) ≡ Some parts
    → ((v ≡ list (contents_of parts)) ⊎ ((bytes : List ℕ) × (v ≡ blob bytes) × (parts ≡ map byte bytes))) × (length parts ≡ count)
seq_is count (plain p) parts e = absurd (none_some (opened_seq count (layer (plain p))) parts (rw (no_blob p) refl) e)
seq_is count (blob s) parts e = let h = counted_is count (map byte s) parts e in (inr (s, refl, sym h.0), h.1)
seq_is count none parts e = absurd cc
seq_is count (some v) parts e = absurd cc
seq_is count (list vs) parts e = let h = counted_is count (values_of vs) parts e in (inl (ap list (sym (contents_are vs) ∙ ap contents_of h.0)), h.1)
seq_is count (record_of ps) parts e = absurd cc
seq_is count (variant i v) parts e = absurd cc

rec_is : (places : List ℕ) (v : Content) (parts : List Content) → opened_rec places (layer v) ≡ Some parts → (fields : List (ℕ × Content)) × (v ≡ record_of (parts_of fields)) × (fields_at places fields ≡ Some parts)
rec_is places (plain p) parts e = absurd cc
rec_is places (blob s) parts e = absurd cc
rec_is places none parts e = absurd cc
rec_is places (some v) parts e = absurd cc
rec_is places (list vs) parts e = absurd cc
rec_is places (record_of ps) parts e = (fields_of ps, ap record_of (sym (parts_are ps)), e)
rec_is places (variant i v) parts e = absurd cc

var_is : (place : ℕ) (v : Content) (parts : List Content) → opened_var place (layer v) ≡ Some parts → (part : Content) × (v ≡ variant place part) × (parts ≡ part ∷ [])
var_is place (plain p) parts e = absurd cc
var_is place (blob s) parts e = absurd cc
var_is place none parts e = absurd cc
var_is place (some v) parts e = absurd cc
var_is place (list vs) parts e = absurd cc
var_is place (record_of ps) parts e = absurd cc
var_is place (variant i v) parts e = let h = passed (i == place) (v ∷ []) parts e in (v, ap (λ (k : ℕ). variant k v) (same_number i place h.0), sym h.1)

pub opened_meets : (step : Step) (v : Content) (parts : List Content) → opened step v ≡ Some parts → MeetsStep step v parts
opened_meets Any v parts e = sym (some_is _ _ e)
opened_meets (Bound name type) v parts e = sym (some_is _ _ e)
opened_meets (Is u) v parts e =
    let h = passed (same_layer (layer (view u)) (layer v)) [] parts e in
    let w = same_whole (view u) v h.0 in
    (w.0, w.1, sym h.1)
opened_meets Opt v parts e = opt_is v parts e
opened_meets (Seq count) v parts e = seq_is count v parts e
opened_meets (Rec places) v parts e = rec_is places.items.items v parts e
opened_meets (Var place) v parts e = var_is place v parts e

counted_all : (count : ℕ) (parts : List Content) → length parts ≡ count → counted count parts ≡ Some parts
counted_all count parts e = rw (sym e, same_as_itself (length parts)) refl

pub meets_opened : (step : Step) (v : Content) (parts : List Content) → MeetsStep step v parts → opened step v ≡ Some parts
meets_opened Any v parts m = rw m refl
meets_opened (Bound name type) v parts m = rw m refl
meets_opened (Is u) v parts m = rw (m.2, m.1, whole_same v m.0) refl
meets_opened Opt v parts m = rw (m.2, m.1) refl
meets_opened (Seq count) v parts m = elim m.0 [
  | inl is ↦ rw is (rw (values_are parts) (counted_all count parts m.1))
  | inr is ↦ rw is.1 (rw (sym is.2) (counted_all count parts m.1))
]
meets_opened (Rec places) v parts m = rw m.1 (rw (fields_are m.0) m.2)
meets_opened (Var place) v parts m = rw (m.2, m.1, same_as_itself place) refl
