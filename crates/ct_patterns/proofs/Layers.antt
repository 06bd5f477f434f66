-- The parts of lists and records.
use Rattle.std.proofs.Common.{◌≡◌, ℕ, List, [], ◌∷◌, refl, sym, ap}
use Rattle.std.specs.Global.{Vec}
use Rattle.cd_codec.specs.declared.value.Value.{Value}
use Rattle.cd_codec.specs.declared.value.Value.TheVariants as values
use Rattle.cd_codec.specs.declared.value.Values.{roll-Values}
use Rattle.cd_codec.specs.declared.value.FieldValues.{roll-FieldValues}
use Rattle.cd_codec.specs.Content.{Content, Contents, no_content, content, Parts, no_part, part, contents_of, parts_of}
use Rattle.cd_codec.specs.View.{view, views, views_of_fields}
use Rattle.cd_codec.proofs.Views.{view-Seq, view-Rec}
use Rattle.ct_patterns.specs.Met.{items, fields, values_of, fields_of, layer}

pub values_are : (vs : List Content) → values_of (contents_of vs) ≡ vs
values_are [] = refl
values_are (v ∷ vs) = ap (λ (us : List Content). v ∷ us) (values_are vs)

pub contents_are : (vs : Contents) → contents_of (values_of vs) ≡ vs
contents_are no_content = refl
contents_are (content v vs) = ap (content v) (contents_are vs)

pub fields_are : (fs : List (ℕ × Content)) → fields_of (parts_of fs) ≡ fs
fields_are [] = refl
fields_are (f ∷ fs) = ap (λ (gs : List (ℕ × Content)). f ∷ gs) (fields_are fs)

pub parts_are : (ps : Parts) → parts_of (fields_of ps) ≡ ps
parts_are no_part = refl
parts_are (part id v ps) = ap (part id v) (parts_are ps)

pub list_layer : (v : Value) (inner : Vec Value) (held : List Value) → v ≡ values.Seq (roll-Values record { items = inner }) → held ≡ inner.items → items (views held) ≡ layer (view v)
list_layer v inner held is same = rw (is, same, view-Seq inner) (ap items (sym (values_are (views inner.items))))

pub record_layer : (v : Value) (inner : Vec (ℕ × Value)) (held : List (ℕ × Value)) → v ≡ values.Rec (roll-FieldValues record { items = inner }) → held ≡ inner.items → fields (views_of_fields held) ≡ layer (view v)
record_layer v inner held is same = rw (is, same, view-Rec inner) (ap fields (sym (fields_are (views_of_fields inner.items))))
