-- Values whose bytes are bytes, one more at a time; so what is printed of them says them.
use Rattle.std.proofs.Common.{◌≡◌, ℕ, ◌+◌, ◌≤◌, ◌<◌, List, [], ◌∷◌, ◌++◌, length, take, get_or, Option, sym, ap, subst, ◌∙◌}
use Rattle.std.specs.Prelude.{IsTrue}
use Rattle.cd_types.specs.IsTable.{is_table}
use Rattle.cd_types.specs.declared.entry.Entry.{Entry}
use Rattle.cd_types.specs.declared.entry.TyRef.{TyRef}
use Rattle.cd_names.specs.Names.{IdNames}
use Rattle.cd_codec.specs.declared.value.Value.{Value}
use Rattle.cd_codec.specs.AreValues.{HasTypes}
use Rattle.cd_codec.specs.Content.{Content, contents_of, parts_of}
use Rattle.cd_codec.specs.Measure.{nesting_each, number_each}
use Rattle.cd_codec.specs.View.{view, views, views_of_fields}
use Rattle.cd_text.specs.HoldsBytes.{HoldsBytes, HoldsBytesAll, HoldsBytesParts}
use Rattle.cd_plain.specs.Printed.{printed_with}
use Rattle.cd_text.specs.Whole.{Said}
use Rattle.cd_text.proofs.Written.{AreLabels, printed_says}
use Rattle.cd_plain.proofs.Pieces.{seen_more}

values_push : (vs : List Content) (v : Content) → HoldsBytesAll (contents_of vs) → HoldsBytes v → HoldsBytesAll (contents_of (vs ++ v ∷ []))
values_push [] v all one = (one, tt)
values_push (u ∷ vs) v all one = (all.0, values_push vs v all.1 one)

parts_push : (ps : List (ℕ × Content)) (p : ℕ × Content) → HoldsBytesParts (parts_of ps) → HoldsBytes p.1 → HoldsBytesParts (parts_of (ps ++ p ∷ []))
parts_push [] p all one = (one, tt)
parts_push (q ∷ ps) p all one = (all.0, parts_push ps p all.1 one)

pub value_held : (items : List Value) (i : ℕ) (x : Value) → i < length items → x ≡ get_or items i x → HoldsBytesAll (contents_of (views (take i items))) → HoldsBytes (view x) → HoldsBytesAll (contents_of (views (take (i + 1) items)))
value_held items i x below is all one =
    let more = seen_more view items i x below ∙ ap (λ (y : Value). views (take i items) ++ view y ∷ []) (sym is) in
    subst (λ vs. HoldsBytesAll (contents_of vs)) (sym more) (values_push (views (take i items)) (view x) all one)

pub field_held : (items : List (ℕ × Value)) (i : ℕ) (x : ℕ × Value) → i < length items → x ≡ get_or items i x → HoldsBytesParts (parts_of (views_of_fields (take i items))) → HoldsBytes (view x.1) → HoldsBytesParts (parts_of (views_of_fields (take (i + 1) items)))
field_held items i x below is all one =
    let more = seen_more (λ (f : ℕ × Value). (f.0, view f.1)) items i x below ∙ ap (λ (y : ℕ × Value). views_of_fields (take i items) ++ (y.0, view y.1) ∷ []) (sym is) in
    subst (λ ps. HoldsBytesParts (parts_of ps)) (sym more) (parts_push (views_of_fields (take i items)) (x.0, view x.1) all one)

-- what was printed says the values
pub printed_back : (names : Option IdNames) (table at : List Entry) (types : List TyRef) (expected : List Entry × List TyRef) (values : List Content) (bytes : List ℕ) → AreLabels names → IsTrue (is_table table) → table ≡ expected.0 → at ≡ expected.0 → types ≡ expected.1
    → bytes ≡ printed_with names at types values → HasTypes expected.0 expected.1 values → HoldsBytesAll (contents_of values) → nesting_each values ≤ 128 → number_each values ≤ 1000000 → Said expected.0 expected.1 values bytes
printed_back names table at types expected values bytes are formed same again kinds is typed holds deep many =
    let formed_is = subst (λ t. IsTrue (is_table t)) same formed in
    let bytes_are = is ∙ ap (λ t. printed_with names t types values) again ∙ ap (λ ts. printed_with names expected.0 ts values) kinds in
    subst (Said expected.0 expected.1 values) (sym bytes_are) (printed_says names expected.0 expected.1 values are formed_is typed holds deep many)
