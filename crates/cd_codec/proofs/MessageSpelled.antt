-- What is written for a message is that message.
use Rattle.std.proofs.Common.{◌≡◌, ℕ, ◌≤◌, true, List, [], ◌∷◌, length, drop, refl, sym, ap, ◌∙◌, inl, inr}
use Rattle.std.specs.Prelude.{nat_lt}
use Rattle.std.specs.List.{flat_map}
use Rattle.std.proofs.lemmas.Bool.{lt-ltb, cases_lt}
use Rattle.std.proofs.lemmas.Option.{slice_get_past}
use Rattle.std.proofs.lemmas.List.{drop_at}
use Rattle.cd_types.specs.declared.entry.TyRef.{TyRef}
use Rattle.cd_types.specs.declared.entry.TyRef.TheVariants.{Prim, Index}
use Rattle.cd_types.specs.declared.entry.Entry.{Entry}
use Rattle.cd_types.specs.IsInside.{is_inside}
use Rattle.cd_types.specs.IsTable.{is_table}
use Rattle.cd_types.specs.Shape.{compound, dangling, entry_shape, shape}
use Rattle.cd_codec.specs.Content.{Content, plain, blob, none, some, list, record_of, variant}
use Rattle.cd_codec.specs.Wire.{Wire}
use Rattle.cd_codec.specs.AreValues.{WireEach, HasTypes, AreValues}
use Rattle.cd_codec.specs.Measure.{nesting_each, number_each}
use Rattle.cd_codec.specs.IsHeader.{are_inside}
use Rattle.cd_codec.specs.Spelling.{spelling}
use Rattle.cd_codec.specs.HeaderSpelling.{header_spelling}
use Rattle.cd_codec.specs.Message.{message_spelling, IsMessage}
use Rattle.cd_codec.proofs.ValueAgain.{not_dangling}
use Rattle.cd_codec.proofs.ValueSpelled.{each_spelled}
use Rattle.cd_codec.proofs.HeaderSpelled.{Few, few_front, header_spelled}

different : (entry : Entry) → dangling ≡ compound entry → ⊥
different entry e = cc

-- no value has a type that names nothing
no_value : (table : List Entry) (type : TyRef) (v : Content) (bytes : List ℕ) → shape table type ≡ dangling → Wire table type v bytes → ⊥
no_value table type (plain p) bytes e w = not_dangling p (rw e at w.0)
no_value table type (blob s) bytes e w = different _ (sym e ∙ w.1)
no_value table type none bytes e w = different _ (sym e ∙ w.1)
no_value table type (some v) bytes e w = different _ (sym e ∙ w.1)
no_value table type (list vs) bytes e w = different _ (sym e ∙ w.1)
no_value table type (record_of ps) bytes e w = different _ (sym e ∙ w.1)
no_value table type (variant i v) bytes e w = different _ (sym e ∙ w.1)

-- past the end of a list is nothing
inside_or_dangling : (table : List Entry) (i : ℕ) → (shape table (Index i) ≡ dangling → ⊥) → nat_lt i (length table) ≡ true
inside_or_dangling table i named =
    elim (cases_lt i (length table)) [
      | inl below ↦ lt-ltb i (length table) below
      | inr past ↦ absurd (named (ap entry_shape (slice_get_past table i past)))
    ]

type_inside : (table : List Entry) (type : TyRef) (v : Content) (bytes : List ℕ) → Wire table type v bytes → is_inside (length table) type ≡ true
type_inside table (Prim p) v bytes w = refl
type_inside table (Index i) v bytes w = inside_or_dangling table i (λ e. no_value table (Index i) v bytes e w)

types_inside : (table : List Entry) (types : List TyRef) (values : List Content) (bytes : List ℕ) → WireEach table types values bytes → are_inside (length table) types ≡ true
types_inside table types [] bytes w = rw w.0 refl
types_inside table types (v ∷ values) bytes w = rw (w.2, type_inside table w.0 v w.3 w.6, types_inside table w.1 values w.4 w.7) refl

-- what is written for values of these types is a message
pub message_spelled : (table : List Entry) (types : List TyRef) (values : List Content) → is_table table ≡ true → length types ≤ 10000 → HasTypes table types values → Few (message_spelling table types values)
    → IsMessage table types values (message_spelling table types values)
message_spelled table types values well short typed few = record {
  header = header_spelling table types;
  rest = flat_map spelling values;
  whole = refl;
  begins = header_spelled table types well short (types_inside table types values typed.0 typed.1) (few_front (header_spelling table types) (flat_map spelling values) few);
  follows = each_spelled values table types typed.0 typed.1;
}

-- what follows the header of a message is its values, where they are within the limits
pub rest_are_values : (table : List Entry) (types : List TyRef) (values : List Content) (bytes : List ℕ) (m : IsMessage table types values bytes) → nesting_each values ≤ 128 → number_each values ≤ 1000000
    → (table' : List Entry) (types' : List TyRef) (n : ℕ) → (table' ≡ table) × (types' ≡ types) × (n ≡ length m.header) → AreValues table' types' values (drop n bytes)
rest_are_values table types values bytes m deep many table' types' n same =
    let rest : drop n bytes ≡ m.rest = ap (λ k. drop k bytes) same.2 ∙ ap (λ b. drop (length m.header) b) m.whole ∙ drop_at m.header m.rest (length m.header) refl in
    rw (same.0, same.1, rest) (record { spelled = m.follows; deep = deep; many = many })
