-- What is written over a part is read at the types of the whole table as it was.
use Rattle.std.proofs.Common.{◌≡◌, ℕ, zero, suc, ◌≤◌, List, [], ◌∷◌, length, Some, refl, sym, ap, ◌∙◌, subst, IsTrue, slice_get}
use Rattle.std.specs.Option.{option_map}
use Rattle.std.proofs.lemmas.Option.{slice_get-map}
use Rattle.ic_base.proofs.Steps.{some_is}
use Rattle.cd_types.specs.declared.entry.TyRef.{TyRef}
use Rattle.cd_types.specs.declared.entry.Entry.{Entry}
use Rattle.cd_types.specs.IsTable.{is_table}
use Rattle.cd_types.specs.Shape.{shape}
use Rattle.cd_types.proofs.EntryLemmas.{test_at}
use Rattle.cd_sub.specs.Sub.{Sub}
use Rattle.cd_codec.specs.Content.{Content}
use Rattle.cd_codec.specs.Wire.{Wire}
use Rattle.cd_codec.specs.AreValues.{WireEach}
use Rattle.cd_codec.specs.Measure.{nesting_each, number_each}
use Rattle.cd_codec.specs.Message.{IsMessage}
use Rattle.cd_coerce.specs.Coerce.{IsReadAs}
use Rattle.cd_coerce.specs.Decodes.{IsArgument, Decodes}
use Rattle.cd_part.specs.Places.{renamed}
use Rattle.cd_part.specs.IsPart.{IsPart}
use Rattle.cd_part.proofs.Closed.{is_met, all_met}
use Rattle.cd_part.proofs.Alike.{Turned, turned}
use Rattle.cd_part.proofs.AlikePart.{IsNamed}
use Rattle.cd_part.proofs.AlikeSub.{in_order, sub_back}
use Rattle.cd_part.proofs.AlikeRead.{itself}
use Rattle.cd_part.proofs.PartLaws.{part_types, part_table}
use Rattle.cd_part.proofs.PartValues.{nat8_named, alike}

each_count : (table : List Entry) (types : List TyRef) (values : List Content) (bytes : List ℕ) → WireEach table types values bytes → length values ≡ length types
each_count table types [] bytes (e, empty) = ap length (sym e)
each_count table types (v ∷ values) bytes (type, more, e, front, rest, whole, wire, others) = ap suc (each_count table more values rest others) ∙ ap length (sym e)

wire_at : (table : List Entry) (values : List Content) (types : List TyRef) (bytes : List ℕ) (i : ℕ) (u : TyRef) (r : Content) → WireEach table types values bytes → slice_get types i ≡ Some u → slice_get values i ≡ Some r
    → (front : List ℕ) × Wire table u r front
wire_at table [] types bytes i u r each at at' = absurd cc
wire_at table (v ∷ values) types bytes zero u r (type, more, e, front, rest, whole, wire, others) at at' =
    let one : type ≡ u = some_is {A = TyRef} type u (ap (λ (ts : List TyRef). slice_get ts 0) (sym e) ∙ at) in
    let same : v ≡ r = some_is {A = Content} v r at' in
    (front, subst (λ (t : TyRef). Wire table t r front) one (subst (λ (v : Content). Wire table type v front) same wire))
wire_at table (v ∷ values) types bytes (suc i) u r (type, more, e, front, rest, whole, wire, others) at at' =
    wire_at table values more rest i u r others (ap (λ (ts : List TyRef). slice_get ts (suc i)) (sym e) ∙ at) at'

module _ (table : List Entry) (types : List TyRef) (part : List Entry × List TyRef) (formed : IsTrue (is_table table)) (is : IsPart table types part) where
  back : (b a : TyRef) → IsNamed is.met a b → Sub part.0 b table a
  back b a r = sub_back (IsNamed is.met) table part.0 formed (part_table table types part is formed) (alike table types part is) a b r

  -- a value of a type of the part is read as itself
  read_back : (t u : TyRef) (r : Content) (bytes : List ℕ) → IsNamed is.met u t → Wire part.0 t r bytes → IsReadAs part.0 table t r u r
  read_back t u r bytes named wire =
      let R = IsNamed is.met in
      itself (λ a b. Sub part.0 a table b) (Turned R) back (λ b a n. sym (nat8_named is.met a b n)) part.0 table (in_order part.0 (part_table table types part is formed)) (in_order table formed)
      (λ b a n. turned R (shape table a) (shape part.0 b) (alike table types part is a b n)) r t u bytes named wire

  argument : (values : List Content) (bytes : List ℕ) → WireEach part.0 part.1 values bytes → (i : ℕ) (u : TyRef) (r : Content) → slice_get types i ≡ Some u → slice_get values i ≡ Some r
      → IsArgument part.0 table (slice_get part.1 i) (slice_get values i) u r
  argument values bytes each i u r at at' =
      let there : slice_get part.1 i ≡ Some (renamed is.met u) =
      ap (λ (ts : List TyRef). slice_get ts i) is.references ∙ slice_get-map (renamed is.met) types i ∙ ap (option_map (renamed is.met)) at in
      let named : IsNamed is.met u (renamed is.met u) = (test_at (is_met is.met) types i u (all_met table is.order) at, refl) in
      let wire = wire_at part.0 values part.1 bytes i (renamed is.met u) r each there at' in
      rw (there, at') (back (renamed is.met u) u named, read_back (renamed is.met u) u r wire.0 named wire.1)

  pub decodes : (values : List Content) (bytes : List ℕ) → IsMessage part.0 part.1 values bytes → nesting_each values ≤ 128 → number_each values ≤ 1000000 → Decodes (table, types) bytes values
  decodes values bytes message deep many = record {
    headed = record { table = part.0; types = part.1; front = message.header; rest = message.rest; whole = message.whole; header = message.begins };
    values = values;
    spelled = record { spelled = message.follows; deep = deep; many = many };
    many = each_count part.0 part.1 values message.rest message.follows ∙ part_types table types part is;
    each = argument values message.rest message.follows;
  }
