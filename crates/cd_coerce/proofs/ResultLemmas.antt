-- the arguments that are read have the expected types
use Rattle.std.proofs.Common.{◌≡◌, ℕ, zero, suc, ◌<◌, List, [], ◌∷◌, ◌++◌, length, Option, Some, None, refl, sym, subst, arith, get_or, slice_get, IsTrue}
use Rattle.cd_types.specs.declared.entry.TyRef.{TyRef}
use Rattle.cd_types.specs.declared.entry.Entry.{Entry}
use Rattle.cd_types.specs.IsTable.{is_table}
use Rattle.cd_types.specs.Shape.{shape}
use Rattle.cd_sub.specs.Sub.{Sub}
use Rattle.cd_codec.specs.Content.{Content}
use Rattle.cd_codec.specs.Wire.{Wire}
use Rattle.cd_codec.specs.AreValues.{WireEach, HasTypes}
use Rattle.cd_coerce.specs.Decodes.{IsArgument, Decodes}
use Rattle.cd_coerce.proofs.TableLemmas.{few_cases}
use Rattle.cd_coerce.proofs.Typed.{AreBytes, all_parts, IsTyped, missing_typed, typed}

-- a value and its bytes, as far as there is a value
abbrev WireAt : List Entry → Option TyRef → Option Content → Type 0
WireAt table None v = Unit {0}
WireAt table (Some t) None = Unit {0}
WireAt table (Some t) (Some v) = (bytes : List ℕ) × Wire table t v bytes × AreBytes bytes

no_value : (table : List Entry) (o : Option TyRef) → WireAt table o None
no_value table None = tt
no_value table (Some t) = tt

-- what is at a place of the values of a message
wire_at : (table : List Entry) (vs : List Content) (types : List TyRef) (bytes : List ℕ) → WireEach table types vs bytes → AreBytes bytes → (i : ℕ) → WireAt table (slice_get types i) (slice_get vs i)
wire_at table [] types bytes wire all i = no_value table (slice_get types i)
wire_at table (v ∷ vs) types bytes (type, more, is, front, rest, whole, first, wire) all i =
    subst (λ (ts : List TyRef). WireAt table (slice_get ts i) (slice_get (v ∷ vs) i)) (sym is) (at_each i (wire_at table vs more rest wire parts.1))
  where
    parts : AreBytes front × AreBytes rest
    parts = all_parts front rest (subst AreBytes whole all)

    at_each : (i : ℕ) → ((i : ℕ) → WireAt table (slice_get more i) (slice_get vs i)) → WireAt table (slice_get (type ∷ more) i) (slice_get (v ∷ vs) i)
    at_each zero others = (front, first, parts.0)
    at_each (suc i) others = others i

argument_typed : (lower upper : List Entry) → IsTrue (is_table upper) → (o : Option TyRef) (v : Option Content) (u : TyRef) (r : Content) → WireAt lower o v → IsArgument lower upper o v u r → IsTyped upper u r
argument_typed lower upper formed None v u r wire h = missing_typed upper u (shape upper u) r refl h
argument_typed lower upper formed (Some t) None u r wire h = absurd h
argument_typed lower upper formed (Some t) (Some v) u r wire h = typed (λ a b. Sub lower a upper b) lower upper (few_cases upper formed) r v t u wire.0 h.1 wire.1 wire.2

each_typed : (table : List Entry) (us : List TyRef) (rs : List Content) → length rs ≡ length us
    → ((i : ℕ) (u : TyRef) (r : Content) → slice_get us i ≡ Some u → slice_get rs i ≡ Some r → IsTyped table u r) → HasTypes table us rs
each_typed table [] [] many each = ([], (refl, refl))
each_typed table [] (r ∷ rs) many each = absurd (omega (arith, many))
each_typed table (u ∷ us) [] many each = absurd (omega (arith, many))
each_typed table (u ∷ us) (r ∷ rs) many each =
    let first = each 0 u r refl refl in
    let rest = each_typed table us rs (omega (arith, many)) (λ i w s at there. each (suc i) w s at there) in
    (first.0 ++ rest.0, (u, us, refl, first.0, rest.0, refl, first.1, rest.1))

pub results_typed : (expected : List Entry × List TyRef) (bytes : List ℕ) (rs : List Content) → IsTrue (is_table expected.0) → AreBytes bytes → Decodes expected bytes rs → HasTypes expected.0 expected.1 rs
results_typed expected bytes rs formed all d =
    let m = d.headed in
    let parts = all_parts m.front m.rest (subst AreBytes m.whole all) in
    each_typed expected.0 expected.1 rs d.many (λ i u r at there.
    argument_typed m.table expected.0 formed (slice_get m.types i) (slice_get d.values i) u r (wire_at m.table d.values m.types m.rest d.spelled.spelled parts.1 i) (d.each i u r at there))

-- numbers of 8 bits are bytes
pub are_bytes : (bytes : List ℕ) → ((i : ℕ) → get_or bytes i 0 < 256) → AreBytes bytes
are_bytes [] below = tt
are_bytes (b ∷ bytes) below = (below 0, are_bytes bytes (λ i. below (suc i)))
