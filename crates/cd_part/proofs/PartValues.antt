-- The types of a part have the values that the types have in the whole table.
use Rattle.std.proofs.Common.{◌≡◌, ℕ, false, List, Option, Some, None, refl, sym, ap, ◌∙◌, subst}
use Rattle.std.specs.Prelude.{◌↔◌}
use Rattle.cd_types.specs.declared.entry.TyRef.{TyRef}
use Rattle.cd_types.specs.declared.entry.TyRef.TheVariants.{Prim, Index}
use Rattle.cd_types.specs.declared.entry.Entry.{Entry}
use Rattle.cd_types.specs.Shape.{shape}
use Rattle.cd_codec.specs.Content.{Content}
use Rattle.cd_codec.specs.Wire.{is_nat8}
use Rattle.cd_codec.specs.AreValues.{HasTypes}
use Rattle.cd_part.specs.Places.{place_of, placed}
use Rattle.cd_part.specs.IsPart.{IsPart}
use Rattle.cd_part.proofs.Closed.{all_met}
use Rattle.cd_part.proofs.Alike.{AlikeTypes, Alike, Turned, types_turned, turned}
use Rattle.cd_part.proofs.AlikePart.{IsNamed, types_named, named_alike}
use Rattle.cd_part.proofs.AlikeValues.{each_alike}

no_nat8 : (number : ℕ) (place : Option ℕ) → is_nat8 (placed (Index number) place) ≡ false
no_nat8 number None = refl
no_nat8 number (Some place) = refl

pub nat8_named : (met : List ℕ) (a b : TyRef) → IsNamed met a b → is_nat8 a ≡ is_nat8 b
nat8_named met (Prim p) b (is, e) = ap is_nat8 (sym e)
nat8_named met (Index number) b (is, e) = sym (ap is_nat8 e ∙ no_nat8 number (place_of met number))

module _ (table : List Entry) (types : List TyRef) (part : List Entry × List TyRef) (is : IsPart table types part) where
  pub alike : (a b : TyRef) → IsNamed is.met a b → Alike (IsNamed is.met) (shape table a) (shape part.0 b)
  alike = named_alike table types is.met part.0 is.order is.entries

  listed : AlikeTypes (IsNamed is.met) types part.1
  listed = subst (λ (ts : List TyRef). AlikeTypes (IsNamed is.met) types ts) (sym is.references) (types_named is.met types (all_met table is.order))

  -- and they have no others
  pub same_values : (values : List Content) → HasTypes part.0 part.1 values ↔ HasTypes table types values
  same_values values =
      let R = IsNamed is.met in (
        λ (bytes, each). (
          bytes,
          each_alike (Turned R) (λ b a r. sym (nat8_named is.met a b r)) part.0 table (λ b a r. turned R (shape table a) (shape part.0 b) (alike a b r)) values part.1 types bytes (types_turned R types part.1 listed) each,
        ),
        λ (bytes, each). (bytes, each_alike R (nat8_named is.met) table part.0 alike values types part.1 bytes listed each),
      )
