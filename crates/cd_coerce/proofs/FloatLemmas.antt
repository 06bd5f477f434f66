-- a header without floats is a header where floats are admitted
use Rattle.std.proofs.Common.{◌≡◌, ◌⊎◌, inl, inr, arith, ℕ, ℤ, pos, negsuc, Bool, true, false, List, [], ◌∷◌, Option, Some, refl, ap, ◌∙◌, sym, slice_get, if◌then◌else◌, option_map}
use Rattle.std.proofs.lemmas.Bool.Decides.{nat_tests}
use Rattle.std.specs.Option.{option_flatten}
use Rattle.ic_base.specs.Spelling.{Spelling, SpellsBoth, SpellsMany, SpellsVec}
use Rattle.ic_leb.specs.declared.width.Width.TheVariants.{Candid}
use Rattle.ic_leb.specs.Spells.{SpellsUnsigned}
use Rattle.cd_types.specs.declared.primitive.Primitive.TheVariants.{Null}
use Rattle.cd_types.specs.declared.entry.TyRef.{TyRef}
use Rattle.cd_types.specs.declared.entry.TyRef.TheVariants.{Prim}
use Rattle.cd_types.specs.declared.entry.Entry.{Entry}
use Rattle.cd_types.specs.declared.entry.Entry.TheVariants.{Opt, Seq, Rec, Var, Func, Service}
use Rattle.cd_codec.specs.Basic.{SpellsCounted, SpellsText}
use Rattle.cd_codec.specs.Codes.{primitive_numbers, is_float, reference_named}
use Rattle.cd_codec.specs.IsHeader.{SpellsReference, SpellsTypes, SpellsId, SpellsField, SpellsMethod, SpellsBody, SpellsEntry, SpellsFew, IsHeader}
use Rattle.cd_codec.specs.Answers.{BeginsWithHeader}

-- each spelling of the one kind is one of the other
abbrev Widens : {A : Type 0} → Spelling A → Spelling A → Type 0
Widens {A} P Q = (x : A) (bytes : List ℕ) → P x bytes → Q x bytes

many_wide : {A : Type 0} (P Q : Spelling A) → Widens P Q → Widens (SpellsMany P) (SpellsMany Q)
many_wide P Q wide [] bytes p = p
many_wide P Q wide (x ∷ xs) bytes p = (p.0, p.1, p.2, wide x p.0 p.3, many_wide P Q wide xs p.1 p.4)

vec_wide : {A : Type 0} (Count : Spelling ℕ) (P Q : Spelling A) → Widens P Q → Widens (SpellsVec Count P) (SpellsVec Count Q)
vec_wide Count P Q wide xs bytes p = record { front = p.front; rest = p.rest; whole = p.whole; count = p.count; values = many_wide P Q wide xs p.rest p.values }

both_wide : {A B : Type 0} (P P' : Spelling A) (Q Q' : A → Spelling B) → Widens P P' → ((x : A) → Widens (Q x) (Q' x)) → Widens (SpellsBoth P Q) (SpellsBoth P' Q')
both_wide P P' Q Q' first second x bytes p =
    record { front = p.front; rest = p.rest; whole = p.whole; first = first x.0 p.front p.first; second = second x.0 x.1 p.rest p.second }

same_wide : {A : Type 0} (P : Spelling A) → Widens P P
same_wide P x bytes p = p

-- the codes of floats name no type
float_is : (code : ℕ) → is_float code ≡ true → (code ≡ 12) ⊎ (code ≡ 13)
float_is code e = grind (arith, nat_tests)

abbrev named_so : ℕ → Option TyRef
named_so code = option_map (λ p. Prim p) (option_flatten (slice_get primitive_numbers code))

no_float : (code : ℕ) (type : TyRef) → is_float code ≡ true → option_map (λ p. Prim p) (option_flatten (slice_get primitive_numbers code)) ≡ Some type → ⊥
no_float code type is e = elim (float_is code is) [
  | inl at ↦ let k : named_so 12 ≡ Some type = sym (ap named_so at) ∙ e in cc
  | inr at ↦ let k : named_so 13 ≡ Some type = sym (ap named_so at) ∙ e in cc
]

negative_named : (code : ℕ) (type : TyRef) (float : Bool) → is_float code ≡ float → option_map (λ p. Prim p) (option_flatten (slice_get primitive_numbers code)) ≡ Some type
    → option_map (λ p. Prim p) (if float then Some Null else option_flatten (slice_get primitive_numbers code)) ≡ Some type
negative_named code type true is e = absurd (no_float code type is e)
negative_named code type false is e = e

named : (z : ℤ) (type : TyRef) → reference_named false z ≡ Some type → reference_named true z ≡ Some type
named (pos place) type e = e
named (negsuc code) type e = negative_named code type (is_float code) refl e

reference_wide : Widens (SpellsReference false) (SpellsReference true)
reference_wide type bytes p = (p.0, named p.0 type p.1, p.2)

types_wide : Widens (SpellsTypes false) (SpellsTypes true)
types_wide = vec_wide (SpellsUnsigned Candid) (SpellsReference false) (SpellsReference true) reference_wide

fields_wide : Widens (SpellsVec (SpellsUnsigned Candid) (SpellsField false)) (SpellsVec (SpellsUnsigned Candid) (SpellsField true))
fields_wide =
    vec_wide (SpellsUnsigned Candid) (SpellsField false) (SpellsField true)
    (both_wide SpellsId SpellsId (λ _. SpellsReference false) (λ _. SpellsReference true) (same_wide SpellsId) (λ _. reference_wide))

methods_wide : Widens (SpellsVec (SpellsUnsigned Candid) (SpellsMethod false)) (SpellsVec (SpellsUnsigned Candid) (SpellsMethod true))
methods_wide =
    vec_wide (SpellsUnsigned Candid) (SpellsMethod false) (SpellsMethod true)
    (both_wide SpellsText SpellsText (λ _. SpellsReference false) (λ _. SpellsReference true) (same_wide SpellsText) (λ _. reference_wide))

signature_wide : Widens (SpellsBoth (SpellsBoth (SpellsTypes false) (λ _. SpellsTypes false)) (λ _. SpellsCounted)) (SpellsBoth (SpellsBoth (SpellsTypes true) (λ _. SpellsTypes true)) (λ _. SpellsCounted))
signature_wide =
    both_wide (SpellsBoth (SpellsTypes false) (λ _. SpellsTypes false)) (SpellsBoth (SpellsTypes true) (λ _. SpellsTypes true)) (λ _. SpellsCounted) (λ _. SpellsCounted)
    (both_wide (SpellsTypes false) (SpellsTypes true) (λ _. SpellsTypes false) (λ _. SpellsTypes true) types_wide (λ _. types_wide)) (λ _. same_wide SpellsCounted)

body_wide : Widens (SpellsBody false) (SpellsBody true)
body_wide (Opt type) bytes p = reference_wide type bytes p
body_wide (Seq type) bytes p = reference_wide type bytes p
body_wide (Rec fields) bytes p = fields_wide fields bytes p
body_wide (Var cases) bytes p = fields_wide cases bytes p
body_wide (Func args results notes) bytes p = signature_wide ((args, results), notes) bytes p
body_wide (Service methods) bytes p = methods_wide methods bytes p

entry_wide : Widens (SpellsEntry false) (SpellsEntry true)
entry_wide entry bytes p = record { number = p.number; rest = p.rest; whole = p.whole; kind = p.kind; body = body_wide entry p.rest p.body }

pub header_wide : (table : List Entry) (types : List TyRef) (bytes : List ℕ) → IsHeader false table types bytes → IsHeader true table types bytes
header_wide table types bytes p = record {
  entries = p.entries;
  arguments = p.arguments;
  whole = p.whole;
  table_spelled = vec_wide SpellsFew (SpellsEntry false) (SpellsEntry true) entry_wide table p.entries p.table_spelled;
  well_formed = p.well_formed;
  types_spelled = vec_wide SpellsFew (SpellsReference false) (SpellsReference true) reference_wide types p.arguments p.types_spelled;
  inside = p.inside;
}

-- bytes that begin with a header begin with one where floats are admitted
pub begins_wide : (bytes : List ℕ) → BeginsWithHeader false bytes → BeginsWithHeader true bytes
begins_wide bytes b = (b.0, b.1, b.2, b.3, b.4, header_wide b.0 b.1 b.2 b.5)
