-- Names of definitions that differ, and names that are defined.
use Rattle.std.proofs.Common.{◌≡◌, ℕ, zero, suc, ◌<◌, true, false, List, [], ◌∷◌, ◌++◌, Option, Some, None, refl, sym, subst, ◌∙◌, inl, inr, ◌⊎◌, arith}
use Rattle.std.specs.Prelude.{◌&&◌, nat_lt, bytes_eq, slice_get}
use Rattle.std.specs.List.{list_all}
use Rattle.std.proofs.lemmas.Slice.Eq.{bytes_eq-Decides}
use Rattle.ic_base.proofs.Steps.{some_is}
use Rattle.cd_types.proofs.EntryLemmas.{test_at}
use Rattle.cd_types.proofs.FaultLemmas.{both_true}
use Rattle.cd_grammar.specs.File.{File}
use Rattle.cd_grammar.specs.declared.written.Part.{Part}
use Rattle.cd_did.specs.Faults.{Definitions, all_parts, is_bound, is_defined, repeated}
use Rattle.cd_grammar.specs.Fits.{parts_of, all_in_main}
use Rattle.cd_did.specs.Rings.{Apart, AllBound}
use Rattle.cd_tokens.proofs.Fronts.{true_or_false}

abbrev Row : Type 0
Row = List ℕ × Part

-- a name that none of all definitions has, none of the first has
fewer : (first more : Definitions) (name : List ℕ) → is_defined (first ++ more) name ≡ false → is_defined first name ≡ false
fewer [] more name e = refl
fewer (d ∷ first) more name e = elim (true_or_false (bytes_eq d.0 name)) [
  | inl same ↦ let f : true ≡ false = rw same at e in absurd cc
  | inr other ↦ let f : is_defined (first ++ more) name ≡ false = rw other at e in rw other (fewer first more name f)
]

-- and the last has not
last_other : (first : Definitions) (d : Row) (name : List ℕ) → is_defined (first ++ d ∷ []) name ≡ false → bytes_eq d.0 name ≡ false
last_other [] d name e = elim (true_or_false (bytes_eq d.0 name)) [
  | inl same ↦ let f : true ≡ false = rw same at e in absurd cc
  | inr other ↦ other
]
last_other (x ∷ first) d name e = elim (true_or_false (bytes_eq x.0 name)) [
  | inl same ↦ let f : true ≡ false = rw same at e in absurd cc
  | inr other ↦ let f : is_defined (first ++ d ∷ []) name ≡ false = rw other at e in last_other first d name f
]

abbrev none : Option ℕ
none = None

-- no definition is repeated: the first is not, nor are the others
split : (before rest : Definitions) (place : ℕ) (d : Row) → repeated before place (d ∷ rest) ≡ None → (is_defined before d.0 ≡ false) × (repeated (before ++ d ∷ []) (suc place) rest ≡ None)
split before rest place d e = elim (true_or_false (is_defined before d.0)) [
  | inl again ↦ let f : Some place ≡ None = rw again at e in absurd cc
  | inr new ↦ (new, rw new at e)
]

before_other : (before rest : Definitions) (place i : ℕ) (e : Row) → repeated before place rest ≡ None → slice_get rest i ≡ Some e → is_defined before e.0 ≡ false
before_other before [] place i e none at = absurd cc
before_other before (d ∷ rest) place zero e none at =
    let same : d ≡ e = some_is {A = Row} d e at in
    subst (λ (x : Row). is_defined before x.0 ≡ false) same (split before rest place d none).0
before_other before (d ∷ rest) place (suc i) e none at = fewer before (d ∷ []) e.0 (before_other (before ++ d ∷ []) rest (suc place) i e (split before rest place d none).1 at)

two_other : (before rest : Definitions) (place i j : ℕ) (d e : Row) → repeated before place rest ≡ None → i < j → slice_get rest i ≡ Some d → slice_get rest j ≡ Some e → bytes_eq d.0 e.0 ≡ false
two_other before [] place i j d e none less at there = absurd cc
two_other before (x ∷ rest) place i zero d e none less at there = absurd (omega (arith, less))
two_other before (x ∷ rest) place zero (suc j) d e none less at there =
    let same : x ≡ d = some_is {A = Row} x d at in
    let other = before_other (before ++ x ∷ []) rest (suc place) j e (split before rest place x none).1 there in
    subst (λ (y : Row). bytes_eq y.0 e.0 ≡ false) same (last_other before x e.0 other)
two_other before (x ∷ rest) place (suc i) (suc j) d e none less at there = two_other (before ++ x ∷ []) rest (suc place) i j d e (split before rest place x none).1 (omega (arith, less)) at there

below_or_same : (i j : ℕ) → (i < j) ⊎ ((i ≡ j) ⊎ (j < i))
below_or_same i j = elim (true_or_false (nat_lt i j)) [
  | inl less ↦ inl (grind (arith, less))
  | inr more ↦ elim (true_or_false (nat_lt j i)) [ inl less ↦ inr (inr (grind (arith, less))) | inr same ↦ inr (inl (grind (arith, more, same))) ]
]

pub apart : (defs : Definitions) → repeated [] 0 defs ≡ None → Apart defs
apart defs none i j d e at there same =
    let eq : bytes_eq d.0 e.0 ≡ true = (bytes_eq-Decides d.0 e.0).1 same in
    let back : bytes_eq e.0 d.0 ≡ true = (bytes_eq-Decides e.0 d.0).1 (sym same) in
    elim (below_or_same i j) [
      | inl less ↦ let f : true ≡ false = sym eq ∙ two_other [] defs 0 i j d e none less at there in absurd cc
      | inr more ↦ elim more [ inl is ↦ is | inr less ↦ let f : true ≡ false = sym back ∙ two_other [] defs 0 j i e d none less there at in absurd cc ]
    ]

pub all_bound : (file : File) → all_parts (is_bound file.definitions) file ≡ true → AllBound file.definitions
all_bound file e i d there =
    let parts = both_true (list_all (λ written. list_all (is_bound file.definitions) (parts_of written)) file.types) (list_all (λ d. is_bound file.definitions d.1) file.definitions && all_in_main (is_bound file.definitions) file.main) e in
    let more = both_true (list_all (λ d. is_bound file.definitions d.1) file.definitions) (all_in_main (is_bound file.definitions) file.main) parts.1 in
    test_at (λ d. is_bound file.definitions d.1) file.definitions i d more.0 there
