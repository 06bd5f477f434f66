-- Candid specification, "Subtyping": the rules. `Below` says that a part of the lower type is below
-- its part of the upper one, and `Turned` that a part of the upper type is below its part of the
-- lower one, as a function's arguments are.
use Rattle.std.specs.Prelude.{◌≡◌, ◌⊎◌, ℕ, List, [], ◌∷◌, Some, None, IsTrue}
use Rattle.std.specs.List.{AllByRecursion}
use Rattle.std.specs.Ordering.{nat_cmp}
use Rattle.std.specs.Cmp.Lexicographic.{slice_cmp}
use Rattle.cd_types.specs.declared.primitive.Primitive.{Primitive}
use Rattle.cd_types.specs.declared.primitive.Primitive.TheVariants.{Nat, Int, Reserved, Empty}
use Rattle.cd_types.specs.declared.entry.TyRef.{TyRef}
use Rattle.cd_types.specs.declared.entry.Entry.{Entry}
use Rattle.cd_types.specs.declared.entry.Entry.TheVariants.{Opt, Seq, Rec, Var, Func, Service}
use Rattle.cd_types.specs.Shape.{Shape, primitive, compound, shape}
use Rattle.cd_sub.specs.MayMiss.{may_miss}
use Rattle.cd_sub.specs.TypeUnder.{type_under}

-- the expected field is there with a subtype, or is missing and may be
abbrev pub HasField : (TyRef → TyRef → Type 0) → List Entry → List (ℕ × TyRef) → ℕ × TyRef → Type 0
HasField Below upper fields expected =
    ((type : TyRef) × (type_under nat_cmp expected.0 fields ≡ Some type) × Below type expected.1)
    ⊎ ((type_under nat_cmp expected.0 fields ≡ None) × IsTrue (may_miss (shape upper expected.1)))

-- the case is an expected one, with a subtype
abbrev pub HasCase : (TyRef → TyRef → Type 0) → List (ℕ × TyRef) → ℕ × TyRef → Type 0
HasCase Below expected case =
    (type : TyRef) × (type_under nat_cmp case.0 expected ≡ Some type) × Below case.1 type

-- the expected method is there, with a subtype
abbrev pub HasMethod : (TyRef → TyRef → Type 0) → List (List ℕ × TyRef) → List ℕ × TyRef → Type 0
HasMethod Below methods expected =
    (type : TyRef) × (type_under (slice_cmp nat_cmp) expected.0 methods ≡ Some type) × Below type expected.1

-- each expected type has one below it at its place, or is missing at the end and may be
abbrev pub Sequence : (TyRef → TyRef → Type 0) → List Entry → List TyRef → List TyRef → Type 0
Sequence Below upper types [] = Unit {0}
Sequence Below upper [] (expected ∷ more) = IsTrue (may_miss (shape upper expected)) × Sequence Below upper [] more
Sequence Below upper (type ∷ types) (expected ∷ more) = Below type expected × Sequence Below upper types more

-- s is a subtype of t by one rule. That every type is a subtype of itself is said here of primitive
-- types alone: for the entries of a table it follows (`reflexive` in src/laws.rt).
pub data Rule (Below Turned : TyRef → TyRef → Type 0) (lower upper : List Entry) (s t : Shape) : Type 0 where
  same : (p : Primitive) → s ≡ primitive p → t ≡ primitive p → Rule Below Turned lower upper s t
  nat_int : s ≡ primitive Nat → t ≡ primitive Int → Rule Below Turned lower upper s t
  reserved : t ≡ primitive Reserved → Rule Below Turned lower upper s t
  empty : s ≡ primitive Empty → Rule Below Turned lower upper s t
  opt : (type : TyRef) → t ≡ compound (Opt type) → Rule Below Turned lower upper s t
  vec : (a b : TyRef) → s ≡ compound (Seq a) → t ≡ compound (Seq b) → Below a b → Rule Below Turned lower upper s t
  record_of : (fs gs : List (ℕ × TyRef)) → s ≡ compound (Rec fs) → t ≡ compound (Rec gs)
      → AllByRecursion (HasField Below upper fs) gs → Rule Below Turned lower upper s t
  variant_of : (fs gs : List (ℕ × TyRef)) → s ≡ compound (Var fs) → t ≡ compound (Var gs)
      → AllByRecursion (HasCase Below gs) fs → Rule Below Turned lower upper s t
  func : (args args' results results' : List TyRef) (notes : List ℕ)
      → s ≡ compound (Func args results notes) → t ≡ compound (Func args' results' notes)
      → Sequence Turned lower args' args → Sequence Below upper results results' → Rule Below Turned lower upper s t
  service : (ms ns : List (List ℕ × TyRef)) → s ≡ compound (Service ms) → t ≡ compound (Service ns)
      → AllByRecursion (HasMethod Below ms) ns → Rule Below Turned lower upper s t
