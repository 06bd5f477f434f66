-- Candid specification, "Parameters and Results" and "Coercion": a message read at expected types,
-- which are a table and the types of the arguments
use Rattle.std.specs.Prelude.{◌≡◌, ◌<◌, ℕ, true, false, List, length, ◌++◌, Option, Some, None, slice_get, IsTrue}
use Rattle.cd_types.specs.declared.entry.TyRef.{TyRef}
use Rattle.cd_types.specs.declared.entry.Entry.{Entry}
use Rattle.cd_types.specs.Shape.{shape}
use Rattle.cd_sub.specs.MayMiss.{may_miss}
use Rattle.cd_sub.specs.Sub.{Sub}
use Rattle.cd_codec.specs.Content.{Content}
use Rattle.cd_codec.specs.IsHeader.{IsHeader}
use Rattle.cd_codec.specs.AreValues.{AreValues}
use Rattle.cd_codec.specs.Answers.{BeginsWithHeader}
use Rattle.cd_coerce.specs.declared.fault.DidlFault.{DidlFault}
use Rattle.cd_coerce.specs.declared.fault.DidlFault.TheVariants.{NotHeader, Float, NotSubtype, BadValue, NoMemory}
use Rattle.cd_coerce.specs.Missing.{missing}
use Rattle.cd_coerce.specs.Coerce.{IsReadAs}

-- bytes that begin with a header without floats: its table, the types of the arguments, and what follows
pub record Headed (bytes : List ℕ) : Type 0 where
  pub table : List Entry
  pub types : List TyRef
  pub front : List ℕ
  pub rest : List ℕ
  pub whole : bytes ≡ front ++ rest
  pub header : IsHeader false table types front

-- an expected argument of the type u fits the type in the message: that one is a subtype, or is
-- missing and may be
abbrev pub Fits : List Entry → List Entry → Option TyRef → TyRef → Type 0
Fits wire expected None u = IsTrue (may_miss (shape expected u))
Fits wire expected (Some t) u = Sub wire t expected u

-- an expected argument of the type u is r: read from the value in the message, or what stands for
-- a missing one
abbrev pub IsArgument : List Entry → List Entry → Option TyRef → Option Content → TyRef → Content → Type 0
IsArgument wire expected None v u r = missing (shape expected u) ≡ Some r
IsArgument wire expected (Some t) None u r = ⊥
IsArgument wire expected (Some t) (Some v) u r = Sub wire t expected u × IsReadAs wire expected t v u r

-- the bytes are a header and then values of its types, and `results` are the arguments read from them
pub record Decodes (expected : List Entry × List TyRef) (bytes : List ℕ) (results : List Content) : Type 0 where
  pub headed : Headed bytes
  pub values : List Content
  pub spelled : AreValues headed.table headed.types values headed.rest
  pub many : length results ≡ length expected.1
  pub each : (i : ℕ) (u : TyRef) (r : Content) → slice_get expected.1 i ≡ Some u → slice_get results i ≡ Some r
      → IsArgument headed.table expected.0 (slice_get headed.types i) (slice_get values i) u r

-- each expected argument before the place fits
abbrev pub FitBefore : List Entry → List TyRef → List Entry × List TyRef → ℕ → Type 0
FitBefore table types expected place = (i : ℕ) (u : TyRef) → i < place → slice_get expected.1 i ≡ Some u → Fits table expected.0 (slice_get types i) u

-- the expected argument at the place does not fit, and each before it does
pub record IsLeastUnfit (table : List Entry) (types : List TyRef) (expected : List Entry × List TyRef) (place : ℕ) : Type 0 where
  pub before : FitBefore table types expected place
  pub type : TyRef
  pub at_place : slice_get expected.1 place ≡ Some type
  pub unfit : Fits table expected.0 (slice_get types place) type → ⊥

-- each expected argument fits
abbrev pub AllFit : List Entry → List TyRef → List Entry × List TyRef → Type 0
AllFit table types expected = FitBefore table types expected (length expected.1)

-- the fault of bytes that do not decode: they begin with no header, floats admitted; or with one
-- that names a float; or with a header where an argument does not fit; or all fit and no values decode
abbrev pub HasFault : List Entry × List TyRef → List ℕ → DidlFault → Type 0
HasFault expected bytes NotHeader = BeginsWithHeader true bytes → ⊥
HasFault expected bytes Float = BeginsWithHeader true bytes × (BeginsWithHeader false bytes → ⊥)
HasFault expected bytes (NotSubtype argument) = (headed : Headed bytes) × IsLeastUnfit headed.table headed.types expected argument
HasFault expected bytes BadValue = (headed : Headed bytes) × AllFit headed.table headed.types expected
    × ((results : List Content) → Decodes expected bytes results → ⊥)
HasFault expected bytes NoMemory = ⊥
