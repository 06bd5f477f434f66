-- Which bytes spell a header (Candid specification, "Binary Format", B, T and I).
use Rattle.std.specs.Prelude.{◌≡◌, ℕ, ℤ, ◌^◌, Bool, true, List, [], ◌∷◌, ◌++◌, length, Some, nat_lt, nat_le}
use Rattle.std.specs.List.{list_all}
use Rattle.ic_base.specs.Spelling.{SpellsBoth, SpellsVec}
use Rattle.ic_leb.specs.declared.width.Width.TheVariants.{Candid}
use Rattle.ic_leb.specs.Spells.{SpellsUnsigned, SpellsSigned}
use Rattle.cd_types.specs.declared.entry.TyRef.{TyRef}
use Rattle.cd_types.specs.declared.entry.Entry.{Entry}
use Rattle.cd_types.specs.declared.entry.Entry.TheVariants.{Opt, Seq, Rec, Var, Func, Service}
use Rattle.cd_types.specs.IsInside.{is_inside}
use Rattle.cd_types.specs.IsTable.{is_table}
use Rattle.cd_codec.specs.declared.codes.Kind.{Kind}
use Rattle.cd_codec.specs.Basic.{SpellsCounted, SpellsText}
use Rattle.cd_codec.specs.Codes.{reference_named, kind_named, kind_of}

-- `DIDL`
abbrev pub magic : List ℕ
magic = 68 ∷ 73 ∷ 68 ∷ 76 ∷ []

-- a reference to a type: a number that names it. Where floats are admitted, one may stand for null
abbrev pub SpellsReference : Bool → TyRef → List ℕ → Type 0
SpellsReference floats type bytes = (z : ℤ) × (reference_named floats z ≡ Some type) × SpellsSigned Candid z bytes

-- a list of references
abbrev pub SpellsTypes : Bool → List TyRef → List ℕ → Type 0
SpellsTypes floats = SpellsVec (SpellsUnsigned Candid) (SpellsReference floats)

-- an id, below 2^32
abbrev pub SpellsId : ℕ → List ℕ → Type 0
SpellsId id bytes = (nat_lt id (2 ^ 32) ≡ true) × SpellsUnsigned Candid id bytes

-- a field: its id and its type
abbrev pub SpellsField : Bool → ℕ × TyRef → List ℕ → Type 0
SpellsField floats = SpellsBoth SpellsId (λ _. SpellsReference floats)

-- a method: its name and its type
abbrev pub SpellsMethod : Bool → List ℕ × TyRef → List ℕ → Type 0
SpellsMethod floats = SpellsBoth SpellsText (λ _. SpellsReference floats)

-- what follows the number of an entry's kind
abbrev pub SpellsBody : Bool → Entry → List ℕ → Type 0
SpellsBody floats (Opt type) bytes = SpellsReference floats type bytes
SpellsBody floats (Seq type) bytes = SpellsReference floats type bytes
SpellsBody floats (Rec fields) bytes = SpellsVec (SpellsUnsigned Candid) (SpellsField floats) fields bytes
SpellsBody floats (Var cases) bytes = SpellsVec (SpellsUnsigned Candid) (SpellsField floats) cases bytes
SpellsBody floats (Func args results notes) bytes = SpellsBoth (SpellsBoth (SpellsTypes floats) (λ _. SpellsTypes floats)) (λ _. SpellsCounted) ((args, results), notes) bytes
SpellsBody floats (Service methods) bytes = SpellsVec (SpellsUnsigned Candid) (SpellsMethod floats) methods bytes

-- the kind of an entry
abbrev pub SpellsKind : Kind → List ℕ → Type 0
SpellsKind kind bytes = (z : ℤ) × (kind_named z ≡ Some kind) × SpellsSigned Candid z bytes

-- an entry of the type table
pub record SpellsEntry (floats : Bool) (entry : Entry) (bytes : List ℕ) : Type 0 where
  pub number : List ℕ
  pub rest : List ℕ
  pub whole : bytes ≡ number ++ rest
  pub kind : SpellsKind (kind_of entry) number
  pub body : SpellsBody floats entry rest

-- a count of at most 10,000, a limit of this replica
abbrev pub SpellsFew : ℕ → List ℕ → Type 0
SpellsFew n bytes = (nat_le n 10000 ≡ true) × SpellsUnsigned Candid n bytes

-- the types are inside a table of this many entries
abbrev pub are_inside : ℕ → List TyRef → Bool
are_inside count types = list_all (is_inside count) types

-- the bytes are a header: `DIDL`, entries that are a well formed table, and types inside it. At most 10,000 of either are a
-- limit of this replica, not of Candid.
-- Where floats are admitted, a number of a float may stand for null: so a header names a float where it is one with floats and none without
pub record IsHeader (floats : Bool) (table : List Entry) (types : List TyRef) (bytes : List ℕ) : Type 0 where
  pub entries : List ℕ
  pub arguments : List ℕ
  pub whole : bytes ≡ magic ++ (entries ++ arguments)
  pub table_spelled : SpellsVec SpellsFew (SpellsEntry floats) table entries
  pub well_formed : is_table table ≡ true
  pub types_spelled : SpellsVec SpellsFew (SpellsReference floats) types arguments
  pub inside : are_inside (length table) types ≡ true
