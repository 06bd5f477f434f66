-- What the types of an interface file stand for in a type table (Candid specification, "Type Table").
use Rattle.std.specs.Prelude.{◌≡◌, ℕ, zero, suc, ◌<◌, List, [], ◌∷◌, length, Option, Some, None, slice_get}
use Rattle.std.specs.List.Sorted.{IsPermutation}
use Rattle.cd_types.specs.declared.entry.TyRef.{TyRef}
use Rattle.cd_types.specs.declared.entry.TyRef.TheVariants.{Index}
use Rattle.cd_types.specs.declared.entry.Entry.{Entry}
use Rattle.cd_types.specs.declared.entry.Entry.TheVariants as entries
use Rattle.cd_types.specs.Shape.{Shape, primitive, compound, shape}
use Rattle.cd_grammar.specs.declared.written.Part.{Part}
use Rattle.cd_grammar.specs.declared.written.Part.TheVariants.{Prim, Float, Name, Place}
use Rattle.cd_grammar.specs.declared.written.Written.{Written}
use Rattle.cd_grammar.specs.declared.written.Written.TheVariants.{Opt, Seq, Rec, Var, Func, Service}
use Rattle.cd_grammar.specs.File.{File}
use Rattle.cd_grammar.specs.declared.written.Main.{Main}
use Rattle.cd_did.specs.Faults.{StandsBehind}

-- parts one after the other, each of which stands for its reference
abbrev pub PartsStand : (Part → TyRef → Type 0) → List Part → List TyRef → Type 0
PartsStand P [] refs = refs ≡ []
PartsStand P (part ∷ parts) refs = (r : TyRef) × (more : List TyRef) × (refs ≡ r ∷ more) × P part r × PartsStand P parts more

-- the same with labels, ids or names, which are the same
abbrev pub LabelledStand : {L : Type 0} → (Part → TyRef → Type 0) → List (L × Part) → List (L × TyRef) → Type 0
LabelledStand P [] refs = refs ≡ []
LabelledStand {L} P (part ∷ parts) refs = (r : TyRef) × (more : List (L × TyRef)) × (refs ≡ (part.0, r) ∷ more) × P part.1 r × LabelledStand P parts more

-- an entry has the same labels and parts that stand for those written, in the order of a table, in which labels rise
abbrev pub RowsStand : {L : Type 0} → (Part → TyRef → Type 0) → List (L × Part) → List (L × TyRef) → Type 0
RowsStand {L} P parts rows = (written : List (L × TyRef)) × LabelledStand P parts written × IsPermutation written rows

-- the shape is that of the type, and its parts stand for the type's parts
abbrev pub TypeStands : (Part → TyRef → Type 0) → Option Written → Shape → Type 0
TypeStands P None s = ⊥
TypeStands P (Some (Opt part)) s = (r : TyRef) × (s ≡ compound (entries.Opt r)) × P part r
TypeStands P (Some (Seq part)) s = (r : TyRef) × (s ≡ compound (entries.Seq r)) × P part r
TypeStands P (Some (Rec fields)) s = (rows : List (ℕ × TyRef)) × (s ≡ compound (entries.Rec rows)) × RowsStand P fields rows
TypeStands P (Some (Var cases)) s = (rows : List (ℕ × TyRef)) × (s ≡ compound (entries.Var rows)) × RowsStand P cases rows
TypeStands P (Some (Func args results notes)) s = (from : List TyRef) × (to : List TyRef) × (s ≡ compound (entries.Func from to notes)) × PartsStand P args from × PartsStand P results to
TypeStands P (Some (Service methods)) s = (rows : List (List ℕ × TyRef)) × (s ≡ compound (entries.Service rows)) × RowsStand P methods rows

-- a part that is no name has the shape
abbrev pub PartStands : (Part → TyRef → Type 0) → List Written → Part → Shape → Type 0
PartStands P types (Prim p) s = s ≡ primitive p
PartStands P types Float s = ⊥
PartStands P types (Name name) s = ⊥
PartStands P types (Place place) s = TypeStands P (slice_get types place) s

-- the part means the reference, as far as a number of levels show; a name is replaced by its definition first
abbrev pub Denotes : ℕ → File → List Entry → Part → TyRef → Type 0
Denotes zero file table part r = Unit {0}
Denotes (suc n) file table part r = (found : Part) × StandsBehind file.definitions part found × PartStands (Denotes n file table) file.types found (shape table r)

-- the part stands for the reference, at every depth
abbrev pub StandsFor : File → List Entry → Part → TyRef → Type 0
StandsFor file table part r = (n : ℕ) → Denotes n file table part r

-- the file's service stands for the reference; there is both or neither
abbrev pub MainStands : File → List Entry → Option Main → Option TyRef → Type 0
MainStands file table None None = Unit {0}
MainStands file table None (Some r) = ⊥
MainStands file table (Some main) None = ⊥
MainStands file table (Some main) (Some r) = StandsFor file table main.service r

-- the types that the file's service is installed with, if there is one
abbrev pub tuple_of : Option Main → List Part
tuple_of None = []
tuple_of (Some main) = main.tuple

-- these types stand for the references
abbrev pub InitStands : File → List Entry → List TyRef → Type 0
InitStands file table init = PartsStand (StandsFor file table) (tuple_of file.main) init

-- the table and the service stand for the file's
pub record FileStands (file : File) (table : List Entry) (service : Option TyRef) : Type 0 where
  pub types : (place : ℕ) → place < length file.types → StandsFor file table (Place place) (Index place)
  pub main : MainStands file table file.main service
