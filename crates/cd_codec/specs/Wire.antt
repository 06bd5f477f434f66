-- Which bytes spell a value at a type (Candid specification, "Binary Format", M).
use Rattle.std.specs.Prelude.{◌≡◌, ℕ, Bool, true, false, List, [], ◌∷◌, ◌++◌, Some, slice_get}
use Rattle.cd_types.specs.declared.primitive.Primitive.TheVariants.{Nat8}
use Rattle.cd_types.specs.declared.entry.TyRef.{TyRef}
use Rattle.cd_types.specs.declared.entry.TyRef.TheVariants.{Prim}
use Rattle.cd_types.specs.declared.entry.Entry.{Entry}
use Rattle.cd_types.specs.declared.entry.Entry.TheVariants.{Opt, Seq, Rec, Var}
use Rattle.cd_types.specs.Shape.{compound, shape}
use Rattle.ic_leb.specs.declared.width.Width.TheVariants.{Candid}
use Rattle.ic_leb.specs.Spells.{SpellsUnsigned}
use Rattle.cd_codec.specs.Content.{Content, plain, blob, none, some, list, record_of, variant, Contents, no_content, content, Parts, no_part, part, count_of}
use Rattle.cd_codec.specs.Basic.{SpellsCounted}
use Rattle.cd_codec.specs.Plain.{HasShape, SpellsPlain}

-- the type is nat8
abbrev pub is_nat8 : TyRef → Bool
is_nat8 (Prim Nat8) = true
is_nat8 _ = false

abbrev mutual
  -- the bytes spell the value at the type of this table
  pub Wire : List Entry → TyRef → Content → List ℕ → Type 0
  Wire table type (plain p) bytes = HasShape p (shape table type) × SpellsPlain p bytes
  Wire table type (blob s) bytes = (item : TyRef) × (shape table type ≡ compound (Seq item)) × (is_nat8 item ≡ true) × SpellsCounted s bytes
  Wire table type none bytes = (inner : TyRef) × (shape table type ≡ compound (Opt inner)) × (bytes ≡ 0 ∷ [])
  Wire table type (some v) bytes = (inner : TyRef) × (shape table type ≡ compound (Opt inner))
      × (rest : List ℕ) × (bytes ≡ 1 ∷ rest) × Wire table inner v rest
  Wire table type (list vs) bytes = (item : TyRef) × (shape table type ≡ compound (Seq item)) × (is_nat8 item ≡ false)
      × (count rest : List ℕ) × (bytes ≡ count ++ rest) × SpellsUnsigned Candid (count_of vs) count × WireAll table item vs rest
  Wire table type (record_of ps) bytes = (fields : List (ℕ × TyRef)) × (shape table type ≡ compound (Rec fields)) × WireParts table fields ps bytes
  Wire table type (variant i v) bytes = (cases : List (ℕ × TyRef)) × (shape table type ≡ compound (Var cases))
      × (case : ℕ × TyRef) × (slice_get cases i ≡ Some case)
      × (place rest : List ℕ) × (bytes ≡ place ++ rest) × SpellsUnsigned Candid i place × Wire table case.1 v rest

  -- the values one after the other, all of one type
  pub WireAll : List Entry → TyRef → Contents → List ℕ → Type 0
  WireAll table item no_content bytes = bytes ≡ []
  WireAll table item (content v vs) bytes = (front rest : List ℕ) × (bytes ≡ front ++ rest) × Wire table item v front × WireAll table item vs rest

  -- the parts one after the other, each with the id and type of its field
  pub WireParts : List Entry → List (ℕ × TyRef) → Parts → List ℕ → Type 0
  WireParts table fields no_part bytes = (fields ≡ []) × (bytes ≡ [])
  WireParts table fields (part i v ps) bytes = (field : ℕ × TyRef) × (more : List (ℕ × TyRef)) × (fields ≡ field ∷ more) × (i ≡ field.0)
      × (front rest : List ℕ) × (bytes ≡ front ++ rest) × Wire table field.1 v front × WireParts table more ps rest
