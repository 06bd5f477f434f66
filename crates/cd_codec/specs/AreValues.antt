-- The values of a message (Candid specification, "Binary Format", B and M).
use Rattle.std.specs.Prelude.{◌≡◌, ℕ, ◌≤◌, List, [], ◌∷◌, ◌++◌}
use Rattle.cd_types.specs.declared.entry.TyRef.{TyRef}
use Rattle.cd_types.specs.declared.entry.Entry.{Entry}
use Rattle.cd_codec.specs.Content.{Content}
use Rattle.cd_codec.specs.Measure.{nesting_each, number_each}
use Rattle.cd_codec.specs.Wire.{Wire}

-- the bytes spell the values one after the other, each at its type
abbrev pub WireEach : List Entry → List TyRef → List Content → List ℕ → Type 0
WireEach table types [] bytes = (types ≡ []) × (bytes ≡ [])
WireEach table types (v ∷ vs) bytes = (type : TyRef) × (more : List TyRef) × (types ≡ type ∷ more)
    × (front rest : List ℕ) × (bytes ≡ front ++ rest) × Wire table type v front × WireEach table more vs rest

-- the values have the types: some bytes spell them, whatever their nesting and number
abbrev pub HasTypes : List Entry → List TyRef → List Content → Type 0
HasTypes table types values = (bytes : List ℕ) × WireEach table types values bytes

-- the bytes are the values of a message with these types. Nesting 128 and 1,000,000 values are limits of this replica, not of Candid
pub record AreValues (table : List Entry) (types : List TyRef) (values : List Content) (bytes : List ℕ) : Type 0 where
  pub spelled : WireEach table types values bytes
  pub deep : nesting_each values ≤ 128
  pub many : number_each values ≤ 1000000
