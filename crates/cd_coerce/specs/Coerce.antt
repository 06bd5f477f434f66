-- Candid specification, "Coercion": which value is read where a value of a type is read at an
-- expected type. `wire` is the table of the message and `expected` that of the expected types; `Below`
-- is subtyping, from a type of `wire` to one of `expected`. The standard's ints have no bound: that a nat
-- of 2^127 or more is read as no int is this project's limit
use Rattle.std.specs.Prelude.{◌≡◌, ◌⊎◌, ℕ, ◌<◌, ◌^◌, pos, true, false, List, [], ◌∷◌, Some, None, slice_get}
use Rattle.cd_types.specs.declared.primitive.Primitive.TheVariants.{Int, Reserved}
use Rattle.cd_types.specs.declared.entry.TyRef.{TyRef}
use Rattle.cd_types.specs.declared.entry.Entry.{Entry}
use Rattle.cd_types.specs.declared.entry.Entry.TheVariants.{Opt, Seq, Rec, Var}
use Rattle.cd_types.specs.Shape.{Shape, primitive, compound, shape}
use Rattle.cd_sub.specs.MayMiss.{may_miss}
use Rattle.cd_sub.specs.Sub.{Sub}
use Rattle.cd_codec.specs.Content.{Content, Plain, null, reserved, nat, int, plain, blob, none, some, list, record_of, variant, Contents, no_content, content, Parts, no_part, part}
use Rattle.cd_codec.specs.Plain.{HasShape}
use Rattle.cd_codec.specs.Wire.{is_nat8}
use Rattle.cd_coerce.specs.Missing.{missing}
use Rattle.cd_coerce.specs.Parts.{field_values, items_of, is_constituent, with_fields, under, case_from}

-- a value without parts: reserved for every value, the value itself, or a nat below 2^127 as an int
abbrev pub IsPlain : Content → Shape → Plain → Type 0
IsPlain v s p =
    ((p ≡ reserved) × (s ≡ primitive Reserved))
    ⊎ ((v ≡ plain p) × HasShape p s)
    ⊎ ((n : ℕ) × (v ≡ plain (nat n)) × (n < 2 ^ 127) × (p ≡ int (pos n)) × (s ≡ primitive Int))

-- bytes: a blob as it is, or an empty list of another type
abbrev pub IsBlob : Content → List ℕ → Type 0
IsBlob v bytes = (v ≡ blob bytes) ⊎ ((v ≡ list no_content) × (bytes ≡ []))

-- none at `opt w`: null, reserved or none; or some of a value, where the type of that value is no
-- subtype of w; or another value, where its type is no subtype of w, or w is null, reserved or an opt
abbrev pub IsNone : (TyRef → TyRef → Type 0) → List Entry → List Entry → TyRef → Content → TyRef → Type 0
IsNone Below wire expected t v w =
    (v ≡ plain null)
    ⊎ (v ≡ plain reserved)
    ⊎ (v ≡ none)
    ⊎ ((x : TyRef) × (y : Content) × (shape wire t ≡ compound (Opt x)) × (v ≡ some y) × (Below x w → ⊥))
    ⊎ ((is_constituent v ≡ true) × ((may_miss (shape expected w) ≡ false) × Below t w → ⊥))

abbrev mutual
  -- the value v of the type t of `wire`, read at the type u of `expected`, is the last argument
  pub Coerce : (TyRef → TyRef → Type 0) → List Entry → List Entry → TyRef → Content → TyRef → Content → Type 0
  Coerce Below wire expected t v u (plain p) = IsPlain v (shape expected u) p
  Coerce Below wire expected t v u (blob bytes) = (w x : TyRef) × (shape wire t ≡ compound (Seq w)) × (shape expected u ≡ compound (Seq x))
      × (is_nat8 x ≡ true) × IsBlob v bytes
  Coerce Below wire expected t v u none = (w : TyRef) × (shape expected u ≡ compound (Opt w)) × IsNone Below wire expected t v w
  Coerce Below wire expected t v u (some r) = (w : TyRef) × (shape expected u ≡ compound (Opt w))
      × (((x : TyRef) × (y : Content) × (shape wire t ≡ compound (Opt x)) × (v ≡ some y) × Below x w × Coerce Below wire expected x y w r)
      ⊎ ((is_constituent v ≡ true) × (may_miss (shape expected w) ≡ false) × Below t w × Coerce Below wire expected t v w r))
  Coerce Below wire expected t v u (list rs) = (w x : TyRef) × (shape wire t ≡ compound (Seq w)) × (shape expected u ≡ compound (Seq x))
      × (is_nat8 x ≡ false) × (vs : List Content) × (items_of v ≡ Some vs) × CoerceAll Below wire expected w vs x rs
  Coerce Below wire expected t v u (record_of rs) = (fs gs : List (ℕ × TyRef)) × (shape wire t ≡ compound (Rec fs)) × (shape expected u ≡ compound (Rec gs))
      × (ps : Parts) × (v ≡ record_of ps) × CoerceFields Below wire expected (with_fields fs (field_values ps)) gs rs
  Coerce Below wire expected t v u (variant i r) = (fs gs : List (ℕ × TyRef)) × (shape wire t ≡ compound (Var fs)) × (shape expected u ≡ compound (Var gs))
      × (j : ℕ) × (y : Content) × (v ≡ variant j y) × (f : ℕ × TyRef) × (slice_get fs j ≡ Some f)
      × (w : TyRef) × (case_from 0 f.0 gs ≡ Some (i, w)) × Coerce Below wire expected f.1 y w r

  -- each item in order
  pub CoerceAll : (TyRef → TyRef → Type 0) → List Entry → List Entry → TyRef → List Content → TyRef → Contents → Type 0
  CoerceAll Below wire expected t vs u no_content = vs ≡ []
  CoerceAll Below wire expected t vs u (content r rs) = (v : Content) × (more : List Content) × (vs ≡ v ∷ more)
      × Coerce Below wire expected t v u r × CoerceAll Below wire expected t more u rs

  -- each expected field: read from the field with its id, or missing
  pub CoerceFields : (TyRef → TyRef → Type 0) → List Entry → List Entry → List (ℕ × (TyRef × Content)) → List (ℕ × TyRef) → Parts → Type 0
  CoerceFields Below wire expected fields gs no_part = gs ≡ []
  CoerceFields Below wire expected fields gs (part i r rs) = (u : TyRef) × (more : List (ℕ × TyRef)) × (gs ≡ (i, u) ∷ more)
      × (((f : TyRef × Content) × (under i fields ≡ Some f) × Coerce Below wire expected f.0 f.1 u r)
      ⊎ ((under i fields ≡ None) × (missing (shape expected u) ≡ Some r)))
      × CoerceFields Below wire expected fields more rs

-- the value v of the type t of `wire`, read at the type u of `expected`, is r
abbrev pub IsReadAs : List Entry → List Entry → TyRef → Content → TyRef → Content → Type 0
IsReadAs wire expected t v u r = Coerce (λ a b. Sub wire a expected b) wire expected t v u r
