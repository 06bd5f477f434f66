-- Values without where they lie in memory (Candid specification, "Values").
use Rattle.std.specs.Prelude.{ℕ, ℤ, suc, Bool, List, [], ◌∷◌}

-- a value that has no parts
pub data Plain : Type 0 where
  null : Plain
  bool : Bool → Plain
  nat : ℕ → Plain
  int : ℤ → Plain
  nat8 : ℕ → Plain
  nat16 : ℕ → Plain
  nat32 : ℕ → Plain
  nat64 : ℕ → Plain
  int8 : ℤ → Plain
  int16 : ℤ → Plain
  int32 : ℤ → Plain
  int64 : ℤ → Plain
  text : List ℕ → Plain
  reserved : Plain
  func : List ℕ → List ℕ → Plain
  service : List ℕ → Plain
  principal : List ℕ → Plain

mutual
  -- a value: one without parts, bytes (`vec nat8`), an opt, another vec, a record, a variant
  pub data Content : Type 0 where
    plain : Plain → Content
    blob : List ℕ → Content
    none : Content
    some : Content → Content
    list : Contents → Content
    record_of : Parts → Content
    variant : ℕ → Content → Content

  -- a list of values
  pub data Contents : Type 0 where
    no_content : Contents
    content : Content → Contents → Contents

  -- the fields of a record: ids and values
  pub data Parts : Type 0 where
    no_part : Parts
    part : ℕ → Content → Parts → Parts

-- a list of values, made of a list
abbrev pub contents_of : List Content → Contents
contents_of [] = no_content
contents_of (v ∷ vs) = content v (contents_of vs)

-- the fields of a record, made of a list
abbrev pub parts_of : List (ℕ × Content) → Parts
parts_of [] = no_part
parts_of (p ∷ ps) = part p.0 p.1 (parts_of ps)

-- the length of a list of values
abbrev pub count_of : Contents → ℕ
count_of no_content = 0
count_of (content v vs) = suc (count_of vs)
