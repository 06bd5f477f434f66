-- Which bytes spell a value, for the ways to make one reader of others.
use Rattle.std.specs.Prelude.{◌≡◌, ℕ, List, [], ◌∷◌, ◌++◌, length}

-- which bytes spell a value of the type
abbrev pub Spelling : Type 0 → Type 1
Spelling A = A → List ℕ → Type 0

-- one part and then another, which may depend on the first
pub record SpellsBoth {A B : Type 0} (P : Spelling A) (Q : A → Spelling B) (x : A × B) (bytes : List ℕ) : Type 0 where
  pub front : List ℕ
  pub rest : List ℕ
  pub whole : bytes ≡ front ++ rest
  pub first : P x.0 front
  pub second : Q x.0 x.1 rest

-- a spelling of each value, in order
abbrev pub SpellsMany : {A : Type 0} → Spelling A → Spelling (List A)
SpellsMany P [] bytes = bytes ≡ []
SpellsMany P (x ∷ xs) bytes = (front rest : List ℕ) × (bytes ≡ front ++ rest) × P x front × SpellsMany P xs rest

-- the number of the values, and a spelling of each
pub record SpellsVec {A : Type 0} (Count : Spelling ℕ) (P : Spelling A) (xs : List A) (bytes : List ℕ) : Type 0 where
  pub front : List ℕ
  pub rest : List ℕ
  pub whole : bytes ≡ front ++ rest
  pub count : Count (length xs) front
  pub values : SpellsMany P xs rest

-- the length of a spelling of the value, and that spelling
pub record SpellsSized {A : Type 0} (Size : Spelling ℕ) (P : Spelling A) (x : A) (bytes : List ℕ) : Type 0 where
  pub front : List ℕ
  pub content : List ℕ
  pub whole : bytes ≡ front ++ content
  pub size : Size (length content) front
  pub value : P x content
