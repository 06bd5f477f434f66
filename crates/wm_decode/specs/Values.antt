-- Values (WebAssembly Core 1.0, 5.1 and 5.2).
use Rattle.std.specs.Prelude.{◌≡◌, ℕ, List, [], ◌∷◌, ◌++◌, length, Option, Some, None, nat_eq, cond, IsUtf8}
use Rattle.ic_base.specs.Spelling.{Spelling, SpellsBoth, SpellsVec}
use Rattle.ic_leb.specs.declared.width.Width.TheVariants.{Wasm32}
use Rattle.ic_leb.specs.Spells.{SpellsUnsigned}

-- an unsigned number of 32 bits
abbrev pub SpellsU32 : Spelling ℕ
SpellsU32 = SpellsUnsigned Wasm32

-- one part and then another
abbrev pub SpellsPair : {A B : Type 0} → Spelling A → Spelling B → Spelling (A × B)
SpellsPair P Q = SpellsBoth P (λ _. Q)

-- this byte, and what comes after it
pub record After (byte : ℕ) (P : List ℕ → Type 0) (bytes : List ℕ) : Type 0 where
  pub rest : List ℕ
  pub whole : bytes ≡ byte ∷ rest
  pub behind : P rest

-- a vector: the number of its items, and each of them
abbrev pub SpellsList : {A : Type 0} → Spelling A → Spelling (List A)
SpellsList = SpellsVec SpellsU32

-- a vector of bytes
pub record SpellsBytes (items bytes : List ℕ) : Type 0 where
  pub count : List ℕ
  pub whole : bytes ≡ count ++ items
  pub counted : SpellsU32 (length items) count

-- a name: a vector of bytes that are UTF-8
pub record SpellsName (name bytes : List ℕ) : Type 0 where
  pub utf8 : IsUtf8 name
  pub spelled : SpellsBytes name bytes

-- what is beside the number in a table
abbrev pub lookup : {A : Type 0} → ℕ → List (ℕ × A) → Option A
lookup n [] = None
lookup n (row ∷ rows) = cond (nat_eq n row.0) (Some row.1) (lookup n rows)

-- the byte that stands for the value in a table
pub record Coded {A : Type 0} (rows : List (ℕ × A)) (x : A) (bytes : List ℕ) : Type 0 where
  pub byte : ℕ
  pub found : lookup byte rows ≡ Some x
  pub whole : bytes ≡ byte ∷ []
