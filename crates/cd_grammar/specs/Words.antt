-- The words and marks of interface files (Candid specification, "Core Grammar").
use Rattle.std.specs.Prelude.{◌≡◌, ℕ, true, bytes_eq, find, if◌then◌else◌, List, [], ◌∷◌, Option, Some, None, codes}
use Rattle.cd_types.specs.declared.primitive.Primitive.TheVariants as primitives
use Rattle.cd_tokens.specs.Token.{Token, run}
pub use Rattle.cd_tokens.specs.Marks.{opening, closing, open_brace, close_brace, comma, semicolon, colon, equals}
use Rattle.cd_tokens.specs.Label.{is_name}
use Rattle.cd_grammar.specs.declared.word.Word.{Word}
use Rattle.cd_grammar.specs.declared.word.Word.TheVariants.{Prim, Float32, Float64, Blob, Opt, Seq, Rec, Var, Func, Service, Definition, Query, Oneway, CompositeQuery}

-- how a word is written
unfoldable pub spelling : Word → List ℕ
spelling (Prim primitives.Null) = codes "null"
spelling (Prim primitives.Bool) = codes "bool"
spelling (Prim primitives.Nat) = codes "nat"
spelling (Prim primitives.Int) = codes "int"
spelling (Prim primitives.Nat8) = codes "nat8"
spelling (Prim primitives.Nat16) = codes "nat16"
spelling (Prim primitives.Nat32) = codes "nat32"
spelling (Prim primitives.Nat64) = codes "nat64"
spelling (Prim primitives.Int8) = codes "int8"
spelling (Prim primitives.Int16) = codes "int16"
spelling (Prim primitives.Int32) = codes "int32"
spelling (Prim primitives.Int64) = codes "int64"
spelling (Prim primitives.Text) = codes "text"
spelling (Prim primitives.Reserved) = codes "reserved"
spelling (Prim primitives.Empty) = codes "empty"
spelling (Prim primitives.Principal) = codes "principal"
spelling Float32 = codes "float32"
spelling Float64 = codes "float64"
spelling Blob = codes "blob"
spelling Opt = codes "opt"
spelling Seq = codes "vec"
spelling Rec = codes "record"
spelling Var = codes "variant"
spelling Func = codes "func"
spelling Service = codes "service"
spelling Definition = codes "type"
spelling Query = codes "query"
spelling Oneway = codes "oneway"
spelling CompositeQuery = codes "composite_query"

abbrev pub words : List Word
words =
    Prim primitives.Null ∷ Prim primitives.Bool ∷ Prim primitives.Nat ∷ Prim primitives.Int ∷ Prim primitives.Nat8 ∷ Prim primitives.Nat16 ∷ Prim primitives.Nat32 ∷ Prim primitives.Nat64
    ∷ Prim primitives.Int8 ∷ Prim primitives.Int16 ∷ Prim primitives.Int32 ∷ Prim primitives.Int64 ∷ Prim primitives.Text ∷ Prim primitives.Reserved ∷ Prim primitives.Empty ∷ Prim primitives.Principal
    ∷ Float32 ∷ Float64 ∷ Blob ∷ Opt ∷ Seq ∷ Rec ∷ Var ∷ Func ∷ Service ∷ Definition ∷ Query ∷ Oneway ∷ CompositeQuery ∷ []

-- the word that is written so
unfoldable pub word_of : List ℕ → Option Word
word_of bytes = find (λ w. bytes_eq bytes (spelling w)) words

-- the first of some words with their spellings that is written so
abbrev pub word_in : List (List ℕ × Word) → List ℕ → Option Word
word_in [] bytes = None
word_in (row ∷ rows) bytes = if bytes_eq bytes row.0 then Some row.1 else word_in rows bytes

-- a word as a token
abbrev pub word : Word → Token
word w = run (spelling w)

-- a name that a definition may have: no word
abbrev pub IsFreeName : List ℕ → Type 0
IsFreeName name = (is_name name ≡ true) × (word_of name ≡ None)

-- the annotation that a word is
abbrev pub note_of : Word → Option ℕ
note_of Query = Some 1
note_of Oneway = Some 2
note_of CompositeQuery = Some 3
note_of _ = None
