-- Which tokens are which interface file (Candid specification, "Core Grammar": types, services and files).
use Rattle.std.specs.Prelude.{◌≡◌, ℕ, zero, suc, true, List, [], ◌∷◌, ◌++◌, length, Option, Some, None, ◌⊎◌}
use Rattle.std.specs.Str.{is_utf8}
use Rattle.cd_types.specs.declared.primitive.Primitive.TheVariants as primitives
use Rattle.cd_tokens.specs.Token.{Token, run, quoted, mark, arrow}
use Rattle.cd_tokens.specs.Label.{is_name, IsLabel, IsNameOf}
use Rattle.cd_tokens.specs.Lexed.{IsTokens}
use Rattle.cd_tokens.specs.Unescaped.{Unescaped}
pub use Rattle.cd_tokens.specs.WritesParts.{Writing, WritesParts}
use Rattle.cd_grammar.specs.declared.word.Word.{Word}
use Rattle.cd_grammar.specs.declared.word.Word.TheVariants as words
use Rattle.cd_grammar.specs.declared.written.Part.{Part}
use Rattle.cd_grammar.specs.declared.written.Part.TheVariants.{Prim, Float, Name, Place}
use Rattle.cd_grammar.specs.declared.written.Written.{Written}
use Rattle.cd_grammar.specs.declared.written.Written.TheVariants.{Opt, Seq, Rec, Var, Func, Service}
use Rattle.cd_grammar.specs.File.{File}
use Rattle.cd_grammar.specs.declared.written.Main.{Main}
use Rattle.cd_grammar.specs.Words.{word, IsFreeName, note_of, opening, closing, open_brace, close_brace, comma, colon, semicolon, equals}

-- how something is written, with the types with parts that are written so far as state
abbrev pub Writes : Type 0 → Type 1
Writes A = Writing (List Written) A

-- one more type is written, at the next place
abbrev pub Adds : List Written → Written → Part → List Written → Type 0
Adds before written part after = (part ≡ Place (length before)) × (after ≡ before ++ written ∷ [])

-- a label, a colon and a type
abbrev pub WritesLabelled : Writes Part → Writes (ℕ × Part)
WritesLabelled P before field after tokens = (label : Token) × (inner : List Token) × (tokens ≡ label ∷ colon ∷ inner) × IsLabel field.0 label × P before field.1 after inner

-- a field of a record: with its label, or a type alone, whose id is the next
abbrev pub WritesField : Writes Part → ℕ → Writes (ℕ × Part)
WritesField P next before field after tokens = WritesLabelled P before field after tokens ⊎ ((field.0 ≡ next) × P before field.1 after tokens)

-- a case of a variant: with its type, or a label alone, whose type is null
abbrev pub WritesCase : Writes Part → ℕ → Writes (ℕ × Part)
WritesCase P next before field after tokens = WritesLabelled P before field after tokens
    ⊎ ((label : Token) × (tokens ≡ label ∷ []) × IsLabel field.0 label × (field.1 ≡ Prim primitives.Null) × (after ≡ before))

-- the id after a field
abbrev pub after_field : ℕ × Part → ℕ
after_field field = suc field.0

abbrev pub no_place : {A : Type 0} → A → ℕ
no_place x = 0

-- the name before an argument's colon, which has no meaning: any word, those of the grammar among them, or any string
abbrev pub IsArgumentName : Token → Type 0
IsArgumentName (run r) = is_name r ≡ true
IsArgumentName (quoted s) = (said : List ℕ) × Unescaped said s
IsArgumentName (mark m) = ⊥
IsArgumentName arrow = ⊥

-- a type of a tuple, maybe after a name and a colon
abbrev pub WritesArgument : Writes Part → ℕ → Writes Part
WritesArgument P next before part after tokens = P before part after tokens
    ⊎ ((name : Token) × (inner : List Token) × (tokens ≡ name ∷ colon ∷ inner) × IsArgumentName name × P before part after inner)

-- types in parentheses
abbrev pub WritesTuple : Writes Part → Writes (List Part)
WritesTuple P before parts after tokens = (rest : List Token) × (tokens ≡ opening ∷ rest) × WritesParts comma closing (WritesArgument P) no_place 0 before parts after rest

abbrev pub WritesNotes : List ℕ → List Token → Type 0
WritesNotes [] tokens = tokens ≡ []
WritesNotes (note ∷ notes) tokens = (w : Word) × (rest : List Token) × (tokens ≡ word w ∷ rest) × (note_of w ≡ Some note) × WritesNotes notes rest

-- a function type: arguments, results, annotations
pub record WritesFunction (P : Writes Part) (before : List Written) (part : Part) (after : List Written) (tokens : List Token) : Type 0 where
  pub args : List Part
  pub results : List Part
  pub notes : List ℕ
  pub between : List Written
  pub behind : List Written
  pub front : List Token
  pub middle : List Token
  pub rest : List Token
  pub whole : tokens ≡ front ++ (arrow ∷ (middle ++ rest))
  pub has_args : WritesTuple P before args between front
  pub has_results : WritesTuple P between results behind middle
  pub has_notes : WritesNotes notes rest
  pub is : Adds behind (Func args results notes) part after

-- a method: its name, a colon, and its type
abbrev pub WritesMethod : Writes Part → ℕ → Writes (List ℕ × Part)
WritesMethod M next before method after tokens = (label : Token) × (inner : List Token) × (tokens ≡ label ∷ colon ∷ inner) × IsNameOf method.0 label × M before method.1 after inner

-- a name that stands as a type
abbrev pub WritesName : Writes Part
WritesName before part after tokens = (name : List ℕ) × (part ≡ Name name) × (tokens ≡ run name ∷ []) × IsFreeName name × (after ≡ before)

-- the methods of a service, in braces
abbrev pub WritesService : Writes Part → Writes Part
WritesService M before part after tokens = (methods : List (List ℕ × Part)) × (between : List Written) × (rest : List Token) × (tokens ≡ open_brace ∷ rest)
    × WritesParts semicolon close_brace (WritesMethod M) no_place 0 before methods between rest × Adds between (Service methods) part after

-- a record or a variant after its word: fields in braces
abbrev pub WritesFields : (ℕ → Writes (ℕ × Part)) → (ℕ × Part → ℕ) → (List (ℕ × Part) → Written) → Writes Part
WritesFields P step made before part after tokens = (fields : List (ℕ × Part)) × (between : List Written) × (rest : List Token) × (tokens ≡ open_brace ∷ rest)
    × WritesParts semicolon close_brace P step 0 before fields between rest × Adds between (made fields) part after

-- an opt or a vec after its word
abbrev pub WritesInner : Writes Part → (Part → Written) → Writes Part
WritesInner P made before part after tokens = (inner : Part) × (between : List Written) × P before inner between tokens × Adds between (made inner) part after

-- what is written after a word that begins a type
abbrev pub WritesBehind : Writes Part → Writes Part → Word → Writes Part
WritesBehind P M (words.Prim p) before part after tokens = (part ≡ Prim p) × (after ≡ before) × (tokens ≡ [])
WritesBehind P M words.Float32 before part after tokens = (part ≡ Float) × (after ≡ before) × (tokens ≡ [])
WritesBehind P M words.Float64 before part after tokens = (part ≡ Float) × (after ≡ before) × (tokens ≡ [])
WritesBehind P M words.Blob before part after tokens = (tokens ≡ []) × Adds before (Seq (Prim primitives.Nat8)) part after
WritesBehind P M words.Opt before part after tokens = WritesInner P (λ t. Opt t) before part after tokens
WritesBehind P M words.Seq before part after tokens = WritesInner P (λ t. Seq t) before part after tokens
WritesBehind P M words.Rec before part after tokens = WritesFields (WritesField P) after_field (λ fs. Rec fs) before part after tokens
WritesBehind P M words.Var before part after tokens = WritesFields (WritesCase P) no_place (λ fs. Var fs) before part after tokens
WritesBehind P M words.Func before part after tokens = WritesFunction P before part after tokens
WritesBehind P M words.Service before part after tokens = WritesService M before part after tokens
WritesBehind P M _ before part after tokens = ⊥

abbrev mutual
  -- a type, within a number of levels
  pub WritesType : ℕ → Writes Part
  WritesType zero before part after tokens = ⊥
  WritesType (suc depth) before part after tokens = WritesName before part after tokens
      ⊎ ((w : Word) × (rest : List Token) × (tokens ≡ word w ∷ rest) × WritesBehind (WritesType depth) (WritesMethodType depth) w before part after rest)

  -- the type of a method, within a number of levels: a function type without its word, or a name
  pub WritesMethodType : ℕ → Writes Part
  WritesMethodType zero before part after tokens = ⊥
  WritesMethodType (suc depth) before part after tokens = WritesName before part after tokens ⊎ WritesFunction (WritesType depth) before part after tokens

-- how deep types may nest: a limit of this replica, not of Candid
abbrev pub max_depth : ℕ
max_depth = 128

-- the end of the file, maybe after a semicolon
abbrev pub IsEnd : List Token → Type 0
IsEnd tokens = (tokens ≡ []) ⊎ (tokens ≡ semicolon ∷ [])

-- the name of the service, which has no meaning: any word, those of the grammar among them, or none
abbrev pub IsServiceName : List Token → Type 0
IsServiceName tokens = (tokens ≡ []) ⊎ ((name : List ℕ) × (tokens ≡ run name ∷ []) × (is_name name ≡ true))

-- the types that the service is installed with, and an arrow, which may be left out
abbrev pub WritesInstalled : Writes (List Part)
WritesInstalled before parts after tokens = ((parts ≡ []) × (after ≡ before) × (tokens ≡ []))
    ⊎ ((front : List Token) × (tokens ≡ front ++ arrow ∷ []) × WritesTuple (WritesType max_depth) before parts after front)

-- the service of a file: methods, or a name; it is no level of nesting itself
pub record WritesMain (before : List Written) (main : Main) (after : List Written) (tokens : List Token) : Type 0 where
  pub between : List Written
  pub name : List Token
  pub tuple : List Token
  pub type : List Token
  pub end : List Token
  pub whole : tokens ≡ word words.Service ∷ (name ++ (colon ∷ (tuple ++ (type ++ end))))
  pub named : IsServiceName name
  pub installed : WritesInstalled before main.tuple between tuple
  pub is : WritesName between main.service after type ⊎ WritesService (WritesMethodType max_depth) between main.service after type
  pub ended : IsEnd end

-- a definition: `type`, its name, `=` and its type
abbrev pub WritesDefinition : Writes (List ℕ × Part)
WritesDefinition before definition after tokens = (rest : List Token) × (tokens ≡ word words.Definition ∷ run definition.0 ∷ equals ∷ rest) × IsFreeName definition.0 × WritesType max_depth before definition.1 after rest

-- what comes after the definitions
abbrev pub WritesRest : Writes (Option Main)
WritesRest before None after tokens = (tokens ≡ []) × (after ≡ before)
WritesRest before (Some main) after tokens = WritesMain before main after tokens

-- definitions, each with a semicolon, which may be missing at the end of the file, and what comes after them
abbrev pub WritesFile : List (List ℕ × Part) → Writes (Option Main)
WritesFile [] before main after tokens = WritesRest before main after tokens
WritesFile (definition ∷ definitions) before main after tokens = (between : List Written) × (front : List Token) × (rest : List Token) × (tokens ≡ front ++ rest) × WritesDefinition before definition between front
    × (((definitions ≡ []) × (main ≡ None) × (after ≡ between) × (rest ≡ [])) ⊎ ((more : List Token) × (rest ≡ semicolon ∷ more) × WritesFile definitions between main after more))

-- the text is the file: UTF-8, whose tokens are written so
pub record IsFile (file : File) (text : List ℕ) : Type 0 where
  pub tokens : List Token
  pub utf8 : is_utf8 text ≡ true
  pub lexed : IsTokens true tokens text
  pub written : WritesFile file.definitions [] file.main file.types tokens
