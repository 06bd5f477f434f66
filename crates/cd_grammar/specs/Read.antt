-- Interface files as functions that read tokens.
use Rattle.std.specs.Prelude.{ℕ, zero, suc, Bool, true, false, ◌+◌, List, [], ◌∷◌, ◌++◌, length, drop, Option, Some, None, is_some, if◌then◌else◌}
use Rattle.ic_base.specs.Reader.{◌>>=◌}
use Rattle.cd_types.specs.declared.primitive.Primitive.TheVariants as primitives
use Rattle.cd_tokens.specs.Token.{Token, run, quoted, mark, arrow}
use Rattle.cd_tokens.specs.Label.{is_name}
use Rattle.cd_tokens.specs.ReadLabel.{name_of, label_of}
use Rattle.cd_tokens.specs.ReadString.{unescaped_of}
use Rattle.cd_grammar.specs.declared.reading.Rows.{Rows}
use Rattle.cd_grammar.specs.declared.reading.Rows.TheVariants.{Fields, Cases}
use Rattle.cd_grammar.specs.declared.word.Word.{Word}
use Rattle.cd_grammar.specs.declared.word.Word.TheVariants as words
use Rattle.cd_grammar.specs.declared.written.Part.{Part}
use Rattle.cd_grammar.specs.declared.written.Part.TheVariants.{Prim, Float, Name, Place}
use Rattle.cd_grammar.specs.declared.written.Written.{Written}
use Rattle.cd_grammar.specs.declared.written.Written.TheVariants.{Opt, Seq, Rec, Var, Func, Service}
use Rattle.cd_grammar.specs.declared.written.Main.{Main}
use Rattle.cd_grammar.specs.File.{File}
use Rattle.cd_grammar.specs.Words.{word_of, note_of}
use Rattle.cd_grammar.specs.Grammar.{after_field, no_place, max_depth}
pub use Rattle.cd_tokens.specs.Front.{is_mark, starts}
pub use Rattle.cd_tokens.specs.ReadParts.{Reading, then_make, parts_at}

-- what reads something with the types with parts that are written so far as state
abbrev pub Reads : Type 0 → Type 0
Reads A = Reading (List Written) A

abbrev pub is_arrow : Token → Bool
is_arrow (run r) = false
is_arrow (quoted s) = false
is_arrow (mark m) = false
is_arrow arrow = true

-- a part after those before it, and what `step` makes of it
abbrev pub put_behind : {S A : Type 0} → (A → ℕ) → List A → A × S × List Token → Option (List A × ℕ × S × List Token)
put_behind step front x = Some (front ++ x.0 ∷ [], step x.0, x.1, x.2)

abbrev pub with_part : {S A : Type 0} → (A → ℕ) → List A → Option (A × S × List Token) → Option (List A × ℕ × S × List Token)
with_part step front read = read >>= put_behind step front

-- parts after an opening mark
abbrev pub enclosed_at : {S A : Type 0} → ℕ → ℕ → ℕ → (ℕ → Reading S A) → (A → ℕ) → Reading S (List A)
enclosed_at begin separator end read step state tokens =
    if starts (is_mark begin) tokens then parts_at separator end read step (length tokens) 0 state (drop 1 tokens) else None

-- one more type, of what was read
abbrev pub added : {A : Type 0} → (A → Written) → A × List Written × List Token → Option (Part × List Written × List Token)
added made x = Some (Place (length x.1), x.1 ++ made x.0 ∷ [], x.2)

-- the word that a token is
abbrev pub token_word : Token → Option Word
token_word (run r) = word_of r
token_word (quoted s) = None
token_word (mark m) = None
token_word arrow = None

-- the word that comes first
abbrev pub first_word : List Token → Option Word
first_word [] = None
first_word (t ∷ rest) = token_word t

-- the name that a token is, where it is no word
abbrev pub unless_word : List ℕ → Option Word → Option (List ℕ)
unless_word name None = Some name
unless_word name (Some w) = None

abbrev pub free_name : Token → Option (List ℕ)
free_name (run r) = if is_name r then unless_word r (word_of r) else None
free_name (quoted s) = None
free_name (mark m) = None
free_name arrow = None

-- a name that stands as a type
abbrev pub named_at : Reads Part
named_at types [] = None
named_at types (t ∷ rest) = free_name t >>= λ name. Some (Name name, types, rest)

-- a type after its label and a colon
abbrev pub labelled_at : Reads Part → Token → Reads (ℕ × Part)
labelled_at read label types tokens = label_of label >>= λ id. then_make (λ part. (id, part)) (read types tokens)

abbrev pub field_at : Reads Part → ℕ → Reads (ℕ × Part)
field_at read next types [] = None
field_at read next types (t ∷ rest) =
    if starts (is_mark 58) rest then labelled_at read t types (drop 1 rest) else then_make (λ part. (next, part)) (read types (t ∷ rest))

abbrev pub lone_case : Token → Reads (ℕ × Part)
lone_case label types rest = label_of label >>= λ id. Some ((id, Prim primitives.Null), types, rest)

abbrev pub case_at : Reads Part → ℕ → Reads (ℕ × Part)
case_at read next types [] = None
case_at read next types (t ∷ rest) = if starts (is_mark 58) rest then labelled_at read t types (drop 1 rest) else lone_case t types rest

-- fields or cases
abbrev pub row_at : Rows → Reads Part → ℕ → Reads (ℕ × Part)
row_at Fields read = field_at read
row_at Cases read = case_at read

abbrev pub id_after : Rows → ℕ → ℕ
id_after Fields id = suc id
id_after Cases id = 0

abbrev pub after_row : Rows → ℕ × Part → ℕ
after_row rows row = id_after rows row.0

abbrev pub rows_made : Rows → List (ℕ × Part) → Written
rows_made Fields items = Rec items
rows_made Cases items = Var items

-- the name before an argument's colon
abbrev pub is_argument_name : Token → Bool
is_argument_name (run r) = is_name r
is_argument_name (quoted s) = is_some (unescaped_of s)
is_argument_name (mark m) = false
is_argument_name arrow = false

abbrev pub argument_at : Reads Part → ℕ → Reads Part
argument_at read next types [] = None
argument_at read next types (t ∷ rest) =
    if starts (is_mark 58) rest then (if is_argument_name t then read types (drop 1 rest) else None) else read types (t ∷ rest)

abbrev pub tuple_at : Reads Part → Reads (List Part)
tuple_at read types tokens = enclosed_at 40 44 41 (argument_at read) no_place types tokens

-- the annotation that a token is
abbrev pub token_note : Token → Option ℕ
token_note t = token_word t >>= note_of

abbrev pub with_note : Option ℕ → List Token → List ℕ × List Token → List ℕ × List Token
with_note None tokens more = ([], tokens)
with_note (Some note) tokens more = (note ∷ more.0, more.1)

-- the annotation that comes first
abbrev pub first_note : List Token → Option ℕ
first_note [] = None
first_note (t ∷ rest) = token_note t

-- annotations, as many as there are
unfoldable pub notes_at : List Token → List ℕ × List Token
notes_at [] = ([], [])
notes_at (t ∷ rest) = with_note (token_note t) (t ∷ rest) (notes_at rest)

abbrev pub noted : List Part → List Part × List Written × List Token → Option (Part × List Written × List Token)
noted args x = added (λ results. Func args results (notes_at x.2).0) (x.0, x.1, (notes_at x.2).1)

abbrev pub results_at : Reads Part → List Part × List Written × List Token → Option (Part × List Written × List Token)
results_at read x = if starts is_arrow x.2 then (tuple_at read x.1 (drop 1 x.2) >>= noted x.0) else None

abbrev pub function_at : Reads Part → Reads Part
function_at read types tokens = tuple_at read types tokens >>= results_at read

abbrev pub method_at : Reads Part → ℕ → Reads (List ℕ × Part)
method_at read next types [] = None
method_at read next types (t ∷ rest) =
    if starts (is_mark 58) rest then (name_of t >>= λ name. then_make (λ part. (name, part)) (read types (drop 1 rest))) else None

abbrev pub service_at : Reads Part → Reads Part
service_at read types tokens = enclosed_at 123 59 125 (method_at read) no_place types tokens >>= added (λ methods. Service methods)

abbrev pub fields_at : (ℕ → Reads (ℕ × Part)) → (ℕ × Part → ℕ) → (List (ℕ × Part) → Written) → Reads Part
fields_at read step made types tokens = enclosed_at 123 59 125 read step types tokens >>= added made

abbrev pub inner_at : Reads Part → (Part → Written) → Reads Part
inner_at read made types tokens = read types tokens >>= added made

-- a type after its word
unfoldable pub after_word_at : Reads Part → Reads Part → Word → Reads Part
after_word_at read method (words.Prim p) types tokens = Some (Prim p, types, tokens)
after_word_at read method words.Float32 types tokens = Some (Float, types, tokens)
after_word_at read method words.Float64 types tokens = Some (Float, types, tokens)
after_word_at read method words.Blob types tokens = added (λ item. Seq item) (Prim primitives.Nat8, types, tokens)
after_word_at read method words.Opt types tokens = inner_at read (λ t. Opt t) types tokens
after_word_at read method words.Seq types tokens = inner_at read (λ t. Seq t) types tokens
after_word_at read method words.Rec types tokens = fields_at (field_at read) after_field (λ fs. Rec fs) types tokens
after_word_at read method words.Var types tokens = fields_at (case_at read) no_place (λ fs. Var fs) types tokens
after_word_at read method words.Func types tokens = function_at read types tokens
after_word_at read method words.Service types tokens = service_at method types tokens
after_word_at read method _ types tokens = None

-- a type after its first token, if that is a word; else a name
abbrev pub worded_at : Reads Part → Reads Part → Option Word → Token → Reads Part
worded_at read method None t types rest = named_at types (t ∷ rest)
worded_at read method (Some w) t types rest = after_word_at read method w types rest

unfoldable mutual
  -- a type within a number of levels
  pub type_at : ℕ → Reads Part
  type_at zero types tokens = None
  type_at (suc depth) types [] = None
  type_at (suc depth) types (t ∷ rest) = worded_at (type_at depth) (method_type_at depth) (token_word t) t types rest

  -- the type of a method within a number of levels
  pub method_type_at : ℕ → Reads Part
  method_type_at zero types tokens = None
  method_type_at (suc depth) types tokens = if starts (is_mark 40) tokens then function_at (type_at depth) types tokens else named_at types tokens

-- a definition after the word `type`
abbrev pub defined_as : List ℕ → Reads (List ℕ × Part)
defined_as name types rest = if starts (is_mark 61) rest then then_make (λ part. (name, part)) (type_at max_depth types (drop 1 rest)) else None

abbrev pub definition_at : Reads (List ℕ × Part)
definition_at types [] = None
definition_at types (t ∷ rest) = free_name t >>= λ name. defined_as name types rest

abbrev pub is_type : Word → Bool
is_type words.Definition = true
is_type _ = false

abbrev pub is_service : Word → Bool
is_service words.Service = true
is_service _ = false

abbrev pub passes : (Word → Bool) → Option Word → Bool
passes test None = false
passes test (Some w) = test w

-- the token is a word that passes
abbrev pub is_word : (Word → Bool) → Token → Bool
is_word test t = passes test (token_word t)

-- there are no tokens
abbrev pub are_none : List Token → Bool
are_none [] = true
are_none (t ∷ rest) = false

-- after a definition: the end of the file, or a semicolon and more
abbrev pub behind_definition : Reads (List (List ℕ × Part)) → (List ℕ × Part) × List Written × List Token → Option (List (List ℕ × Part) × List Written × List Token)
behind_definition more x =
    if are_none x.2 then Some (x.0 ∷ [], x.1, x.2)
    else if starts (is_mark 59) x.2 then then_make (λ ds. x.0 ∷ ds) (more x.1 (drop 1 x.2)) else None

-- definitions, fewer than `fuel`
unfoldable pub definitions_at : ℕ → Reads (List (List ℕ × Part))
definitions_at zero types tokens = None
definitions_at (suc fuel) types tokens =
    if starts (is_word is_type) tokens then (definition_at types (drop 1 tokens) >>= behind_definition (definitions_at fuel)) else Some ([], types, tokens)

-- the token is a word
abbrev pub is_any_word : Token → Bool
is_any_word (run r) = is_name r
is_any_word (quoted s) = false
is_any_word (mark m) = false
is_any_word arrow = false

-- after the service's name and colon
abbrev pub past_colon : List Token → Option (List Token)
past_colon tokens = if starts (is_mark 58) tokens then Some (drop 1 tokens) else None

abbrev pub past_name : List Token → Option (List Token)
past_name [] = None
past_name (t ∷ rest) = if is_mark 58 t then Some rest else if is_any_word t then past_colon rest else None

abbrev pub past_arrow : List Part × List Written × List Token → Option (List Part × List Written × List Token)
past_arrow x = if starts is_arrow x.2 then Some (x.0, x.1, drop 1 x.2) else None

-- the types that the service is installed with
abbrev pub installed_at : Reads (List Part)
installed_at types tokens = if starts (is_mark 40) tokens then (tuple_at (type_at max_depth) types tokens >>= past_arrow) else Some ([], types, tokens)

abbrev pub served_at : Reads Part
served_at types tokens = if starts (is_mark 123) tokens then service_at (method_type_at max_depth) types tokens else named_at types tokens

abbrev pub is_end : List Token → Bool
is_end [] = true
is_end (t ∷ []) = is_mark 59 t
is_end (t ∷ u ∷ rest) = false

abbrev pub main_of : List Part → Part × List Written × List Token → Option (Main × List Written)
main_of tuple x = if is_end x.2 then Some (record { tuple = tuple; service = x.0 }, x.1) else None

-- the service after the types that it is installed with, and the end
abbrev pub main_with : List Part → List Written → List Token → Option (Main × List Written)
main_with tuple types tokens = served_at types tokens >>= main_of tuple

abbrev pub main_behind : List Written → List Token → Option (Main × List Written)
main_behind types tokens = installed_at types tokens >>= λ installed. main_with installed.0 installed.1 installed.2

-- the service after its word, and the end
abbrev pub main_at : List Written → List Token → Option (Main × List Written)
main_at types tokens = past_name tokens >>= main_behind types

-- the service, if there is one, and the end
abbrev pub rest_at : List Written → List Token → Option (Option Main × List Written)
rest_at types [] = Some (None, types)
rest_at types (t ∷ rest) = if is_word is_service t then (main_at types rest >>= λ x. Some (Some x.0, x.1)) else None

-- the file of definitions, types and what comes after the definitions
abbrev pub with_rest : List (List ℕ × Part) × List Written × List Token → Option File
with_rest x = rest_at x.1 x.2 >>= λ y. Some (record { types = y.1; definitions = x.0; main = y.0 })

abbrev pub file_from : List Written → List Token → Option File
file_from types tokens = definitions_at (length tokens + 1) types tokens >>= with_rest

unfoldable pub file_at : List Token → Option File
file_at tokens = file_from [] tokens
