-- How patterns are spelled at types: as Candid's values are (Candid specification, "Core Grammar", values), with `_`, `let NAME` and `..`, and with names
-- of which it is not known what they stand for.
use Rattle.std.specs.Prelude.{ℕ, zero, suc, Bool, true, false, ◌^◌, ◌==◌, ◌&&◌, ◌||◌, ◌-◌, List, [], ◌∷◌, ◌++◌, length, drop, set, Option, Some, None, codes, if◌then◌else◌}
use Rattle.std.specs.List.{list_any}
use Rattle.std.specs.Bool.{nat_eq}
use Rattle.ic_base.specs.Reader.{◌>>=◌}
use Rattle.cd_types.specs.declared.primitive.Primitive.{Primitive}
use Rattle.cd_types.specs.declared.primitive.Primitive.TheVariants as primitives
use Rattle.cd_types.specs.declared.entry.TyRef.{TyRef}
use Rattle.cd_types.specs.declared.entry.TyRef.TheVariants.{Prim, Index}
use Rattle.cd_types.specs.declared.entry.Entry.{Entry}
use Rattle.cd_types.specs.declared.entry.Entry.TheVariants.{Opt, Seq, Rec, Var, Func, Service}
use Rattle.cd_types.specs.Shape.{Shape, primitive, compound, dangling, shape}
use Rattle.cd_codec.specs.Content.{Content, plain, func, service, principal, nat8, blob, none}
use Rattle.cd_codec.specs.Wire.{is_nat8}
use Rattle.cd_tokens.specs.Token.{Token, run, quoted, mark, arrow}
use Rattle.cd_tokens.specs.Label.{is_name}
use Rattle.cd_tokens.specs.ReadLabel.{label_of, name_of}
use Rattle.cd_plain.specs.ReadPlain.{is_word, is_mark, starts, run_says, first_at, natural_at, string_at, principal_text_at, primitive_at, alone}
use Rattle.cd_text.specs.Words.{name_of as type_name}
use Rattle.cd_text.specs.Said.{type_of, place_of, left_out}
use Rattle.ct_names.specs.Words.{is_free_name}
use Rattle.ct_values.specs.declared.reader.Admitted.{Admitted}
use Rattle.ct_values.specs.Steps.{Step, anything, named, exactly, optional, sequence, some_fields, one_case, Reading, Reads, Giving, Said}

-- after the first token
abbrev pub past : Reading → Reading
past c = (c.0, c.1, drop 1 c.2)

-- after a mark
abbrev pub mark_at : ℕ → Reads
mark_at m c = if starts (is_mark m) c.2 then Some (past c) else None

-- after a word
abbrev pub word_at : List ℕ → Reads
word_at w c = if starts (is_word w) c.2 then Some (past c) else None

-- after a word and an opening brace
abbrev pub braces_at : List ℕ → Reads
braces_at w c = word_at w c >>= mark_at 123

-- after the semicolon of a part in braces; the last part needs none
abbrev pub separator_at : Reads
separator_at c = if starts (is_mark 125) c.2 then Some c else mark_at 59 c

-- one step more
abbrev pub add : Step → Reads
add step c = Some (c.0 ++ step ∷ [], c.1, c.2)

-- the step at a place is this one
abbrev pub put : ℕ → Step → Reading → Reading
put at step c = (set c.0 at step, c.1, c.2)

-- one of the values that may be said
abbrev pub spend : Reads
spend c = if c.1 == 0 then None else Some (c.0, c.1 - 1, c.2)

-- ---- what may be written in place of a value

abbrev pub starts_hole : Admitted → List Token → Bool
starts_hole admitted tokens = admitted.patterns && (starts (is_word (codes "_")) tokens || starts (is_word (codes "let")) tokens)

-- the name that is bound
abbrev pub bound_at : TyRef → Reads
bound_at type c = first_at (run_says (λ r. if is_name r then Some r else None)) c.2 >>= λ x. add (named x.0 type) (past c)

-- `_`, or `let` and a name
abbrev pub hole_at : TyRef → Reads
hole_at type c = if starts (is_word (codes "_")) c.2 then add anything (past c) else (word_at (codes "let") c >>= bound_at type)

-- a word that a name may be
abbrev pub is_free : Token → Bool
is_free (run r) = is_free_name r
is_free (quoted s) = false
is_free (mark m) = false
is_free arrow = false

-- a name of which it is not known what it stands for
abbrev pub starts_name : Admitted → List Token → Bool
starts_name admitted tokens = admitted.names && starts is_free tokens

abbrev pub unnamed : Reads
unnamed c = add anything (past c)

-- whether a type may follow
abbrev pub noted : Bool → Option Reading → Option (Bool × Reading)
noted is_value read = read >>= λ c. Some (is_value, c)

-- a value, or what is in its place; a type may follow a value and a name
abbrev pub or_hole : Admitted → TyRef → Reads → Giving Bool
or_hole admitted type read c =
    if starts_hole admitted c.2 then noted false (hole_at type c)
    else if starts_name admitted c.2 then noted true (unnamed c)
    else noted true (read c)

-- a colon and the name of a primitive type, where there is a colon
abbrev pub annotation_at : TyRef → Reads
annotation_at (Index i) c = Some c
annotation_at (Prim p) c = if starts (is_mark 58) c.2 then word_at (type_name p) (past c) else Some c

-- a value, and its type where this may follow
abbrev pub annotated_at : TyRef → Giving Bool → Giving Bool
annotated_at type read c = read c >>= λ x. if x.0 then noted true (annotation_at type x.1) else Some x

-- after an opening parenthesis
abbrev pub parenthesized_at : TyRef → Giving Bool → Giving Bool
parenthesized_at type read c = annotated_at type read c >>= λ x. noted x.0 (mark_at 41 x.1)

-- ---- values without parts

-- a word, and the text of a principal or a name in its place
abbrev pub principal_at : Admitted → List ℕ → Giving (Option (List ℕ))
principal_at admitted word c = do
  d ← word_at word c
  if starts_name admitted d.2 then Some (None, past d) else (principal_text_at d.2 >>= λ p. Some (Some p.0, past d))

-- what is meant, where the principal is known
abbrev pub if_known : {A : Type 0} → (A → Content) → Option A → Step
if_known f None = anything
if_known f (Some x) = exactly (f x)

abbrev pub reference_at : Admitted → List ℕ → (List ℕ → Content) → Reads
reference_at admitted word f c = principal_at admitted word c >>= λ x. add (if_known f x.0) x.1

abbrev pub method_at : Giving (List ℕ)
method_at c = first_at name_of c.2 >>= λ x. Some (x.0, past c)

abbrev pub func_at : Admitted → Reads
func_at admitted c = do
  p ← principal_at admitted (codes "func") c
  d ← mark_at 46 p.1
  m ← method_at d
  add (if_known (λ id. plain (func id m.0)) p.0) m.1

-- a primitive type's value
abbrev pub primitive_value_at : Admitted → Primitive → Reads
primitive_value_at admitted primitives.Principal c = reference_at admitted (codes "principal") (λ id. plain (principal id)) c
primitive_value_at admitted p c = alone plain (primitive_at p) 0 c.2 >>= λ x. add (exactly x.0) (past c)

-- ---- lists

-- parts up to a closing brace, `most` at most: how many they are, with those before
unfoldable pub parts_at : Giving Bool → ℕ → ℕ → Giving ℕ
parts_at read zero count c = if starts (is_mark 125) c.2 then Some (count, c) else None
parts_at read (suc most) count c = if starts (is_mark 125) c.2 then Some (count, c) else (read c >>= λ x. separator_at x.1 >>= parts_at read most (suc count))

-- a list in braces: how many values it has is known at its end
abbrev pub list_at : Giving Bool → Reads
list_at read c = do
  inner ← braces_at (codes "vec") c
  start ← add (sequence 0) inner
  x ← parts_at read (length c.2) 0 start
  mark_at 125 (put (length inner.0) (sequence x.0) x.1)

-- a byte that a number says
abbrev pub number_at : Reads
number_at c = natural_at (2 ^ 8) c.2 >>= λ x. add (exactly (plain (nat8 x.0))) (past c)

unfoldable pub byte_at : Admitted → ℕ → Giving Bool
byte_at admitted zero c = None
byte_at admitted (suc depth) c =
    if starts (is_mark 40) c.2 then parenthesized_at (Prim primitives.Nat8) (byte_at admitted depth) (past c) else or_hole admitted (Prim primitives.Nat8) number_at c

-- a string, or a name in its place
abbrev pub string_or_name : Admitted → Reads
string_or_name admitted c = if starts_name admitted c.2 then unnamed c else (string_at c.2 >>= λ x. add (exactly (blob x.0)) (past c))

abbrev pub blob_at : Admitted → ℕ → Reads
blob_at admitted depth c =
    if starts (is_word (codes "blob")) c.2 then string_or_name admitted (past c) else list_at (annotated_at (Prim primitives.Nat8) (byte_at admitted depth)) c

-- ---- records

abbrev pub is_said : ℕ → List ℕ → Bool
is_said place places = list_any (λ other. nat_eq other place) places

-- the id of the label that comes first
abbrev pub first_label : List Token → Option ℕ
first_label [] = None
first_label (t ∷ rest) = label_of t

-- the id of a field: its label's, or the next where it has none
abbrev pub id_at : ℕ → List Token → Option ℕ
id_at next tokens = if starts (is_mark 61) (drop 1 tokens) then first_label tokens else Some next

-- after the label, where there is one
abbrev pub past_label : Reading → Reading
past_label c = if starts (is_mark 61) (drop 1 c.2) then past (past c) else c

-- one more field, if it was not said
abbrev pub also : ℕ → ℕ → Said → Option Said
also place id said = if is_said place said.0 then None else Some (said.0 ++ place ∷ [], suc id)

abbrev pub field_at : (TyRef → Giving Bool) → List (ℕ × TyRef) → Said → Giving Said
field_at read fields said c = do
  id ← id_at said.1 c.2
  place ← place_of fields id
  type ← type_of fields id
  more ← also place id said
  x ← annotated_at type (read type) (past_label c)
  Some (more, x.1)

-- `..`, and maybe a semicolon
abbrev pub others_at : Reads
others_at c = do
  d ← mark_at 46 c
  e ← mark_at 46 d
  separator_at e

abbrev pub starts_others : Admitted → List Token → Bool
starts_others admitted tokens = admitted.patterns && starts (is_mark 46) tokens

-- a closing brace, or `..`, after which the other fields may be any: true; or what is next
abbrev pub ended_or : Admitted → Said → Option ((Bool × Said) × Reading) → Giving (Bool × Said)
ended_or admitted said next c =
    if starts (is_mark 125) c.2 then Some ((false, said), c)
    else if starts_others admitted c.2 then (others_at c >>= λ d. Some ((true, said), d))
    else next

-- fields, `most` at most
unfoldable pub fields_said_at : Admitted → (TyRef → Giving Bool) → List (ℕ × TyRef) → ℕ → Said → Giving (Bool × Said)
fields_said_at admitted read fields zero said c = ended_or admitted said None c
fields_said_at admitted read fields (suc most) said c = ended_or admitted said (field_at read fields said c >>= λ x. separator_at x.1 >>= fields_said_at admitted read fields most x.0) c

-- what stands for a value that is not said
abbrev pub missing_at : ℕ → Shape → Reads
missing_at depth s c = left_out depth s >>= λ v. spend c >>= add (exactly v)

-- a field at a place, if it was not said
abbrev pub if_missing : ℕ → List Entry → ℕ → TyRef → Said → Giving Said
if_missing depth table place type said c =
    if is_said place said.0 then Some (said, c) else (missing_at depth (shape table type) c >>= λ d. Some ((said.0 ++ place ∷ [], said.1), d))

-- the fields that are not said; the first of these is at a place
unfoldable pub missing_from : ℕ → List Entry → ℕ → List (ℕ × TyRef) → Said → Giving Said
missing_from depth table place [] said c = Some (said, c)
missing_from depth table place (field ∷ fields) said c = if_missing depth table place field.1 said c >>= λ x. missing_from depth table (suc place) fields x.0 x.1

-- a record: fields in any order, none twice, and those that are not said are missing, or may be any after `..`
abbrev pub record_at : Admitted → ℕ → List Entry → (TyRef → Giving Bool) → List (ℕ × TyRef) → Reads
record_at admitted depth table read fields c = do
  inner ← braces_at (codes "record") c
  start ← add (some_fields []) inner
  x ← fields_said_at admitted read fields (length c.2) ([], 0) start
  y ← (if x.0.0 then Some (x.0.1, x.1) else missing_from depth table 0 fields x.0.1 x.1)
  mark_at 125 (put (length inner.0) (some_fields y.0.0) y.1)

-- ---- other values with parts

abbrev pub opt_at : Giving Bool → Reads
opt_at read c =
    if starts (is_word (codes "null")) c.2 then add (exactly none) (past c)
    else (word_at (codes "opt") c >>= add optional >>= read >>= λ x. Some x.1)

-- the value of a case: `=` and a value, or a null that is not written
abbrev pub null_at : ℕ → List Entry → TyRef → Reads
null_at depth table (Prim primitives.Null) c = missing_at depth (primitive primitives.Null) c
null_at depth table type c = None

abbrev pub case_value_at : ℕ → List Entry → (TyRef → Giving Bool) → TyRef → Reads
case_value_at depth table read type c = if starts (is_mark 61) c.2 then (annotated_at type (read type) (past c) >>= λ x. Some x.1) else null_at depth table type c

-- a variant: one case
abbrev pub variant_at : ℕ → List Entry → (TyRef → Giving Bool) → List (ℕ × TyRef) → Reads
variant_at depth table read cases c = do
  d ← braces_at (codes "variant") c
  id ← first_label d.2
  place ← place_of cases id
  type ← type_of cases id
  e ← add (one_case place) (past d)
  f ← case_value_at depth table read type e
  g ← separator_at f
  mark_at 125 g

unfoldable pub entry_at : Admitted → ℕ → List Entry → (TyRef → Giving Bool) → Entry → Reads
entry_at admitted depth table read (Opt inner) c = opt_at (read inner) c
entry_at admitted depth table read (Seq item) c = if is_nat8 item then blob_at admitted (suc depth) c else list_at (annotated_at item (read item)) c
entry_at admitted depth table read (Rec fields) c = record_at admitted depth table read fields c
entry_at admitted depth table read (Var cases) c = variant_at depth table read cases c
entry_at admitted depth table read (Func args results notes) c = func_at admitted c
entry_at admitted depth table read (Service methods) c = reference_at admitted (codes "service") (λ id. plain (service id)) c

-- a value of a shape
abbrev pub shape_at : Admitted → ℕ → List Entry → (TyRef → Giving Bool) → Shape → Reads
shape_at admitted depth table read (primitive p) c = primitive_value_at admitted p c
shape_at admitted depth table read (compound entry) c = entry_at admitted depth table read entry c
shape_at admitted depth table read dangling c = None

-- a value that nests at most `depth` levels deep, or what is in its place
unfoldable pub value_at : Admitted → List Entry → ℕ → TyRef → Giving Bool
value_at admitted table zero type c = None
value_at admitted table (suc depth) type c =
    if starts (is_mark 40) c.2 then parenthesized_at type (value_at admitted table depth type) (past c)
    else (spend c >>= or_hole admitted type (shape_at admitted depth table (value_at admitted table depth) (shape table type)))

-- ---- all

abbrev pub is_end : List Token → Bool
is_end [] = true
is_end (t ∷ rest) = false

-- after the comma of an argument; the last needs none
abbrev pub comma_at : Reads
comma_at c = if is_end c.2 then Some c else mark_at 44 c

abbrev pub arguments_at : (TyRef → Giving Bool) → List TyRef → Reads
arguments_at read [] c = if is_end c.2 then Some c else None
arguments_at read (type ∷ types) c = annotated_at type (read type) c >>= λ x. comma_at x.1 >>= arguments_at read types

-- the pattern that the tokens between the parentheses spell, a value of each type. Nesting 128, parentheses counted, and 1,000,000 values are limits
-- of this replica, not of Candid
unfoldable pub spelled : Admitted → List Entry → List TyRef → List Token → Option (List Step)
spelled admitted table types tokens = arguments_at (value_at admitted table 128) types ([], 1000000, tokens) >>= λ c. Some c.0
