-- How values are said, as functions that read tokens, within a depth and a number of values.
use Rattle.std.specs.Prelude.{ℕ, zero, suc, Bool, true, false, ◌^◌, ◌==◌, ◌&&◌, nat_le, List, [], ◌∷◌, length, drop, map, Option, Some, None, slice_get, codes, if◌then◌else◌, ◌+◌, ◌-◌}
use Rattle.ic_base.specs.Reader.{◌>>=◌}
use Rattle.cd_types.specs.declared.primitive.Primitive.{Primitive}
use Rattle.cd_types.specs.declared.primitive.Primitive.TheVariants.{Null}
use Rattle.cd_types.specs.declared.entry.TyRef.{TyRef}
use Rattle.cd_types.specs.declared.entry.TyRef.TheVariants.{Prim, Index}
use Rattle.cd_types.specs.declared.entry.Entry.{Entry}
use Rattle.cd_types.specs.declared.entry.Entry.TheVariants.{Opt, Seq, Rec, Var, Func, Service}
use Rattle.cd_types.specs.Shape.{Shape, primitive, compound, dangling, shape}
use Rattle.cd_codec.specs.Content.{Content, plain, null, func, service, blob, none, some, list, record_of, variant, contents_of, parts_of}
use Rattle.cd_codec.specs.Wire.{is_nat8}
use Rattle.cd_tokens.specs.Token.{Token}
use Rattle.cd_tokens.specs.ReadLabel.{label_of}
use Rattle.std.specs.Option.{option_or}
use Rattle.cd_codec.specs.declared.value.Value.{Value}
use Rattle.cd_codec.specs.View.{view}
use Rattle.cd_text.specs.Words.{name_of}
use Rattle.cd_text.specs.Said.{type_of, value_of, is_absent, left_out, filled, place_of}
pub use Rattle.cd_tokens.specs.ReadParts.{then_make, parts_at}
use Rattle.cd_plain.specs.ReadPlain.{is_word, is_mark, starts, after_word, natural_at, string_at, principal_text_at, func_at, primitive_at, Budgeted, alone}

-- after the annotation, where there is one
abbrev pub past_name : Primitive → List Token → Option (List Token)
past_name p rest = if starts (is_word (name_of p)) rest then Some (drop 1 rest) else None

abbrev pub past_annotation : TyRef → List Token → Option (List Token)
past_annotation (Prim p) rest = if starts (is_mark 58) rest then past_name p (drop 1 rest) else Some rest
past_annotation (Index i) rest = if starts (is_mark 58) rest then None else Some rest

abbrev pub with_annotation : {A : Type 0} → TyRef → A × ℕ × List Token → Option (A × ℕ × List Token)
with_annotation type x = past_annotation type x.2 >>= λ rest. Some (x.0, x.1, rest)

abbrev pub annotated_at : {A : Type 0} → TyRef → Budgeted A → Budgeted A
annotated_at type read left tokens = read left tokens >>= with_annotation type

-- what is in parentheses
abbrev pub closed : {A : Type 0} → A × ℕ × List Token → Option (A × ℕ × List Token)
closed x = if starts (is_mark 41) x.2 then Some (x.0, x.1, drop 1 x.2) else None

-- after an opening parenthesis
abbrev pub parenthesized_at : {A : Type 0} → TyRef → Budgeted A → Budgeted A
parenthesized_at type read left tokens = annotated_at type read left (drop 1 tokens) >>= closed

-- parts in braces
abbrev pub braces_at : {A : Type 0} → (ℕ → Budgeted A) → (A → ℕ) → ℕ → Budgeted (List A)
braces_at read step most left tokens = parts_at 59 125 read step most 0 left tokens

-- a list in braces: its parts, where the word and an opening brace stand
abbrev pub in_braces : {A : Type 0} → List ℕ → (ℕ → Budgeted A) → (A → ℕ) → Budgeted (List A)
in_braces word read step left tokens =
    if starts (is_word word) tokens && starts (is_mark 123) (drop 1 tokens) then braces_at read step (length tokens) left (drop 1 (drop 1 tokens)) else None

abbrev pub opt_at : Budgeted Content → Budgeted Content
opt_at read left tokens =
    if starts (is_word (codes "null")) tokens then Some (none, left, drop 1 tokens)
    else if starts (is_word (codes "opt")) tokens then then_make some (read left (drop 1 tokens)) else None

-- each value of a vec
abbrev pub item_at : {A : Type 0} → TyRef → Budgeted A → ℕ → Budgeted A
item_at item read next = annotated_at item read

abbrev pub no_place_of : {A : Type 0} → A → ℕ
no_place_of x = 0

abbrev pub list_at : TyRef → Budgeted Content → Budgeted Content
list_at item read left tokens = then_make (λ us. list (contents_of us)) (in_braces (codes "vec") (item_at item read) no_place_of left tokens)

-- a byte that a number says, or one in parentheses
unfoldable pub byte_at : TyRef → ℕ → Budgeted ℕ
byte_at item zero left tokens = None
byte_at item (suc depth) left tokens =
    if starts (is_mark 40) tokens then parenthesized_at item (byte_at item depth) left tokens
    else (natural_at (2 ^ 8) tokens >>= λ x. Some (x.0, left, x.1))

-- blob and a string, or numbers in braces
abbrev pub blob_at : TyRef → ℕ → Budgeted Content
blob_at item depth left tokens =
    if starts (is_word (codes "blob")) tokens then alone blob string_at left (drop 1 tokens)
    else then_make blob (in_braces (codes "vec") (item_at item (byte_at item depth)) no_place_of left tokens)

-- a field whose id is known
abbrev pub typed_at : (TyRef → Budgeted Content) → List (ℕ × TyRef) → ℕ → Budgeted (ℕ × Content)
typed_at read fields id left tokens = type_of fields id >>= λ type. then_make (λ v. (id, v)) (annotated_at type (read type) left tokens)

-- a field: a label, = and a value, or a value alone
abbrev pub field_at : (TyRef → Budgeted Content) → List (ℕ × TyRef) → ℕ → Budgeted (ℕ × Content)
field_at read fields next left [] = None
field_at read fields next left (t ∷ rest) =
    if starts (is_mark 61) rest then (label_of t >>= λ id. typed_at read fields id left (drop 1 rest)) else typed_at read fields next left (t ∷ rest)

-- the place after a field
abbrev pub after_field : ℕ × Content → ℕ
after_field f = suc f.0

-- how many fields are not said
abbrev pub lack : Option Content → ℕ
lack None = 1
lack (Some v) = 0

abbrev pub absent : List (ℕ × Content) → List (ℕ × TyRef) → ℕ
absent said [] = 0
absent said (field ∷ fields) = lack (value_of said field.0) + absent said fields

-- there is a field
abbrev pub is_field : Option ℕ → Bool
is_field None = false
is_field (Some k) = true

-- each is a field of the type, and none is said twice
abbrev pub fits : List (ℕ × TyRef) → List (ℕ × Content) → Bool
fits fields [] = true
fits fields (x ∷ said) = fits fields said && is_field (place_of fields x.0) && is_absent x.0 said

-- the record of fields that were said, and what is left of the number of values
unfoldable pub made : ℕ → List Entry → List (ℕ × TyRef) → List (ℕ × Content) → ℕ → Option (Content × ℕ)
made depth table fields said left =
    if fits fields said && nat_le (absent said fields) left then (filled depth table said fields >>= λ ps. Some (record_of (parts_of ps), left - absent said fields)) else None

-- the values of the fields, where they are said
abbrev pub slots_at : List (ℕ × TyRef) → List (ℕ × Content) → Option (List (Option Content))
slots_at fields said = if fits fields said then Some (map (λ f. value_of said f.0) fields) else None

-- the fields in order: each as it is said, or left out
abbrev pub filled_slots : ℕ → List Entry → List (ℕ × TyRef) → List (Option Content) → Option (List (ℕ × Content))
filled_slots depth table [] slots = Some []
filled_slots depth table (field ∷ fields) [] = None
filled_slots depth table (field ∷ fields) (slot ∷ slots) = do
  v ← option_or slot (left_out depth (shape table field.1))
  vs ← filled_slots depth table fields slots
  Some ((field.0, v) ∷ vs)

abbrev pub slot_view : Option Value → Option Content
slot_view None = None
slot_view (Some v) = Some (view v)

abbrev pub record_at : (TyRef → Budgeted Content) → ℕ → List Entry → List (ℕ × TyRef) → Budgeted Content
record_at read depth table fields left tokens = in_braces (codes "record") (field_at read fields) after_field left tokens >>= λ x. made depth table fields x.0 x.1 >>= λ y. Some (y.0, y.1, x.2)

-- a null that may stand one level below
abbrev pub null_at : ℕ → Shape → Budgeted Content
null_at zero s left tokens = None
null_at (suc depth) (primitive Null) zero tokens = None
null_at (suc depth) (primitive Null) (suc left) tokens = Some (plain null, left, tokens)
null_at (suc depth) _ left tokens = None

-- the value of a case
abbrev pub case_at : (TyRef → Budgeted Content) → ℕ → List Entry → TyRef → Budgeted Content
case_at read depth table type left tokens = if starts (is_mark 61) tokens then annotated_at type (read type) left (drop 1 tokens) else null_at depth (shape table type) left tokens

-- the end of a variant
abbrev pub variant_ended : {A : Type 0} → A × ℕ × List Token → Option (A × ℕ × List Token)
variant_ended x =
    if starts (is_mark 125) x.2 then Some (x.0, x.1, drop 1 x.2)
    else if starts (is_mark 59) x.2 && starts (is_mark 125) (drop 1 x.2) then Some (x.0, x.1, drop 1 (drop 1 x.2)) else None

-- a case whose id is known
abbrev pub chosen_at : (TyRef → Budgeted Content) → ℕ → List Entry → List (ℕ × TyRef) → ℕ → Budgeted Content
chosen_at read depth table cases id left tokens = do
  place ← place_of cases id
  type ← type_of cases id
  then_make (λ v. variant place v) (case_at read depth table type left tokens >>= variant_ended)

-- a variant after its brace
abbrev pub labelled_at : (TyRef → Budgeted Content) → ℕ → List Entry → List (ℕ × TyRef) → Budgeted Content
labelled_at read depth table cases left [] = None
labelled_at read depth table cases left (t ∷ rest) = label_of t >>= λ id. chosen_at read depth table cases id left rest

abbrev pub variant_at : (TyRef → Budgeted Content) → ℕ → List Entry → List (ℕ × TyRef) → Budgeted Content
variant_at read depth table cases left tokens =
    if starts (is_word (codes "variant")) tokens && starts (is_mark 123) (drop 1 tokens) then labelled_at read depth table cases left (drop 1 (drop 1 tokens)) else None

-- a value of an entry, with a reader for its parts
unfoldable pub entry_at : ℕ → List Entry → (TyRef → Budgeted Content) → Entry → Budgeted Content
entry_at depth table read (Opt inner) = opt_at (read inner)
entry_at depth table read (Seq item) = λ left tokens. if is_nat8 item then blob_at item (suc depth) left tokens else list_at item (read item) left tokens
entry_at depth table read (Rec fields) = record_at read depth table fields
entry_at depth table read (Var cases) = variant_at read depth table cases
entry_at depth table read (Func args results notes) = alone (λ f. plain (func f.0 f.1)) func_at
entry_at depth table read (Service methods) = alone (λ p. plain (service p)) (after_word (codes "service") principal_text_at)

-- a value of a shape, with a reader for its parts
abbrev pub shape_at : ℕ → List Entry → (TyRef → Budgeted Content) → Shape → Budgeted Content
shape_at depth table read (primitive p) = alone plain (primitive_at p)
shape_at depth table read (compound entry) = entry_at depth table read entry
shape_at depth table read dangling = λ left tokens. None

-- a value that is one of those allowed
abbrev pub spend_one : Budgeted Content → Budgeted Content
spend_one read zero tokens = None
spend_one read (suc left) tokens = read left tokens

-- a value within a number of levels
unfoldable pub value_at : List Entry → ℕ → TyRef → Budgeted Content
value_at table zero type left tokens = None
value_at table (suc depth) type left tokens =
    if starts (is_mark 40) tokens then parenthesized_at type (value_at table depth type) left tokens
    else spend_one (shape_at depth table (value_at table depth) (shape table type)) left tokens

-- an argument, at the type of its place
abbrev pub argument_at : List Entry → List TyRef → ℕ → Budgeted (ℕ × Content)
argument_at table types place left tokens = slice_get types place >>= λ type. then_make (λ v. (place, v)) (annotated_at type (value_at table 128 type) left tokens)

-- all arguments, and nothing after them
abbrev pub all_said : List TyRef → List (ℕ × Content) × ℕ × List Token → Option (List Content)
all_said types (arguments, left, []) = if length arguments == length types then Some (map (λ x. x.1) arguments) else None
all_said types (arguments, left, t ∷ rest) = None

-- the values that the tokens of a text say
unfoldable pub arguments_at : List Entry → List TyRef → List Token → Option (List Content)
arguments_at table types tokens =
    if starts (is_mark 40) tokens then (parts_at 44 41 (argument_at table types) after_field (length tokens) 0 1000000 (drop 1 tokens) >>= all_said types) else None
