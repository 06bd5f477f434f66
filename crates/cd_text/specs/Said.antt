-- How values are said at expected types, by tokens (Candid specification, "Core Grammar", values).
use Rattle.std.specs.Prelude.{◌≡◌, ℕ, zero, suc, ◌^◌, Bool, true, false, ◌==◌, ◌&&◌, not, List, [], ◌∷◌, ◌++◌, Option, Some, None, ◌⊎◌, codes, if◌then◌else◌}
use Rattle.std.specs.Option.{option_or}
use Rattle.ic_base.specs.Reader.{◌>>=◌}
use Rattle.cd_types.specs.declared.primitive.Primitive.{Primitive}
use Rattle.cd_types.specs.declared.primitive.Primitive.TheVariants.{Null}
use Rattle.cd_types.specs.declared.entry.TyRef.{TyRef}
use Rattle.cd_types.specs.declared.entry.TyRef.TheVariants.{Prim}
use Rattle.cd_types.specs.declared.entry.Entry.{Entry}
use Rattle.cd_types.specs.declared.entry.Entry.TheVariants.{Opt, Seq, Rec, Var, Func, Service}
use Rattle.cd_types.specs.Shape.{Shape, primitive, compound, dangling, shape}
use Rattle.cd_codec.specs.Content.{Content, Plain, plain, null, func, service, blob, none, some, list, record_of, variant, contents_of, parts_of}
use Rattle.cd_codec.specs.Missing.{missing}
use Rattle.cd_codec.specs.Wire.{is_nat8}
use Rattle.cd_tokens.specs.Token.{Token, run, quoted}
use Rattle.cd_tokens.specs.Label.{IsLabel}
use Rattle.cd_tokens.specs.Unescaped.{Unescaped}
use Rattle.cd_text.specs.Words.{opening, closing, open_brace, close_brace, semicolon, colon, equals, name_of}
use Rattle.cd_text.specs.SaysPlain.{SaysNatural, SaysPlain, SaysPrincipal, SaysFunc}

-- what says a value of a type: some tokens
abbrev pub Saying : Type 0 → Type 1
Saying A = A → List Token → Type 0

-- a value, after which : and its type's name may be where it is primitive
pub data Annotated (type : TyRef) (P : List Token → Type 0) (tokens : List Token) : Type 0 where
  bare : P tokens → Annotated type P tokens
  annotated : (p : Primitive) (front : List Token) → type ≡ Prim p → tokens ≡ front ++ colon ∷ run (name_of p) ∷ [] → P front → Annotated type P tokens

-- a value in parentheses
abbrev pub InParentheses : TyRef → (List Token → Type 0) → List Token → Type 0
InParentheses type P tokens = (inner : List Token) × (tokens ≡ opening ∷ (inner ++ closing ∷ [])) × Annotated type P inner

-- parts up to a closing mark, a separator between and maybe one after the last; `next` is what `step` makes of the part before
abbrev pub SaysParts : {A : Type 0} → Token → Token → (ℕ → Saying A) → (A → ℕ) → ℕ → Saying (List A)
SaysParts separator end P step next [] tokens = tokens ≡ end ∷ []
SaysParts separator end P step next (x ∷ xs) tokens = (front : List Token) × (rest : List Token) × (tokens ≡ front ++ rest) × P next x front
    × (((xs ≡ []) × (rest ≡ end ∷ [])) ⊎ ((more : List Token) × (rest ≡ separator ∷ more) × SaysParts separator end P step (step x) xs more))

-- a word and parts in braces
abbrev pub InBraces : {A : Type 0} → List ℕ → (ℕ → Saying A) → (A → ℕ) → Saying (List A)
InBraces word P step xs tokens = (rest : List Token) × (tokens ≡ run word ∷ open_brace ∷ rest) × SaysParts semicolon close_brace P step 0 xs rest

-- the place of what follows, where places do not matter
abbrev pub no_place : {A : Type 0} → A → ℕ
no_place x = 0

-- a byte of a vec nat8: a number, or one in parentheses
abbrev pub SaysByte : TyRef → ℕ → Saying ℕ
SaysByte item zero b tokens = ⊥
SaysByte item (suc depth) b tokens = SaysNatural (2 ^ 8) b tokens ⊎ InParentheses item (SaysByte item depth b) tokens

-- a vec nat8: blob and a string, or numbers. They add no level, but their parentheses do
abbrev pub SaysBlob : TyRef → ℕ → Saying (List ℕ)
SaysBlob item depth bytes tokens = ((written : List ℕ) × (tokens ≡ run (codes "blob") ∷ quoted written ∷ []) × Unescaped bytes written)
    ⊎ InBraces (codes "vec") (λ next b. Annotated item (SaysByte item depth b)) no_place bytes tokens

-- the type of the field with an id
abbrev pub type_of : List (ℕ × TyRef) → ℕ → Option TyRef
type_of [] id = None
type_of (field ∷ fields) id = if field.0 == id then Some field.1 else type_of fields id

-- a field: a label, = and a value, or a value alone, whose id is the next
pub data SaysField (P : TyRef → Saying Content) (fields : List (ℕ × TyRef)) (next : ℕ) (field : ℕ × Content) (tokens : List Token) : Type 0 where
  labelled : (type : TyRef) (label : Token) (rest : List Token) → type_of fields field.0 ≡ Some type → IsLabel field.0 label → tokens ≡ label ∷ equals ∷ rest → Annotated type (P type field.1) rest → SaysField P fields next field tokens
  unlabelled : (type : TyRef) → type_of fields field.0 ≡ Some type → field.0 ≡ next → Annotated type (P type field.1) tokens → SaysField P fields next field tokens

-- the value of the field with an id
abbrev pub value_of : List (ℕ × Content) → ℕ → Option Content
value_of [] id = None
value_of (said ∷ more) id = if id == said.0 then Some said.1 else value_of more id

-- no field is said twice
abbrev pub is_absent : ℕ → List (ℕ × Content) → Bool
is_absent id [] = true
is_absent id (said ∷ more) = not (id == said.0) && is_absent id more

abbrev pub are_distinct : List (ℕ × Content) → Bool
are_distinct [] = true
are_distinct (said ∷ more) = is_absent said.0 more && are_distinct more

-- a value that may be left out where a part may be: one level below its record
abbrev pub left_out : ℕ → Shape → Option Content
left_out zero s = None
left_out (suc depth) s = missing s

-- the fields of the type in order: each as it is said, or left out
abbrev pub filled : ℕ → List Entry → List (ℕ × Content) → List (ℕ × TyRef) → Option (List (ℕ × Content))
filled depth table said [] = Some []
filled depth table said (field ∷ fields) = do
  v ← option_or (value_of said field.0) (left_out depth (shape table field.1))
  vs ← filled depth table said fields
  Some ((field.0, v) ∷ vs)

-- a record: fields in any order, none twice
pub record SaysRecord (depth : ℕ) (table : List Entry) (P : TyRef → Saying Content) (fields : List (ℕ × TyRef)) (v : Content) (tokens : List Token) : Type 0 where
  pub said : List (ℕ × Content)
  pub parts : List (ℕ × Content)
  pub fields_said : InBraces (codes "record") (SaysField P fields) (λ f. suc f.0) said tokens
  pub once : are_distinct said ≡ true
  pub all : filled depth table said fields ≡ Some parts
  pub is : v ≡ record_of (parts_of parts)

-- the place of the case with an id
abbrev pub place_of : List (ℕ × TyRef) → ℕ → Option ℕ
place_of [] id = None
place_of (case ∷ cases) id = if case.0 == id then Some 0 else (place_of cases id >>= λ k. Some (suc k))

-- the value of a case: = and a value, or nothing, where a null may stand one level below
pub data SaysCase (depth : ℕ) (table : List Entry) (P : TyRef → Saying Content) (type : TyRef) (v : Content) (tokens : List Token) : Type 0 where
  valued : (rest : List Token) → tokens ≡ equals ∷ rest → Annotated type (P type v) rest → SaysCase depth table P type v tokens
  alone : (less : ℕ) → depth ≡ suc less → shape table type ≡ primitive Null → v ≡ plain null → tokens ≡ [] → SaysCase depth table P type v tokens

-- the end of a variant
abbrev pub EndsVariant : List Token → Type 0
EndsVariant tokens = (tokens ≡ close_brace ∷ []) ⊎ (tokens ≡ semicolon ∷ close_brace ∷ [])

-- a variant: one case
pub record SaysVariant (depth : ℕ) (table : List Entry) (P : TyRef → Saying Content) (cases : List (ℕ × TyRef)) (v : Content) (tokens : List Token) : Type 0 where
  pub id : ℕ
  pub place : ℕ
  pub type : TyRef
  pub value : Content
  pub label : Token
  pub front : List Token
  pub end : List Token
  pub whole : tokens ≡ run (codes "variant") ∷ open_brace ∷ label ∷ (front ++ end)
  pub is_label : IsLabel id label
  pub at_place : place_of cases id ≡ Some place
  pub has_type : type_of cases id ≡ Some type
  pub says : SaysCase depth table P type value front
  pub ends : EndsVariant end
  pub is : v ≡ variant place value

-- a value by the shape of its type
abbrev pub SaysShape : ℕ → List Entry → (TyRef → Saying Content) → Shape → Saying Content
SaysShape depth table P (primitive p) v tokens = (u : Plain) × (v ≡ plain u) × SaysPlain p u tokens
SaysShape depth table P (compound (Opt inner)) v tokens = ((v ≡ none) × (tokens ≡ run (codes "null") ∷ []))
    ⊎ ((u : Content) × (rest : List Token) × (v ≡ some u) × (tokens ≡ run (codes "opt") ∷ rest) × P inner u rest)
SaysShape depth table P (compound (Seq item)) v tokens =
    ((bytes : List ℕ) × (is_nat8 item ≡ true) × (v ≡ blob bytes) × SaysBlob item (suc depth) bytes tokens)
    ⊎ ((us : List Content) × (is_nat8 item ≡ false) × (v ≡ list (contents_of us)) × InBraces (codes "vec") (λ next u. Annotated item (P item u)) no_place us tokens)
SaysShape depth table P (compound (Rec fields)) v tokens = SaysRecord depth table P fields v tokens
SaysShape depth table P (compound (Var cases)) v tokens = SaysVariant depth table P cases v tokens
SaysShape depth table P (compound (Func args results notes)) v tokens = (p : List ℕ) × (method : List ℕ) × (v ≡ plain (func p method)) × SaysFunc p method tokens
SaysShape depth table P (compound (Service methods)) v tokens = (p : List ℕ) × (v ≡ plain (service p)) × SaysPrincipal (codes "service") p tokens
SaysShape depth table P dangling v tokens = ⊥

-- the tokens say the value at the type, within a number of levels: values and their parts are one below another, and so is what is in parentheses
abbrev pub Says : List Entry → ℕ → TyRef → Saying Content
Says table zero type v tokens = ⊥
Says table (suc depth) type v tokens = SaysShape depth table (Says table depth) (shape table type) v tokens ⊎ InParentheses type (Says table depth type v) tokens
