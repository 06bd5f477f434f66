-- Values that are said are read.
use Rattle.std.proofs.Common.{◌≡◌, ℕ, zero, suc, ◌+◌, ◌<◌, ◌-◌, ◌^◌, Bool, true, false, List, [], ◌∷◌, ◌++◌, length, Some, refl, sym, ap, subst, ◌∙◌, append_assoc, inl, inr, arith}
use Rattle.std.specs.Prelude.{◌&&◌, ◌==◌, not, codes, nat_le}
use Rattle.std.proofs.lemmas.List.{length-append}
use Rattle.ic_base.specs.Reader.{◌>>=◌}
use Rattle.cd_types.specs.declared.primitive.Primitive.{Primitive}
use Rattle.cd_types.specs.declared.primitive.Primitive.TheVariants as primitives
use Rattle.cd_types.specs.declared.entry.TyRef.{TyRef}
use Rattle.cd_types.specs.declared.entry.TyRef.TheVariants.{Prim, Index}
use Rattle.cd_types.specs.declared.entry.Entry.{Entry}
use Rattle.cd_types.specs.declared.entry.Entry.TheVariants.{Opt, Seq, Rec, Var, Func, Service}
use Rattle.cd_types.specs.Shape.{Shape, primitive, compound, dangling, shape}
use Rattle.cd_codec.specs.Content.{Content, Plain, plain, null, blob, some, list, record_of, variant, contents_of, parts_of}
use Rattle.cd_codec.specs.Measure.{number, number_all, number_parts}
use Rattle.cd_tokens.specs.Token.{Token, run, quoted, mark, arrow}
use Rattle.cd_tokens.specs.Label.{IsLabel}
use Rattle.cd_tokens.specs.Unescaped.{Unescaped}
use Rattle.cd_tokens.specs.ReadString.{unescaped_of}
use Rattle.cd_tokens.proofs.Labels.{label_again}
use Rattle.cd_tokens.proofs.Strings.{unescaped_again}
use Rattle.cd_text.specs.Words.{name_of}
use Rattle.cd_text.specs.SaysPlain.{SaysPlain}
use Rattle.cd_text.specs.Said.{Saying, Annotated, bare, annotated, InParentheses, SaysParts, InBraces, no_place, SaysByte, SaysBlob, type_of, SaysField, labelled, unlabelled, are_distinct, filled, SaysRecord, place_of, SaysCase, valued, alone as null_alone, EndsVariant, SaysVariant, Says}
use Rattle.cd_plain.specs.ReadPlain.{is_word, is_mark, starts, string_says, Budgeted, string_at}
use Rattle.cd_text.specs.ReadSaid.{then_make, past_annotation, annotated_at, closed, parenthesized_at, in_braces, item_at, no_place_of, byte_at, blob_at, typed_at, field_at, absent, made, record_at, case_at, variant_ended, chosen_at, variant_at, entry_at, shape_at, spend_one, value_at}
use Rattle.cd_tokens.proofs.Starts.{is_equal}
use Rattle.cd_text.proofs.Parts.{Complete, sum_of, parts_again}
use Rattle.cd_text.proofs.Plains.{Again, same_bytes, OneToken, StringOf, first_again, string_again, natural_again_one, func_again, principal_word_again, primitive_again}
use Rattle.cd_text.proofs.Values.{both, not_true, AtShape, sum_all, nothing, sum_nothing, Good, IsGood, number_field, Within, fits_all, filled_weight, weight_is, within}

-- neither `:` nor `=` is next
abbrev pub calm : List Token → Bool
calm rest = not (starts (is_mark 58) rest) && not (starts (is_mark 61) rest)

abbrev pub anything : List Token → Bool
anything rest = true

calm_colon : (rest : List Token) → calm rest ≡ true → starts (is_mark 58) rest ≡ false
calm_colon rest free = not_true (starts (is_mark 58) rest) (both (not (starts (is_mark 58) rest)) (not (starts (is_mark 61) rest)) free).0

calm_equals : (rest : List Token) → calm rest ≡ true → starts (is_mark 61) rest ≡ false
calm_equals rest free = not_true (starts (is_mark 61) rest) (both (not (starts (is_mark 58) rest)) (not (starts (is_mark 61) rest)) free).1

-- ---- annotations and parentheses

no_colon : (type : TyRef) (rest : List Token) → calm rest ≡ true → past_annotation type rest ≡ Some rest
no_colon (Prim p) rest free = rw (calm_colon rest free) refl
no_colon (Index i) rest free = rw (calm_colon rest free) refl

a_name : (p : Primitive) (rest : List Token) → past_annotation (Prim p) (mark 58 ∷ run (name_of p) ∷ rest) ≡ Some rest
a_name p rest = rw (same_bytes (name_of p)) refl

pub annotated_again : {A : Type 0} (type : TyRef) (P : Saying A) (many : A → ℕ) (read : Budgeted A) → Complete anything P many read → Complete calm (λ v. Annotated type (P v)) many (annotated_at type read)
annotated_again type P many read law x front rest left (bare said) free = rw (law x front rest left said refl, no_colon type rest free) refl
annotated_again type P many read law x front rest left (annotated p inner is whole said) free =
    rw (whole, append_assoc inner (mark 58 ∷ run (name_of p) ∷ []) rest, law x inner (mark 58 ∷ run (name_of p) ∷ rest) left said refl, is, a_name p rest) refl

enclosed_again : {A : Type 0} (type : TyRef) (P : Saying A) (many : A → ℕ) (read : Budgeted A) → Complete anything P many read → (x : A) (front rest : List Token) (left : ℕ) → InParentheses type (P x) front
    → (starts (is_mark 40) (front ++ rest) ≡ true) × (parenthesized_at type read (many x + left) (front ++ rest) ≡ Some (x, left, rest))
enclosed_again type P many read law x front rest left is =
    let whole : front ++ rest ≡ mark 40 ∷ (is.0 ++ (mark 41 ∷ rest)) = ap (λ (ts : List Token). ts ++ rest) is.1 ∙ ap (λ (ts : List Token). mark 40 ∷ ts) (append_assoc is.0 (mark 41 ∷ []) rest) in
    (ap (starts (is_mark 40)) whole, ap (parenthesized_at type read (many x + left)) whole ∙ ap (λ y. y >>= closed) (annotated_again type P many read law x is.0 (mark 41 ∷ rest) left is.2 refl))

-- ---- how values begin

-- a word, a number or a string
abbrev is_bare : Token → Bool
is_bare (run r) = true
is_bare (quoted s) = true
is_bare (mark m) = false
is_bare arrow = false

abbrev is_first : Token → Bool
is_first (run r) = true
is_first (quoted s) = true
is_first (mark m) = m == 40
is_first arrow = false

-- `=` is not the first
abbrev no_equals : List Token → Bool
no_equals [] = true
no_equals (t ∷ rest) = not (is_mark 61 t)

-- tokens that begin so, and no `=` is second
record Begun (test : Token → Bool) (tokens : List Token) : Type 0 where
  first : Token
  more : List Token
  whole : tokens ≡ first ∷ more
  passes : test first ≡ true
  second : no_equals more ≡ true

bare_first : (t : Token) → is_bare t ≡ true → (is_mark 40 t ≡ false) × (is_first t ≡ true)
bare_first (run r) e = (refl, refl)
bare_first (quoted s) e = (refl, refl)
bare_first (mark m) e = absurd cc
bare_first arrow e = absurd cc

-- it is none of the other marks
no_mark : (k : ℕ) → (40 == k) ≡ false → (t : Token) → is_first t ≡ true → is_mark k t ≡ false
no_mark k other (run r) e = refl
no_mark k other (quoted s) e = refl
no_mark k other (mark m) e = let same : m ≡ 40 = is_equal m 40 e in rw (same, other) refl
no_mark k other arrow e = refl

first_no_equals : (tokens : List Token) → Begun is_first tokens → no_equals tokens ≡ true
first_no_equals tokens b = rw (b.whole, no_mark 61 refl b.first b.passes) refl

append_no_equals : (tokens more : List Token) → no_equals tokens ≡ true → no_equals more ≡ true → no_equals (tokens ++ more) ≡ true
append_no_equals [] more e f = f
append_no_equals (t ∷ tokens) more e f = e

still_no_equals : (tokens rest : List Token) → no_equals tokens ≡ true → starts (is_mark 61) rest ≡ false → starts (is_mark 61) (tokens ++ rest) ≡ false
still_no_equals [] rest e f = f
still_no_equals (t ∷ tokens) rest e f = not_true (is_mark 61 t) e

one_begun : (t : Token) (tokens : List Token) → is_bare t ≡ true → tokens ≡ t ∷ [] → Begun is_bare tokens
one_begun t tokens passes e = record { first = t; more = []; whole = e; passes = passes; second = refl }

two_begun : (t : Token) (tokens more : List Token) → is_bare t ≡ true → tokens ≡ t ∷ more → no_equals more ≡ true → Begun is_bare tokens
two_begun t tokens more passes e second = record { first = t; more = more; whole = e; passes = passes; second = second }

plain_begun : (p : Primitive) (u : Plain) (tokens : List Token) → SaysPlain p u tokens → Begun is_bare tokens
plain_begun primitives.Null u tokens h = one_begun (run (codes "null")) tokens refl h.1
plain_begun primitives.Reserved u tokens h = one_begun (run (codes "null")) tokens refl h.1
plain_begun primitives.Bool u tokens h = elim h [ inl a ↦ one_begun (run (codes "true")) tokens refl a.1 | inr a ↦ one_begun (run (codes "false")) tokens refl a.1 ]
plain_begun primitives.Nat u tokens h = one_begun (run h.2.0) tokens refl h.2.1
plain_begun primitives.Nat8 u tokens h = one_begun (run h.2.0) tokens refl h.2.1
plain_begun primitives.Nat16 u tokens h = one_begun (run h.2.0) tokens refl h.2.1
plain_begun primitives.Nat32 u tokens h = one_begun (run h.2.0) tokens refl h.2.1
plain_begun primitives.Nat64 u tokens h = one_begun (run h.2.0) tokens refl h.2.1
plain_begun primitives.Int u tokens h = one_begun (run h.2.0) tokens refl h.2.1
plain_begun primitives.Int8 u tokens h = one_begun (run h.2.0) tokens refl h.2.1
plain_begun primitives.Int16 u tokens h = one_begun (run h.2.0) tokens refl h.2.1
plain_begun primitives.Int32 u tokens h = one_begun (run h.2.0) tokens refl h.2.1
plain_begun primitives.Int64 u tokens h = one_begun (run h.2.0) tokens refl h.2.1
plain_begun primitives.Text u tokens h = one_begun (quoted h.1) tokens refl h.3
plain_begun primitives.Principal u tokens h = two_begun (run (codes "principal")) tokens (quoted h.2.0 ∷ []) refl h.2.1 refl
plain_begun primitives.Empty u tokens h = absurd h

-- a list in braces begins with its word
braces_begun : {A : Type 0} (word : List ℕ) (P : ℕ → Saying A) (step : A → ℕ) (xs : List A) (tokens : List Token) → InBraces word P step xs tokens → Begun is_bare tokens
braces_begun word P step xs tokens h = two_begun (run word) tokens (mark 123 ∷ h.0) refl h.1 refl

blob_begun : (item : TyRef) (depth : ℕ) (bytes : List ℕ) (tokens : List Token) → SaysBlob item depth bytes tokens → Begun is_bare tokens
blob_begun item depth bytes tokens h = elim h [
  | inl a ↦ two_begun (run (codes "blob")) tokens (quoted a.0 ∷ []) refl a.1 refl
  | inr a ↦ braces_begun (codes "vec") (λ next b. Annotated item (SaysByte item depth b)) no_place bytes tokens a
]

shape_begun : (table : List Entry) (depth : ℕ) → ((type : TyRef) (v : Content) (tokens : List Token) → Says table depth type v tokens → Begun is_first tokens) → (s : Shape) (v : Content) (tokens : List Token) → AtShape table depth s v tokens → Begun is_bare tokens
shape_begun table depth law (primitive p) v tokens h = plain_begun p h.0 tokens h.2
shape_begun table depth law (compound (Opt inner)) v tokens h = elim h [
  | inl a ↦ one_begun (run (codes "null")) tokens refl a.1
  | inr a ↦ two_begun (run (codes "opt")) tokens a.1 refl a.3 (first_no_equals a.1 (law inner a.0 a.1 a.4))
]
shape_begun table depth law (compound (Seq item)) v tokens h = elim h [
  | inl a ↦ blob_begun item (suc depth) a.0 tokens a.3
  | inr a ↦ braces_begun (codes "vec") (λ next u. Annotated item (Says table depth item u)) no_place a.0 tokens a.3
]
shape_begun table depth law (compound (Rec fields)) v tokens h = braces_begun (codes "record") (SaysField (Says table depth) fields) (λ f. suc f.0) h.said tokens h.fields_said
shape_begun table depth law (compound (Var cases)) v tokens h = two_begun (run (codes "variant")) tokens (mark 123 ∷ h.label ∷ (h.front ++ h.end)) refl h.whole refl
shape_begun table depth law (compound (Func args results notes)) v tokens h = two_begun (run (codes "func")) tokens (quoted h.3.0 ∷ mark 46 ∷ h.3.1 ∷ []) refl h.3.2 refl
shape_begun table depth law (compound (Service methods)) v tokens h = two_begun (run (codes "service")) tokens (quoted h.2.0 ∷ []) refl h.2.1 refl
shape_begun table depth law dangling v tokens h = absurd h

as_first : (tokens : List Token) → Begun is_bare tokens → Begun is_first tokens
as_first tokens b = record { first = b.first; more = b.more; whole = b.whole; passes = (bare_first b.first b.passes).1; second = b.second }

annotated_begun : (type : TyRef) (P : List Token → Type 0) (tokens : List Token) → ((inner : List Token) → P inner → Begun is_first inner) → Annotated type P tokens → Begun is_first tokens
annotated_begun type P tokens law (bare h) = law tokens h
annotated_begun type P tokens law (annotated p inner is whole h) =
    let b = law inner h in
    record {
      first = b.first;
      more = b.more ++ mark 58 ∷ run (name_of p) ∷ [];
      whole = whole ∙ ap (λ (ts : List Token). ts ++ mark 58 ∷ run (name_of p) ∷ []) b.whole;
      passes = b.passes;
      second = append_no_equals b.more (mark 58 ∷ run (name_of p) ∷ []) b.second refl;
    }

enclosed_begun : (type : TyRef) (P : List Token → Type 0) (tokens : List Token) → ((inner : List Token) → P inner → Begun is_first inner) → InParentheses type P tokens → Begun is_first tokens
enclosed_begun type P tokens law h =
    record { first = mark 40; more = h.0 ++ mark 41 ∷ []; whole = h.1; passes = refl; second = append_no_equals h.0 (mark 41 ∷ []) (first_no_equals h.0 (annotated_begun type P h.0 law h.2)) refl }

value_begun : (table : List Entry) (depth : ℕ) (type : TyRef) (v : Content) (tokens : List Token) → Says table depth type v tokens → Begun is_first tokens
value_begun table zero type v tokens h = absurd h
value_begun table (suc depth) type v tokens h = elim h [
  | inl a ↦ as_first tokens (shape_begun table depth (value_begun table depth) (shape table type) v tokens a)
  | inr a ↦ enclosed_begun type (Says table depth type v) tokens (value_begun table depth type v) a
]

byte_begun : (item : TyRef) (depth b : ℕ) (tokens : List Token) → SaysByte item depth b tokens → Begun is_first tokens
byte_begun item zero b tokens h = absurd h
byte_begun item (suc depth) b tokens h = elim h [
  | inl a ↦ as_first tokens (one_begun (run a.0) tokens refl a.1)
  | inr a ↦ enclosed_begun item (SaysByte item depth b) tokens (byte_begun item depth b) a
]

-- ---- lists in braces

no_end : (k : ℕ) → (40 == k) ≡ false → (front rest : List Token) → Begun is_first front → starts (is_mark k) (front ++ rest) ≡ false
no_end k other front rest b = rw (b.whole, no_mark k other b.first b.passes) refl

some_token : (front : List Token) → Begun is_first front → 0 < length front
some_token front b = rw b.whole (omega arith)

-- each part has a token, and so has the end
pub fewer : {A : Type 0} (separator end : Token) (P : ℕ → Saying A) (step : A → ℕ) → ((next : ℕ) (x : A) (front : List Token) → P next x front → 0 < length front)
    → (xs : List A) (next : ℕ) (front : List Token) → SaysParts separator end P step next xs front → length xs < length front
fewer separator end P step has [] next front h = rw h (omega arith)
fewer separator end P step has (x ∷ xs) next front h =
    let n : length front ≡ length h.0 + length h.1 = ap length h.2 ∙ length-append h.0 h.1 in
    let m = has next x h.0 h.3 in
    elim h.4 [
      | inl last ↦ let k : length h.1 ≡ 1 = ap length last.1 in let l : length xs ≡ 0 = ap length last.0 in omega (arith, n, m, k, l)
      | inr more ↦ let k : length h.1 ≡ suc (length more.0) = ap length more.1 in omega (arith, n, m, k, fewer separator end P step has xs (step x) more.0 more.2)
    ]

braces_again : {A : Type 0} (word : List ℕ) (P : ℕ → Saying A) (step : A → ℕ) (many : A → ℕ) (read : ℕ → Budgeted A) → ((next : ℕ) → Complete calm (P next) many (read next))
    → ((next : ℕ) (x : A) (front rest : List Token) → P next x front → starts (is_mark 125) (front ++ rest) ≡ false) → ((next : ℕ) (x : A) (front : List Token) → P next x front → 0 < length front) → Complete anything (InBraces word P step) (sum_of many) (in_braces word read step)
braces_again word P step many read law on has xs front rest left is free =
    let whole : front ++ rest ≡ run word ∷ mark 123 ∷ (is.0 ++ rest) = ap (λ (ts : List Token). ts ++ rest) is.1 in
    let enough : length xs < length (run word ∷ mark 123 ∷ (is.0 ++ rest)) =
    let n = fewer (mark 59) (mark 125) P step has xs 0 is.0 is.2 in
    let m = length-append is.0 rest in omega (arith, n, m) in
    ap (in_braces word read step (sum_of many xs + left)) whole
    ∙ rw (same_bytes word) (parts_again 59 125 P step many read calm law on (λ ts. refl) (λ ts. refl) refl xs (length (run word ∷ mark 123 ∷ (is.0 ++ rest))) 0 left is.0 rest is.2 enough)

items_again : {A : Type 0} (item : TyRef) (P : Saying A) (many : A → ℕ) (read : Budgeted A) → Complete anything P many read → ((x : A) (tokens : List Token) → P x tokens → Begun is_first tokens)
    → Complete anything (InBraces (codes "vec") (λ next u. Annotated item (P u)) no_place) (sum_of many) (in_braces (codes "vec") (item_at item read) no_place_of)
items_again item P many read law begun =
    braces_again (codes "vec") (λ next u. Annotated item (P u)) no_place many (item_at item read) (λ next. annotated_again item P many read law)
    (λ next x front rest h. no_end 125 refl front rest (annotated_begun item (P x) front (begun x) h)) (λ next x front h. some_token front (annotated_begun item (P x) front (begun x) h))

-- ---- values by their shape

abbrev pub CompleteAt : List Entry → ℕ → (TyRef → Budgeted Content) → Type 0
CompleteAt table depth read = (type : TyRef) → Complete anything (Says table depth type) number (read type)

byte_again : (item : TyRef) (depth : ℕ) → Complete anything (SaysByte item depth) nothing (byte_at item depth)
unfolding byte_at nothing
byte_again item zero b front rest left h free = absurd h
byte_again item (suc depth) b front rest left h free =
    let n : 0 + left ≡ left = omega arith in
    elim h [
      | inl a ↦
          let other : starts (is_mark 40) (front ++ rest) ≡ false = rw a.1 refl in
          rw (other, natural_again_one (2 ^ 8) b front rest a, n) refl
      | inr a ↦
          let e = enclosed_again item (SaysByte item depth) nothing (byte_at item depth) (byte_again item depth) b front rest left a in
          rw e.0 e.1
    ]

string_at_again : Again (OneToken (StringOf (λ x s. Unescaped x s))) string_at
unfolding string_at
string_at_again = first_again (StringOf (λ x s. Unescaped x s)) (string_says unescaped_of) (string_again (λ x s. Unescaped x s) unescaped_of (λ s x e. unescaped_again x s e))

blob_again : (item : TyRef) (depth : ℕ) (bytes : List ℕ) (front rest : List Token) (left : ℕ) → SaysBlob item depth bytes front → blob_at item depth left (front ++ rest) ≡ Some (blob bytes, left, rest)
blob_again item depth bytes front rest left h = elim h [
  | inl a ↦
      let s : string_at (quoted a.0 ∷ rest) ≡ Some (bytes, rest) = string_at_again bytes (quoted a.0 ∷ []) rest (quoted a.0, refl, (a.0, refl, a.2)) in
      rw (a.1, s) refl
  | inr a ↦
      let n : sum_of nothing bytes + left ≡ left = let z = sum_nothing bytes in omega (arith, z) in
      let other : starts (is_word (codes "blob")) (front ++ rest) ≡ false = rw a.1 refl in
      let s = items_again item (SaysByte item depth) nothing (byte_at item depth) (byte_again item depth) (byte_begun item depth) bytes front rest left a refl in
      let t : in_braces (codes "vec") (item_at item (byte_at item depth)) no_place_of left (front ++ rest) ≡ Some (bytes, left, rest) =
      ap (λ k. in_braces (codes "vec") (item_at item (byte_at item depth)) no_place_of k (front ++ rest)) (sym n) ∙ s in
      rw (other, t) refl
]

field_again : (table : List Entry) (depth : ℕ) (read : TyRef → Budgeted Content) → CompleteAt table depth read → (fields : List (ℕ × TyRef)) (next : ℕ) → Complete calm (SaysField (Says table depth) fields next) number_field (field_at read fields next)
unfolding number_field
field_again table depth read law fields next f front rest left (labelled type t after known is whole said) free =
    rw (whole, label_again t f.0 is, known) (ap (then_make (λ v. (f.0, v))) (annotated_again type (Says table depth type) number (read type) (law type) f.1 after rest left said free))
field_again table depth read law fields next f front rest left (unlabelled type known is said) free =
    let b = annotated_begun type (Says table depth type f.1) front (value_begun table depth type f.1) said in
    let second : starts (is_mark 61) (b.more ++ rest) ≡ false = still_no_equals b.more rest b.second (calm_equals rest free) in
    let whole : front ++ rest ≡ b.first ∷ (b.more ++ rest) = ap (λ (ts : List Token). ts ++ rest) b.whole in
    let at : type_of fields next ≡ Some type = subst (λ k. type_of fields k ≡ Some type) is known in
    let read_is = annotated_again type (Says table depth type) number (read type) (law type) f.1 front rest left said free in
    let opened : field_at read fields next (number f.1 + left) (front ++ rest) ≡ typed_at read fields next (number f.1 + left) (front ++ rest) = rw (whole, second) refl in
    opened ∙ rw (at, read_is) (ap (λ k. Some ((k, f.1), left, rest)) (sym is))

label_first : (t : Token) (id : ℕ) → IsLabel id t → is_mark 125 t ≡ false
label_first (run r) id h = refl
label_first (quoted s) id h = refl
label_first (mark m) id h = elim h [ inl a ↦ absurd a | inr a ↦ absurd a.1 ]
label_first arrow id h = refl

field_end : (table : List Entry) (depth : ℕ) (fields : List (ℕ × TyRef)) (next : ℕ) (f : ℕ × Content) (front rest : List Token) → SaysField (Says table depth) fields next f front → starts (is_mark 125) (front ++ rest) ≡ false
field_end table depth fields next f front rest (unlabelled type known is said) = no_end 125 refl front rest (annotated_begun type (Says table depth type f.1) front (value_begun table depth type f.1) said)
field_end table depth fields next f front rest (labelled type t after known is whole said) = rw (whole, label_first t f.0 is) refl

field_some : (table : List Entry) (depth : ℕ) (fields : List (ℕ × TyRef)) (next : ℕ) (f : ℕ × Content) (front : List Token) → SaysField (Says table depth) fields next f front → 0 < length front
field_some table depth fields next f front (unlabelled type known is said) = some_token front (annotated_begun type (Says table depth type f.1) front (value_begun table depth type f.1) said)
field_some table depth fields next f front (labelled type t after known is whole said) = rw whole (omega arith)

made_again : (depth : ℕ) (table : List Entry) (fields : List (ℕ × TyRef)) (said ps : List (ℕ × Content)) (left : ℕ) → Within fields said → are_distinct said ≡ true → filled depth table said fields ≡ Some ps
    → made depth table fields said (absent said fields + left) ≡ Some (record_of (parts_of ps), left)
unfolding made
made_again depth table fields said ps left inside once all =
    let less : nat_le (absent said fields) (absent said fields + left) ≡ true = grind arith in
    let again : absent said fields + left - absent said fields ≡ left = omega arith in
    rw (fits_all fields said inside once, less, all, again) refl

record_again : (table : List Entry) (depth : ℕ) (read : TyRef → Budgeted Content) → CompleteAt table depth read → (fields : List (ℕ × TyRef)) → IsGood (compound (Rec fields)) → (v : Content) (front rest : List Token) (left : ℕ) → SaysRecord depth table (Says table depth) fields v front
    → spend_one (record_at read depth table fields) (number v + left) (front ++ rest) ≡ Some (v, left, rest)
record_again table depth read law fields fine v front rest left h =
    let inside = within (Says table depth) fields 0 h.said h.fields_said.0 h.fields_said.2 in
    let w = filled_weight depth table h.said fields h.parts h.all in
    let x = weight_is fields fine h.said inside h.once in
    let count : number v ≡ suc (number_parts (parts_of h.parts)) = ap number h.is in
    let one : number v + left ≡ suc (sum_of number_field h.said + (absent h.said fields + left)) = omega (arith, count, w, x) in
    let read_is = braces_again (codes "record") (SaysField (Says table depth) fields) (λ f. suc f.0) number_field (field_at read fields) (field_again table depth read law fields) (field_end table depth fields) (field_some table depth fields)
    h.said front rest (absent h.said fields + left) h.fields_said refl in
    rw (one, read_is, made_again depth table fields h.said h.parts left inside h.once h.all) (ap (λ u. Some (u, left, rest)) (sym h.is))

case_again : (table : List Entry) (depth : ℕ) (read : TyRef → Budgeted Content) → CompleteAt table depth read → (type : TyRef) (v : Content) (front rest : List Token) (left : ℕ) → SaysCase depth table (Says table depth) type v front → calm rest ≡ true
    → case_at read depth table type (number v + left) (front ++ rest) ≡ Some (v, left, rest)
case_again table depth read law type v front rest left (valued after whole said) free = rw whole (annotated_again type (Says table depth type) number (read type) (law type) v after rest left said free)
case_again table depth read law type v front rest left (null_alone less deep shaped is whole) free =
    let other : starts (is_mark 61) (front ++ rest) ≡ false = rw whole (calm_equals rest free) in
    let n : number v + left ≡ suc left = let k = ap number is in omega (arith, k) in
    let at : front ++ rest ≡ rest = ap (λ (ts : List Token). ts ++ rest) whole in
    rw (other, deep, shaped, n) (ap (λ ts. Some (plain null, left, ts)) at ∙ ap (λ u. Some (u, left, rest)) (sym is))

ended_again : (v : Content) (left : ℕ) (end rest : List Token) → EndsVariant end → (calm (end ++ rest) ≡ true) × (variant_ended (v, left, end ++ rest) ≡ Some (v, left, rest))
ended_again v left end rest is = elim is [ inl a ↦ (rw a refl, rw a refl) | inr a ↦ (rw a refl, rw a refl) ]

chosen_again : (table : List Entry) (depth : ℕ) (read : TyRef → Budgeted Content) → CompleteAt table depth read → (cases : List (ℕ × TyRef)) (id place : ℕ) (type : TyRef) (value : Content) (front end rest : List Token) (left : ℕ)
    → place_of cases id ≡ Some place → type_of cases id ≡ Some type → SaysCase depth table (Says table depth) type value front → EndsVariant end → chosen_at read depth table cases id (number value + left) (front ++ (end ++ rest)) ≡ Some (variant place value, left, rest)
chosen_again table depth read law cases id place type value front end rest left at known says ends =
    let e = ended_again value left end rest ends in
    rw (at, known, case_again table depth read law type value front (end ++ rest) left says e.0, e.1) refl

variant_again : (table : List Entry) (depth : ℕ) (read : TyRef → Budgeted Content) → CompleteAt table depth read → (cases : List (ℕ × TyRef)) (v : Content) (front rest : List Token) (left : ℕ) → SaysVariant depth table (Says table depth) cases v front
    → spend_one (variant_at read depth table cases) (number v + left) (front ++ rest) ≡ Some (v, left, rest)
variant_again table depth read law cases v front rest left h =
    let whole : front ++ rest ≡ run (codes "variant") ∷ mark 123 ∷ h.label ∷ (h.front ++ (h.end ++ rest)) =
    ap (λ (ts : List Token). ts ++ rest) h.whole ∙ ap (λ (ts : List Token). run (codes "variant") ∷ mark 123 ∷ h.label ∷ ts) (append_assoc h.front h.end rest) in
    let one : number v + left ≡ suc (number h.value + left) = let k = ap number h.is in omega (arith, k) in
    rw (one, whole, label_again h.label h.id h.is_label)
    (chosen_again table depth read law cases h.id h.place h.type h.value h.front h.end rest left h.at_place h.has_type h.says h.ends ∙ ap (λ u. Some (u, left, rest)) (sym h.is))

-- ---- a value

shape_again : (table : List Entry) → Good table → (depth : ℕ) (read : TyRef → Budgeted Content) → CompleteAt table depth read → (s : Shape) → IsGood s → (v : Content) (front rest : List Token) (left : ℕ) → AtShape table depth s v front
    → spend_one (shape_at depth table read s) (number v + left) (front ++ rest) ≡ Some (v, left, rest)
unfolding entry_at
shape_again table good depth read law (primitive p) fine v front rest left h =
    let one : 1 + left ≡ suc left = omega arith in
    rw (h.1, one, primitive_again p h.0 front rest h.2) refl
shape_again table good depth read law (compound (Opt inner)) fine v front rest left h = elim h [
  | inl a ↦ let one : 1 + left ≡ suc left = omega arith in rw (a.0, a.1, one) refl
  | inr a ↦ let one : suc (number a.0) + left ≡ suc (number a.0 + left) = omega arith in rw (a.2, a.3, one) (ap (then_make some) (law inner a.0 a.1 rest left a.4 refl))
]
shape_again table good depth read law (compound (Seq item)) fine v front rest left h = elim h [
  | inl a ↦
      let one : 1 + left ≡ suc left = omega arith in
      rw (a.2, one, a.1) (blob_again item (suc depth) a.0 front rest left a.3)
  | inr a ↦
      let one : suc (number_all (contents_of a.0)) + left ≡ suc (sum_of number a.0 + left) = let k = sum_all a.0 in omega (arith, k) in
      rw (a.2, one, a.1) (ap (then_make (λ us. list (contents_of us))) (items_again item (Says table depth item) number (read item) (law item) (value_begun table depth item) a.0 front rest left a.3 refl))
]
shape_again table good depth read law (compound (Rec fields)) fine v front rest left h = record_again table depth read law fields fine v front rest left h
shape_again table good depth read law (compound (Var cases)) fine v front rest left h = variant_again table depth read law cases v front rest left h
shape_again table good depth read law (compound (Func args results notes)) fine v front rest left h =
    let one : 1 + left ≡ suc left = omega arith in
    rw (h.2, one, func_again (h.0, h.1) front rest h.3) refl
shape_again table good depth read law (compound (Service methods)) fine v front rest left h =
    let one : 1 + left ≡ suc left = omega arith in
    rw (h.1, one, principal_word_again (codes "service") h.0 front rest h.2) refl
shape_again table good depth read law dangling fine v front rest left h = absurd h

-- what is said is read
pub value_again : (table : List Entry) → Good table → (depth : ℕ) → CompleteAt table depth (value_at table depth)
unfolding value_at
value_again table good zero type v front rest left h free = absurd h
value_again table good (suc depth) type v front rest left h free = elim h [
  | inl a ↦
      let b = shape_begun table depth (value_begun table depth) (shape table type) v front a in
      let other : starts (is_mark 40) (front ++ rest) ≡ false = rw (b.whole, (bare_first b.first b.passes).0) refl in
      rw other (shape_again table good depth (value_at table depth) (value_again table good depth) (shape table type) (good type) v front rest left a)
  | inr a ↦
      let e = enclosed_again type (Says table depth type) number (value_at table depth type) (value_again table good depth type) v front rest left a in
      rw e.0 e.1
]

-- the first token of an annotated value is no closing mark
pub annotated_open : (table : List Entry) (depth : ℕ) (type : TyRef) (v : Content) (front rest : List Token) → Annotated type (Says table depth type v) front → (starts (is_mark 41) (front ++ rest) ≡ false) × (0 < length front)
annotated_open table depth type v front rest h =
    let b = annotated_begun type (Says table depth type v) front (value_begun table depth type v) h in (no_end 41 refl front rest b, some_token front b)
