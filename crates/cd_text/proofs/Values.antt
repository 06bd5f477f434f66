-- Values that are read are said.
use Rattle.std.proofs.Common.{◌≡◌, ℕ, zero, suc, ◌+◌, ◌≤◌, ◌<◌, ◌-◌, ◌^◌, Bool, true, false, List, [], ◌∷◌, ◌++◌, length, drop, map, Option, Some, None, refl, sym, ap, subst, ◌∙◌, append_assoc, inl, inr, ◌⊎◌, arith}
use Rattle.std.specs.Prelude.{◌&&◌, ◌==◌, not, codes, nat_le, nat_lt}
use Rattle.std.specs.Option.{option_or}
use Rattle.ic_base.specs.Reader.{◌>>=◌}
use Rattle.ic_base.proofs.Steps.{bind_some, some_is}
use Rattle.cd_types.specs.IsOrdered.{ids_rise_from}
use Rattle.cd_types.specs.declared.primitive.Primitive.{Primitive}
use Rattle.cd_types.specs.declared.primitive.Primitive.TheVariants as primitives
use Rattle.cd_types.specs.declared.entry.TyRef.{TyRef}
use Rattle.cd_types.specs.declared.entry.TyRef.TheVariants.{Prim, Index}
use Rattle.cd_types.specs.declared.entry.Entry.{Entry}
use Rattle.cd_types.specs.declared.entry.Entry.TheVariants.{Opt, Seq, Rec, Var, Func, Service}
use Rattle.cd_types.specs.Shape.{Shape, primitive, compound, dangling, shape}
use Rattle.cd_codec.specs.Content.{Content, plain, null, reserved, func, service, blob, none, some, list, record_of, variant, contents_of, parts_of}
use Rattle.cd_codec.specs.Measure.{number, number_all, number_parts}
use Rattle.cd_codec.specs.Missing.{missing}
use Rattle.cd_codec.specs.Wire.{is_nat8}
use Rattle.cd_tokens.specs.Token.{Token, run, quoted, mark}
use Rattle.cd_tokens.specs.Label.{IsLabel}
use Rattle.cd_tokens.specs.Unescaped.{Unescaped}
use Rattle.cd_tokens.specs.ReadLabel.{label_of}
use Rattle.cd_tokens.specs.ReadString.{unescaped_of}
use Rattle.cd_tokens.proofs.Labels.{label_takes}
use Rattle.cd_tokens.proofs.Strings.{unescaped_takes}
use Rattle.cd_text.specs.Words.{name_of}
use Rattle.cd_text.specs.SaysPlain.{SaysPlain, SaysPrincipal, SaysFunc}
use Rattle.cd_text.specs.Said.{Saying, Annotated, bare, annotated, InParentheses, SaysParts, InBraces, no_place, SaysByte, SaysBlob, type_of, SaysField, labelled, unlabelled, value_of, is_absent, are_distinct, left_out, filled, place_of, SaysCase, valued, alone as null_alone, EndsVariant, SaysShape, Says}
use Rattle.cd_plain.specs.ReadPlain.{Taking, is_word, is_mark, starts, string_says, after_word, natural_at, principal_text_at, func_at, primitive_at, Budgeted, alone, string_at}
use Rattle.cd_text.specs.ReadSaid.{then_make, past_name, past_annotation, with_annotation, annotated_at, closed, parenthesized_at, parts_at, in_braces, opt_at, item_at, no_place_of, list_at, byte_at, blob_at, typed_at, field_at, after_field, absent, is_field, fits, made, record_at, null_at, case_at, variant_ended, chosen_at, labelled_at, variant_at, entry_at, shape_at, spend_one, value_at}
use Rattle.cd_tokens.proofs.Fronts.{true_or_false}
use Rattle.cd_tokens.proofs.Starts.{is_equal, started}
use Rattle.cd_text.proofs.Parts.{Consumes, Sound, sum_of, parts_take}
use Rattle.cd_text.proofs.Plains.{Words, Takes, word_started, OneToken, StringOf, first_takes, string_takes, natural_takes_one, func_takes, principal_word_takes, primitive_takes}

pub both : (a b : Bool) → (a && b) ≡ true → (a ≡ true) × (b ≡ true)
both true b e = (refl, e)
both false b e = absurd cc

pub not_true : (b : Bool) → not b ≡ true → b ≡ false
not_true true e = absurd cc
not_true false e = refl

-- ---- annotations and parentheses

name_takes : (p : Primitive) (rest after : List Token) → past_name p rest ≡ Some after → rest ≡ run (name_of p) ∷ after
name_takes p rest after e = elim (true_or_false (starts (is_word (name_of p)) rest)) [
  | inl name ↦
      let g : Some (drop 1 rest) ≡ Some after = rw name at e in
      word_started (name_of p) rest name ∙ ap (λ (ts : List Token). run (name_of p) ∷ ts) (some_is {A = List Token} (drop 1 rest) after g)
  | inr other ↦ let g : None ≡ Some after = rw other at e in absurd cc
]

-- after the value: nothing more, or its type's name
past_takes : (type : TyRef) (rest after : List Token) → past_annotation type rest ≡ Some after → (rest ≡ after) ⊎ ((p : Primitive) × (type ≡ Prim p) × (rest ≡ mark 58 ∷ run (name_of p) ∷ after))
past_takes (Prim p) rest after e = elim (true_or_false (starts (is_mark 58) rest)) [
  | inl colon ↦
      let f : past_name p (drop 1 rest) ≡ Some after = rw colon at e in
      inr (p, refl, started 58 rest colon ∙ ap (λ (ts : List Token). mark 58 ∷ ts) (name_takes p (drop 1 rest) after f))
  | inr bare_is ↦ let f : Some rest ≡ Some after = rw bare_is at e in inl (some_is {A = List Token} rest after f)
]
past_takes (Index i) rest after e = elim (true_or_false (starts (is_mark 58) rest)) [
  | inl colon ↦ let f : None ≡ Some after = rw colon at e in absurd cc
  | inr bare_is ↦ let f : Some rest ≡ Some after = rw bare_is at e in inl (some_is {A = List Token} rest after f)
]

pub annotated_takes : {A : Type 0} (type : TyRef) (P : Saying A) (many : A → ℕ) (read : Budgeted A) → Sound P many read → Sound (λ v. Annotated type (P v)) many (annotated_at type read)
annotated_takes {A} type P many read law n tokens z e =
    let a = bind_some (read n tokens) (with_annotation type) z e in
    let s = law n tokens a.0 a.1 in
    let b = bind_some (past_annotation type a.0.2) (λ rest. Some (a.0.0, a.0.1, rest)) z a.2 in
    subst (Consumes (λ v. Annotated type (P v)) many n tokens) (some_is {A = A × ℕ × List Token} (a.0.0, a.0.1, b.0) z b.2)
    (elim (past_takes type a.0.2 b.0 b.1) [
      | inl same ↦ record { front = s.front; parts = s.parts ∙ ap (λ ts. s.front ++ ts) same; said = bare s.said; left = s.left }
      | inr named ↦ record {
        front = s.front ++ mark 58 ∷ run (name_of named.0) ∷ [];
        parts = s.parts ∙ ap (λ ts. s.front ++ ts) named.2 ∙ sym (append_assoc s.front (mark 58 ∷ run (name_of named.0) ∷ []) b.0);
        said = annotated named.0 s.front named.1 refl s.said;
        left = s.left;
      }
    ])

closed_takes : {A : Type 0} (x z : A × ℕ × List Token) → closed x ≡ Some z → (x.0 ≡ z.0) × (x.1 ≡ z.1) × (x.2 ≡ mark 41 ∷ z.2)
closed_takes {A} x z e = elim (true_or_false (starts (is_mark 41) x.2)) [
  | inl found ↦
      let f : Some (x.0, x.1, drop 1 x.2) ≡ Some z = rw found at e in
      let same : (x.0, x.1, drop 1 x.2) ≡ z = some_is {A = A × ℕ × List Token} (x.0, x.1, drop 1 x.2) z f in
      (ap (λ (y : A × ℕ × List Token). y.0) same, ap (λ (y : A × ℕ × List Token). y.1) same, started 41 x.2 found ∙ ap (λ (y : A × ℕ × List Token). mark 41 ∷ y.2) same)
  | inr never ↦ let f : None ≡ Some z = rw never at e in absurd cc
]

-- what is in parentheses
enclosed_takes : {A : Type 0} (type : TyRef) (P : Saying A) (many : A → ℕ) (read : Budgeted A) → Sound P many read → (n : ℕ) (tokens : List Token) (z : A × ℕ × List Token) → starts (is_mark 40) tokens ≡ true → parenthesized_at type read n tokens ≡ Some z
    → Consumes (λ v. InParentheses type (P v)) many n tokens z
enclosed_takes {A} type P many read law n tokens z paren e =
    let a = bind_some (annotated_at type read n (drop 1 tokens)) closed z e in
    let s = annotated_takes type P many read law n (drop 1 tokens) a.0 a.1 in
    let c = closed_takes a.0 z a.2 in
    record {
      front = mark 40 ∷ (s.front ++ mark 41 ∷ []);
      parts = started 40 tokens paren ∙ ap (λ (ts : List Token). mark 40 ∷ ts) (s.parts ∙ ap (λ ts. s.front ++ ts) c.2 ∙ sym (append_assoc s.front (mark 41 ∷ []) z.2));
      said = (s.front, refl, subst (λ v. Annotated type (P v) s.front) c.0 s.said);
      left = ap (λ v. many v + z.1) (sym c.0) ∙ ap (λ k. many a.0.0 + k) (sym c.1) ∙ s.left;
    }

-- ---- lists in braces

braces_takes : {A : Type 0} (word : List ℕ) (P : ℕ → Saying A) (step : A → ℕ) (many : A → ℕ) (read : ℕ → Budgeted A) → ((next : ℕ) → Sound (P next) many (read next)) → Sound (InBraces word P step) (sum_of many) (in_braces word read step)
braces_takes word P step many read law n tokens z e = elim (true_or_false (starts (is_word word) tokens && starts (is_mark 123) (drop 1 tokens))) [
  | inl found ↦
      let h = both (starts (is_word word) tokens) (starts (is_mark 123) (drop 1 tokens)) found in
      let f : parts_at 59 125 read step (length tokens) 0 n (drop 1 (drop 1 tokens)) ≡ Some z = rw found at e in
      let s = parts_take 59 125 P step many read law (length tokens) 0 n (drop 1 (drop 1 tokens)) z f in
      record {
        front = run word ∷ mark 123 ∷ s.front;
        parts = word_started word tokens h.0 ∙ ap (λ (ts : List Token). run word ∷ ts) (started 123 (drop 1 tokens) h.1 ∙ ap (λ (ts : List Token). mark 123 ∷ ts) s.parts);
        said = (s.front, refl, s.said);
        left = s.left;
      }
  | inr never ↦ let f : None ≡ Some z = rw never at e in absurd cc
]

-- what f makes of what is read
then_takes : {A : Type 0} (P : Saying A) (Q : Saying Content) (many : A → ℕ) (f : A → Content) (n : ℕ) (tokens : List Token) (read : Option (A × ℕ × List Token)) (z : Content × ℕ × List Token) → ((x : A × ℕ × List Token) → read ≡ Some x → Consumes P many n tokens x)
    → ((x : A) (front : List Token) → P x front → Q (f x) front) → ((x : A) → number (f x) ≡ suc (many x)) → then_make f read ≡ Some z → Consumes Q number (suc n) tokens z
then_takes P Q many f n tokens read z law lift count e =
    let a = bind_some read (λ x. Some (f x.0, x.1, x.2)) z e in
    let s = law a.0 a.1 in
    subst (Consumes Q number (suc n) tokens) (some_is {A = Content × ℕ × List Token} (f a.0.0, a.0.1, a.0.2) z a.2)
    (record { front = s.front; parts = s.parts; said = lift a.0.0 s.front s.said; left = let c = count a.0.0 in omega (arith, s.left, c) })

-- a value that is read without parts
alone_takes : {A : Type 0} (P : Words A) (Q : Saying Content) (f : A → Content) (read : Taking A) → Takes P read → ((x : A) (front : List Token) → P x front → Q (f x) front) → ((x : A) → number (f x) ≡ 1)
    → (n : ℕ) (tokens : List Token) (z : Content × ℕ × List Token) → alone f read n tokens ≡ Some z → Consumes Q number (suc n) tokens z
alone_takes P Q f read law lift count n tokens z e =
    let a = bind_some (read tokens) (λ x. Some (f x.0, n, x.1)) z e in
    let t = law tokens a.0 a.1 in
    subst (Consumes Q number (suc n) tokens) (some_is {A = Content × ℕ × List Token} (f a.0.0, n, a.0.1) z a.2)
    (record { front = t.0; parts = t.1; said = lift a.0.0 t.0 t.2; left = let c = count a.0.0 in omega (arith, c) })

-- ---- values by their shape

abbrev pub SoundAt : List Entry → ℕ → (TyRef → Budgeted Content) → Type 0
SoundAt table depth read = (type : TyRef) → Sound (Says table depth type) number (read type)

-- what is said by the shape of a type, within the levels of its parts
abbrev pub AtShape : List Entry → ℕ → Shape → Saying Content
AtShape table depth s = SaysShape depth table (Says table depth) s

opt_takes : (table : List Entry) (depth : ℕ) (inner : TyRef) (read : Budgeted Content) → Sound (Says table depth inner) number read → (n : ℕ) (tokens : List Token) (z : Content × ℕ × List Token) → opt_at read n tokens ≡ Some z
    → Consumes (AtShape table depth (compound (Opt inner))) number (suc n) tokens z
opt_takes table depth inner read law n tokens z e = elim (true_or_false (starts (is_word (codes "null")) tokens)) [
  | inl is_none ↦ let f : Some (none, n, drop 1 tokens) ≡ Some z = rw is_none at e in
      subst (Consumes (AtShape table depth (compound (Opt inner))) number (suc n) tokens) (some_is {A = Content × ℕ × List Token} (none, n, drop 1 tokens) z f)
      (record { front = run (codes "null") ∷ []; parts = word_started (codes "null") tokens is_none; said = inl (refl, refl); left = omega arith })
  | inr other ↦ elim (true_or_false (starts (is_word (codes "opt")) tokens)) [
    | inl is_some ↦
        let f : then_make some (read n (drop 1 tokens)) ≡ Some z = rw (other, is_some) at e in
        let a = bind_some (read n (drop 1 tokens)) (λ x. Some (some x.0, x.1, x.2)) z f in
        let s = law n (drop 1 tokens) a.0 a.1 in
        subst (Consumes (AtShape table depth (compound (Opt inner))) number (suc n) tokens) (some_is {A = Content × ℕ × List Token} (some a.0.0, a.0.1, a.0.2) z a.2)
        (record { front = run (codes "opt") ∷ s.front; parts = word_started (codes "opt") tokens is_some ∙ ap (λ (ts : List Token). run (codes "opt") ∷ ts) s.parts; said = inr (a.0.0, s.front, refl, refl, s.said); left = omega (arith, s.left) })
    | inr never ↦ let f : None ≡ Some z = rw (other, never) at e in absurd cc
  ]
]

pub sum_all : (us : List Content) → number_all (contents_of us) ≡ sum_of number us
sum_all [] = refl
sum_all (u ∷ us) = ap (λ k. number u + k) (sum_all us)

list_takes : (table : List Entry) (depth : ℕ) (item : TyRef) (read : Budgeted Content) → Sound (Says table depth item) number read → is_nat8 item ≡ false → (n : ℕ) (tokens : List Token) (z : Content × ℕ × List Token) → list_at item read n tokens ≡ Some z
    → Consumes (AtShape table depth (compound (Seq item))) number (suc n) tokens z
list_takes table depth item read law not8 n tokens z e =
    then_takes (InBraces (codes "vec") (λ next u. Annotated item (Says table depth item u)) no_place) (AtShape table depth (compound (Seq item))) (sum_of number) (λ us. list (contents_of us)) n tokens
    (in_braces (codes "vec") (item_at item read) no_place_of n tokens) z
    (braces_takes (codes "vec") (λ next u. Annotated item (Says table depth item u)) no_place number (item_at item read) (λ next. annotated_takes item (Says table depth item) number read law) n tokens)
    (λ us front h. inr (us, not8, refl, h)) (λ us. ap suc (sum_all us)) e

-- bytes are no values of their own
unfoldable pub nothing : ℕ → ℕ
nothing b = 0

pub sum_nothing : (bytes : List ℕ) → sum_of nothing bytes ≡ 0
unfolding nothing
sum_nothing [] = refl
sum_nothing (b ∷ bytes) = let i = sum_nothing bytes in omega (arith, i)

byte_takes : (item : TyRef) (depth : ℕ) → Sound (SaysByte item depth) nothing (byte_at item depth)
unfolding byte_at nothing
byte_takes item zero n tokens z e = absurd cc
byte_takes item (suc depth) n tokens z e = elim (true_or_false (starts (is_mark 40) tokens)) [
  | inl paren ↦
      let f : parenthesized_at item (byte_at item depth) n tokens ≡ Some z = rw paren at e in
      let s = enclosed_takes item (SaysByte item depth) nothing (byte_at item depth) (byte_takes item depth) n tokens z paren f in
      record { front = s.front; parts = s.parts; said = inr s.said; left = s.left }
  | inr other ↦
      let f : (natural_at (2 ^ 8) tokens >>= λ x. Some (x.0, n, x.1)) ≡ Some z = rw other at e in
      let a = bind_some (natural_at (2 ^ 8) tokens) (λ x. Some (x.0, n, x.1)) z f in
      let t = natural_takes_one (2 ^ 8) tokens a.0 a.1 in
      subst (Consumes (SaysByte item (suc depth)) nothing n tokens) (some_is {A = ℕ × ℕ × List Token} (a.0.0, n, a.0.1) z a.2)
      (record { front = t.0; parts = t.1; said = inl t.2; left = omega arith })
]

-- a blob of these bytes
abbrev IsBlob : TyRef → ℕ → Saying Content
IsBlob item depth v tokens = (bytes : List ℕ) × (v ≡ blob bytes) × SaysBlob item depth bytes tokens

string_at_takes : Takes (OneToken (StringOf (λ x s. Unescaped x s))) string_at
unfolding string_at
string_at_takes = first_takes (StringOf (λ x s. Unescaped x s)) (string_says unescaped_of) (string_takes (λ x s. Unescaped x s) unescaped_of (λ s x e. unescaped_takes x s e))

blob_takes : (item : TyRef) (depth n : ℕ) (tokens : List Token) (z : Content × ℕ × List Token) → blob_at item depth n tokens ≡ Some z → Consumes (IsBlob item depth) number (suc n) tokens z
blob_takes item depth n tokens z e = elim (true_or_false (starts (is_word (codes "blob")) tokens)) [
  | inl word ↦
      let f : alone blob string_at n (drop 1 tokens) ≡ Some z = rw word at e in
      let a = bind_some (string_at (drop 1 tokens)) (λ x. Some (blob x.0, n, x.1)) z f in
      let t = string_at_takes (drop 1 tokens) a.0 a.1 in
      let one : t.0 ≡ quoted t.2.2.0 ∷ [] = t.2.1 ∙ ap (λ (u : Token). u ∷ []) t.2.2.1 in
      subst (Consumes (IsBlob item depth) number (suc n) tokens) (some_is {A = Content × ℕ × List Token} (blob a.0.0, n, a.0.1) z a.2)
      (record {
        front = run (codes "blob") ∷ quoted t.2.2.0 ∷ [];
        parts = word_started (codes "blob") tokens word ∙ ap (λ (ts : List Token). run (codes "blob") ∷ ts) (t.1 ∙ ap (λ (ts : List Token). ts ++ a.0.1) one);
        said = (a.0.0, refl, inl (t.2.2.0, refl, t.2.2.2));
        left = omega arith;
      })
  | inr other ↦
      let f : then_make blob (in_braces (codes "vec") (item_at item (byte_at item depth)) no_place_of n tokens) ≡ Some z = rw other at e in
      then_takes (InBraces (codes "vec") (λ next b. Annotated item (SaysByte item depth b)) no_place) (IsBlob item depth) (sum_of nothing) blob n tokens
      (in_braces (codes "vec") (item_at item (byte_at item depth)) no_place_of n tokens) z
      (braces_takes (codes "vec") (λ next b. Annotated item (SaysByte item depth b)) no_place nothing (item_at item (byte_at item depth)) (λ next. annotated_takes item (SaysByte item depth) nothing (byte_at item depth) (byte_takes item depth)) n tokens)
      (λ bytes front h. (bytes, refl, inr h)) (λ bytes. ap suc (sym (sum_nothing bytes))) f
]

-- ---- records

-- the ids of a record's fields are distinct
abbrev pub are_fields : List (ℕ × TyRef) → Type 0
are_fields [] = Unit {0}
are_fields (field ∷ fields) = (type_of fields field.0 ≡ None) × are_fields fields

none_below : (fields : List (ℕ × TyRef)) (least id : ℕ) → ids_rise_from least (map (λ f. f.0) fields) ≡ true → id < least → type_of fields id ≡ None
none_below [] least id rise below = refl
none_below (f ∷ fields) least id rise below =
    let h = both (nat_le least f.0 && nat_lt f.0 (2 ^ 32)) (ids_rise_from (suc f.0) (map (λ g. g.0) fields)) rise in
    let i = both (nat_le least f.0) (nat_lt f.0 (2 ^ 32)) h.0 in
    let other : (f.0 == id) ≡ false = grind (arith, i.0, below) in
    let more : id < suc f.0 = grind (arith, i.0, below) in
    rw other (none_below fields (suc f.0) id h.1 more)

pub fields_distinct : (fields : List (ℕ × TyRef)) (least : ℕ) → ids_rise_from least (map (λ f. f.0) fields) ≡ true → are_fields fields
fields_distinct [] least rise = tt
fields_distinct (f ∷ fields) least rise =
    let h = both (nat_le least f.0 && nat_lt f.0 (2 ^ 32)) (ids_rise_from (suc f.0) (map (λ g. g.0) fields)) rise in
    (none_below fields (suc f.0) f.0 h.1 (omega arith), fields_distinct fields (suc f.0) h.1)

abbrev pub IsGood : Shape → Type 0
IsGood (compound (Rec fields)) = are_fields fields
IsGood _ = Unit {0}

abbrev pub Good : List Entry → Type 0
Good table = (type : TyRef) → IsGood (shape table type)

unfoldable pub number_field : ℕ × Content → ℕ
number_field f = number f.1

typed_takes : (table : List Entry) (depth : ℕ) (read : TyRef → Budgeted Content) → SoundAt table depth read → (fields : List (ℕ × TyRef)) (id n : ℕ) (tokens : List Token) (z : (ℕ × Content) × ℕ × List Token) → typed_at read fields id n tokens ≡ Some z
    → (type : TyRef) × (type_of fields id ≡ Some type) × (id ≡ z.0.0) × Consumes (λ f. Annotated type (Says table depth type f.1)) number_field n tokens z
unfolding number_field
typed_takes table depth read law fields id n tokens z e =
    let a = bind_some (type_of fields id) (λ type. then_make (λ v. (id, v)) (annotated_at type (read type) n tokens)) z e in
    let b = bind_some (annotated_at a.0 (read a.0) n tokens) (λ x. Some ((id, x.0), x.1, x.2)) z a.2 in
    let s = annotated_takes a.0 (Says table depth a.0) number (read a.0) (law a.0) n tokens b.0 b.1 in
    let same : ((id, b.0.0), b.0.1, b.0.2) ≡ z = some_is {A = (ℕ × Content) × ℕ × List Token} ((id, b.0.0), b.0.1, b.0.2) z b.2 in
    (a.0, a.1, ap (λ (y : (ℕ × Content) × ℕ × List Token). y.0.0) same, subst (Consumes (λ f. Annotated a.0 (Says table depth a.0 f.1)) number_field n tokens) same (record { front = s.front; parts = s.parts; said = s.said; left = s.left }))

field_takes : (table : List Entry) (depth : ℕ) (read : TyRef → Budgeted Content) → SoundAt table depth read → (fields : List (ℕ × TyRef)) (next : ℕ) → Sound (SaysField (Says table depth) fields next) number_field (field_at read fields next)
unfolding number_field
field_takes table depth read law fields next n [] z e = absurd cc
field_takes table depth read law fields next n (t ∷ rest) z e = elim (true_or_false (starts (is_mark 61) rest)) [
  | inl named ↦
      let f : (label_of t >>= λ id. typed_at read fields id n (drop 1 rest)) ≡ Some z = rw named at e in
      let a = bind_some (label_of t) (λ id. typed_at read fields id n (drop 1 rest)) z f in
      let s = typed_takes table depth read law fields a.0 n (drop 1 rest) z a.2 in
      record {
        front = t ∷ mark 61 ∷ s.3.front;
        parts = ap (λ (ts : List Token). t ∷ ts) (started 61 rest named ∙ ap (λ (ts : List Token). mark 61 ∷ ts) s.3.parts);
        said = labelled s.0 t s.3.front (subst (λ k. type_of fields k ≡ Some s.0) s.2 s.1) (subst (λ k. IsLabel k t) s.2 (label_takes t a.0 a.1)) refl s.3.said;
        left = s.3.left;
      }
  | inr plain_is ↦
      let f : typed_at read fields next n (t ∷ rest) ≡ Some z = rw plain_is at e in
      let s = typed_takes table depth read law fields next n (t ∷ rest) z f in
      record { front = s.3.front; parts = s.3.parts; said = unlabelled s.0 (subst (λ k. type_of fields k ≡ Some s.0) s.2 s.1) (sym s.2) s.3.said; left = s.3.left }
]

-- ---- the number of values of a record

pub worth : Option Content → ℕ
worth None = 1
worth (Some v) = number v

pub weight : List (ℕ × Content) → List (ℕ × TyRef) → ℕ
weight said [] = 0
weight said (field ∷ fields) = worth (value_of said field.0) + weight said fields

missing_one : (s : Shape) (v : Content) → missing s ≡ Some v → number v ≡ 1
missing_one (primitive primitives.Null) v e = subst (λ u. number u ≡ 1) (some_is {A = Content} (plain null) v e) refl
missing_one (primitive primitives.Reserved) v e = subst (λ u. number u ≡ 1) (some_is {A = Content} (plain reserved) v e) refl
missing_one (compound (Opt type)) v e = subst (λ u. number u ≡ 1) (some_is {A = Content} none v e) refl
missing_one _ v e = absurd cc

out_one : (depth : ℕ) (s : Shape) (v : Content) → left_out depth s ≡ Some v → number v ≡ 1
out_one zero s v e = absurd cc
out_one (suc depth) s v e = missing_one s v e

or_worth : (said : Option Content) (out : Option Content) (v : Content) → option_or said out ≡ Some v → (out ≡ Some v → number v ≡ 1) → worth said ≡ number v
unfolding worth
or_worth (Some u) out v e one = ap number (some_is {A = Content} u v e)
or_worth None out v e one = sym (one e)

pub filled_weight : (depth : ℕ) (table : List Entry) (said : List (ℕ × Content)) (fields : List (ℕ × TyRef)) (ps : List (ℕ × Content)) → filled depth table said fields ≡ Some ps → number_parts (parts_of ps) ≡ weight said fields
unfolding weight
filled_weight depth table said [] ps e = subst (λ qs. number_parts (parts_of qs) ≡ 0) (some_is {A = List (ℕ × Content)} [] ps e) refl
filled_weight depth table said (field ∷ fields) ps e =
    let a = bind_some (option_or (value_of said field.0) (left_out depth (shape table field.1))) (λ v. filled depth table said fields >>= λ vs. Some ((field.0, v) ∷ vs)) ps e in
    let b = bind_some (filled depth table said fields) (λ vs. Some ((field.0, a.0) ∷ vs)) ps a.2 in
    let w = or_worth (value_of said field.0) (left_out depth (shape table field.1)) a.0 a.1 (out_one depth (shape table field.1) a.0) in
    subst (λ qs. number_parts (parts_of qs) ≡ worth (value_of said field.0) + weight said fields) (some_is {A = List (ℕ × Content)} ((field.0, a.0) ∷ b.0) ps b.2)
    (let i = filled_weight depth table said fields b.0 b.1 in omega (arith, w, i))

-- each is a field
abbrev pub Within : List (ℕ × TyRef) → List (ℕ × Content) → Type 0
Within fields [] = Unit {0}
Within fields (f ∷ fs) = ((type : TyRef) × (type_of fields f.0 ≡ Some type)) × Within fields fs

field_type : (P : TyRef → Saying Content) (fields : List (ℕ × TyRef)) (next : ℕ) (f : ℕ × Content) (tokens : List Token) → SaysField P fields next f tokens → (type : TyRef) × (type_of fields f.0 ≡ Some type)
field_type P fields next f tokens (labelled type label rest known is whole said) = (type, known)
field_type P fields next f tokens (unlabelled type known is said) = (type, known)

pub within : (P : TyRef → Saying Content) (fields : List (ℕ × TyRef)) (next : ℕ) (fs : List (ℕ × Content)) (tokens : List Token) → SaysParts (mark 59) (mark 125) (SaysField P fields) (λ f. suc f.0) next fs tokens → Within fields fs
within P fields next [] tokens h = tt
within P fields next (f ∷ fs) tokens h = (
  field_type P fields next f h.0 h.3,
  elim h.4 [
    | inl last ↦ subst (Within fields) (sym last.0) tt
    | inr more ↦ within P fields (suc f.0) fs more.0 more.2
  ],
)

pub not_said : (id : ℕ) (said : List (ℕ × Content)) → is_absent id said ≡ true → value_of said id ≡ None
not_said id [] h = refl
not_said id (f ∷ said) h =
    let t = both (not (id == f.0)) (is_absent id said) h in
    rw (not_true (id == f.0) t.0) (not_said id said t.1)

-- a value of no field changes nothing
none_said : (x : ℕ × Content) (more : List (ℕ × Content)) (fields : List (ℕ × TyRef)) → type_of fields x.0 ≡ None → (weight (x ∷ more) fields ≡ weight more fields) × (absent (x ∷ more) fields ≡ absent more fields)
unfolding weight
none_said x more [] h = (refl, refl)
none_said x more (f ∷ fields) h = elim (true_or_false (f.0 == x.0)) [
  | inl same ↦ let e : Some f.1 ≡ None = rw same at h in absurd cc
  | inr other ↦
      let r : type_of fields x.0 ≡ None = rw other at h in
      let i = none_said x more fields r in
      (rw (other, i.0) refl, rw (other, i.1) refl)
]

-- one more value
one_said : (x : ℕ × Content) (more : List (ℕ × Content)) (fields : List (ℕ × TyRef)) (type : TyRef) → are_fields fields → type_of fields x.0 ≡ Some type → is_absent x.0 more ≡ true
    → (weight (x ∷ more) fields + 1 ≡ weight more fields + number x.1) × (absent (x ∷ more) fields + 1 ≡ absent more fields)
unfolding weight worth
one_said x more [] type are h free = absurd cc
one_said x more (f ∷ fields) type are h free = elim (true_or_false (f.0 == x.0)) [
  | inl same ↦
      let e : f.0 ≡ x.0 = is_equal f.0 x.0 same in
      let n : value_of more f.0 ≡ None = rw e (not_said x.0 more free) in
      let i = none_said x more fields (subst (λ k. type_of fields k ≡ None) e are.0) in
      (rw (same, n, i.0) (omega arith), rw (same, n, i.1) (omega arith))
  | inr other ↦
      let r : type_of fields x.0 ≡ Some type = rw other at h in
      let i = one_said x more fields type are.1 r free in
      (rw other (omega (arith, i.0)), rw other (omega (arith, i.1)))
]

nothing_said : (fields : List (ℕ × TyRef)) → weight [] fields ≡ absent [] fields
unfolding weight worth
nothing_said [] = refl
nothing_said (f ∷ fields) = ap (λ k. 1 + k) (nothing_said fields)

pub weight_is : (fields : List (ℕ × TyRef)) → are_fields fields → (said : List (ℕ × Content)) → Within fields said → are_distinct said ≡ true → weight said fields ≡ sum_of number_field said + absent said fields
unfolding number_field
weight_is fields are [] inside once = let n = nothing_said fields in omega (arith, n)
weight_is fields are (x ∷ said) inside once =
    let t = both (is_absent x.0 said) (are_distinct said) once in
    let i = weight_is fields are said inside.1 t.1 in
    let o = one_said x said fields inside.0.0 are inside.0.1 t.0 in
    omega (arith, i, o.0, o.1)

at_most : (a b : ℕ) → nat_le a b ≡ true → a ≤ b
at_most a b h = grind arith

-- ---- fields that fit

one_less : (found : Option ℕ) → is_field (found >>= λ k. Some (suc k)) ≡ true → is_field found ≡ true
one_less None h = h
one_less (Some k) h = refl

one_more : (found : Option ℕ) → is_field found ≡ true → is_field (found >>= λ k. Some (suc k)) ≡ true
one_more None h = h
one_more (Some k) h = refl

place_typed : (fields : List (ℕ × TyRef)) (id : ℕ) → is_field (place_of fields id) ≡ true → (type : TyRef) × (type_of fields id ≡ Some type)
place_typed [] id h = absurd cc
place_typed (f ∷ fields) id h = elim (true_or_false (f.0 == id)) [
  | inl same ↦ (f.1, rw same refl)
  | inr other ↦
      let g : is_field (place_of fields id >>= λ k. Some (suc k)) ≡ true = rw other at h in
      let t = place_typed fields id (one_less (place_of fields id) g) in (t.0, rw other t.1)
]

typed_place : (fields : List (ℕ × TyRef)) (id : ℕ) (type : TyRef) → type_of fields id ≡ Some type → is_field (place_of fields id) ≡ true
typed_place [] id type h = absurd cc
typed_place (f ∷ fields) id type h = elim (true_or_false (f.0 == id)) [
  | inl same ↦ rw same refl
  | inr other ↦
      let g : type_of fields id ≡ Some type = rw other at h in
      rw other (one_more (place_of fields id) (typed_place fields id type g))
]

pub fits_parts : (fields : List (ℕ × TyRef)) (said : List (ℕ × Content)) → fits fields said ≡ true → Within fields said × (are_distinct said ≡ true)
fits_parts fields [] h = (tt, refl)
fits_parts fields (x ∷ said) h =
    let t = both (fits fields said && is_field (place_of fields x.0)) (is_absent x.0 said) h in
    let u = both (fits fields said) (is_field (place_of fields x.0)) t.0 in
    let i = fits_parts fields said u.0 in
    ((place_typed fields x.0 u.1, i.0), rw (t.1, i.1) refl)

pub fits_all : (fields : List (ℕ × TyRef)) (said : List (ℕ × Content)) → Within fields said → are_distinct said ≡ true → fits fields said ≡ true
fits_all fields [] inside once = refl
fits_all fields (x ∷ said) inside once =
    let t = both (is_absent x.0 said) (are_distinct said) once in
    rw (fits_all fields said inside.1 t.1, typed_place fields x.0 inside.0.0 inside.0.1, t.0) refl

none_absent : (fields : List (ℕ × TyRef)) → absent [] fields ≡ length fields
none_absent [] = refl
none_absent (f ∷ fields) = let i = none_absent fields in omega (arith, i)

-- as many are not said
pub absent_count : (fields : List (ℕ × TyRef)) → are_fields fields → (said : List (ℕ × Content)) → fits fields said ≡ true → absent said fields + length said ≡ length fields
absent_count fields are [] h = let i = none_absent fields in omega (arith, i)
absent_count fields are (x ∷ said) h =
    let t = both (fits fields said && is_field (place_of fields x.0)) (is_absent x.0 said) h in
    let u = both (fits fields said) (is_field (place_of fields x.0)) t.0 in
    let p = place_typed fields x.0 u.1 in
    let o = one_said x said fields p.0 are p.1 t.1 in
    let i = absent_count fields are said u.0 in
    omega (arith, o.1, i)

made_takes : (depth : ℕ) (table : List Entry) (fields : List (ℕ × TyRef)) (said : List (ℕ × Content)) (n : ℕ) (z : Content × ℕ) → are_fields fields → made depth table fields said n ≡ Some z
    → (ps : List (ℕ × Content)) × (are_distinct said ≡ true) × (filled depth table said fields ≡ Some ps) × (z.0 ≡ record_of (parts_of ps)) × (number z.0 + z.1 ≡ suc (sum_of number_field said + n))
unfolding made
made_takes depth table fields said n z are e = elim (true_or_false (fits fields said && nat_le (absent said fields) n)) [
  | inr bad ↦ let f : None ≡ Some z = rw bad at e in absurd cc
  | inl fine ↦
      let f : (filled depth table said fields >>= λ ps. Some (record_of (parts_of ps), n - absent said fields)) ≡ Some z = rw fine at e in
      let c = bind_some (filled depth table said fields) (λ ps. Some (record_of (parts_of ps), n - absent said fields)) z f in
      let h = both (fits fields said) (nat_le (absent said fields) n) fine in
      let i = fits_parts fields said h.0 in
      let w = filled_weight depth table said fields c.0 c.1 in
      let x = weight_is fields are said i.0 i.1 in
      let few : absent said fields ≤ n = at_most (absent said fields) n h.1 in
      let same = some_is {A = Content × ℕ} (record_of (parts_of c.0), n - absent said fields) z c.2 in
      let count : number (record_of (parts_of c.0)) + (n - absent said fields) ≡ suc (sum_of number_field said + n) = omega (arith, w, x, few) in
      (c.0, i.1, c.1, sym (ap (λ (y : Content × ℕ). y.0) same), subst (λ (y : Content × ℕ). number y.0 + y.1 ≡ suc (sum_of number_field said + n)) same count)
]

record_takes : (table : List Entry) (depth : ℕ) (read : TyRef → Budgeted Content) → SoundAt table depth read → (fields : List (ℕ × TyRef)) → are_fields fields
    → (n : ℕ) (tokens : List Token) (z : Content × ℕ × List Token) → record_at read depth table fields n tokens ≡ Some z → Consumes (AtShape table depth (compound (Rec fields))) number (suc n) tokens z
record_takes table depth read law fields are n tokens z e =
    let a = bind_some (in_braces (codes "record") (field_at read fields) after_field n tokens) (λ x. made depth table fields x.0 x.1 >>= λ y. Some (y.0, y.1, x.2)) z e in
    let s = braces_takes (codes "record") (SaysField (Says table depth) fields) (λ f. suc f.0) number_field (field_at read fields) (field_takes table depth read law fields) n tokens a.0 a.1 in
    let b = bind_some (made depth table fields a.0.0 a.0.1) (λ y. Some (y.0, y.1, a.0.2)) z a.2 in
    let m = made_takes depth table fields a.0.0 a.0.1 b.0 are b.1 in
    let left_is = s.left in
    let count = m.4 in
    subst (Consumes (AtShape table depth (compound (Rec fields))) number (suc n) tokens) (some_is {A = Content × ℕ × List Token} (b.0.0, b.0.1, a.0.2) z b.2)
    (record {
      front = s.front;
      parts = s.parts;
      said = record { said = a.0.0; parts = m.0; fields_said = s.said; once = m.1; all = m.2; is = m.3 };
      left = omega (arith, left_is, count);
    })

-- ---- variants

null_takes : (depth : ℕ) (s : Shape) (n : ℕ) (tokens : List Token) (z : Content × ℕ × List Token) → null_at depth s n tokens ≡ Some z → (less : ℕ) × (depth ≡ suc less) × (s ≡ primitive primitives.Null) × (z.0 ≡ plain null) × (n ≡ suc z.1) × (tokens ≡ z.2)
null_takes zero s n tokens z e = absurd cc
null_takes (suc depth) (primitive primitives.Null) zero tokens z e = absurd cc
null_takes (suc depth) (primitive primitives.Null) (suc n) tokens z e =
    let same = some_is {A = Content × ℕ × List Token} (plain null, n, tokens) z e in
    (depth, refl, refl, sym (ap (λ (y : Content × ℕ × List Token). y.0) same), ap (λ (y : Content × ℕ × List Token). suc y.1) same, ap (λ (y : Content × ℕ × List Token). y.2) same)
null_takes (suc depth) _ n tokens z e = absurd cc

case_takes : (table : List Entry) (depth : ℕ) (read : TyRef → Budgeted Content) → SoundAt table depth read → (type : TyRef) → Sound (SaysCase depth table (Says table depth) type) number (case_at read depth table type)
case_takes table depth read law type n tokens z e = elim (true_or_false (starts (is_mark 61) tokens)) [
  | inl named ↦
      let f : annotated_at type (read type) n (drop 1 tokens) ≡ Some z = rw named at e in
      let s = annotated_takes type (Says table depth type) number (read type) (law type) n (drop 1 tokens) z f in
      record { front = mark 61 ∷ s.front; parts = started 61 tokens named ∙ ap (λ (ts : List Token). mark 61 ∷ ts) s.parts; said = valued s.front refl s.said; left = s.left }
  | inr no_value ↦
      let f : null_at depth (shape table type) n tokens ≡ Some z = rw no_value at e in
      let t = null_takes depth (shape table type) n tokens z f in
      let one : number z.0 ≡ 1 = ap number t.3 in
      record { front = []; parts = t.5; said = null_alone t.0 t.1 t.2 t.3 refl; left = omega (arith, one, t.4) }
]

ended_takes : (x z : Content × ℕ × List Token) → variant_ended x ≡ Some z → (x.0 ≡ z.0) × (x.1 ≡ z.1) × (end : List Token) × (x.2 ≡ end ++ z.2) × EndsVariant end
ended_takes x z e = elim (true_or_false (starts (is_mark 125) x.2)) [
  | inl found ↦
      let same = some_is {A = Content × ℕ × List Token} (x.0, x.1, drop 1 x.2) z (rw found at e) in
      (ap (λ (y : Content × ℕ × List Token). y.0) same, ap (λ (y : Content × ℕ × List Token). y.1) same, mark 125 ∷ [], started 125 x.2 found ∙ ap (λ (y : Content × ℕ × List Token). mark 125 ∷ y.2) same, inl refl)
  | inr other ↦ elim (true_or_false (starts (is_mark 59) x.2 && starts (is_mark 125) (drop 1 x.2))) [
    | inl found ↦
        let h = both (starts (is_mark 59) x.2) (starts (is_mark 125) (drop 1 x.2)) found in
        let same = some_is {A = Content × ℕ × List Token} (x.0, x.1, drop 1 (drop 1 x.2)) z (rw (other, found) at e) in (
          ap (λ (y : Content × ℕ × List Token). y.0) same,
          ap (λ (y : Content × ℕ × List Token). y.1) same,
          mark 59 ∷ mark 125 ∷ [],
          started 59 x.2 h.0 ∙ ap (λ (ts : List Token). mark 59 ∷ ts) (started 125 (drop 1 x.2) h.1 ∙ ap (λ (y : Content × ℕ × List Token). mark 125 ∷ y.2) same),
          inr refl,
        )
    | inr never ↦ let f : None ≡ Some z = rw (other, never) at e in absurd cc
  ]
]

-- a case after its label
record Chosen (table : List Entry) (depth : ℕ) (cases : List (ℕ × TyRef)) (id n : ℕ) (tokens : List Token) (z : Content × ℕ × List Token) : Type 0 where
  place : ℕ
  type : TyRef
  value : Content
  front : List Token
  end : List Token
  at_place : place_of cases id ≡ Some place
  has_type : type_of cases id ≡ Some type
  says : SaysCase depth table (Says table depth) type value front
  ends : EndsVariant end
  is : z.0 ≡ variant place value
  parts : tokens ≡ front ++ (end ++ z.2)
  left : number value + z.1 ≡ n

chosen_takes : (table : List Entry) (depth : ℕ) (read : TyRef → Budgeted Content) → SoundAt table depth read → (cases : List (ℕ × TyRef)) (id n : ℕ) (tokens : List Token) (z : Content × ℕ × List Token) → chosen_at read depth table cases id n tokens ≡ Some z
    → Chosen table depth cases id n tokens z
chosen_takes table depth read law cases id n tokens z e =
    let a = bind_some (place_of cases id) (λ place. type_of cases id >>= λ type. then_make (λ v. variant place v) (case_at read depth table type n tokens >>= variant_ended)) z e in
    let b = bind_some (type_of cases id) (λ type. then_make (λ v. variant a.0 v) (case_at read depth table type n tokens >>= variant_ended)) z a.2 in
    let c = bind_some (case_at read depth table b.0 n tokens >>= variant_ended) (λ x. Some (variant a.0 x.0, x.1, x.2)) z b.2 in
    let d = bind_some (case_at read depth table b.0 n tokens) variant_ended c.0 c.1 in
    let s = case_takes table depth read law b.0 n tokens d.0 d.1 in
    let t = ended_takes d.0 c.0 d.2 in
    let same = some_is {A = Content × ℕ × List Token} (variant a.0 c.0.0, c.0.1, c.0.2) z c.2 in
    let rest : c.0.2 ≡ z.2 = ap (λ (y : Content × ℕ × List Token). y.2) same in
    let less : d.0.1 ≡ z.1 = t.1 ∙ ap (λ (y : Content × ℕ × List Token). y.1) same in
    let count = s.left in
    record {
      place = a.0;
      type = b.0;
      value = d.0.0;
      front = s.front;
      end = t.2;
      at_place = a.1;
      has_type = b.1;
      says = s.said;
      ends = t.4;
      is = sym (ap (λ (y : Content × ℕ × List Token). y.0) same) ∙ ap (λ v. variant a.0 v) (sym t.0);
      parts = s.parts ∙ ap (λ ts. s.front ++ ts) (t.3 ∙ ap (λ ts. t.2 ++ ts) rest);
      left = ap (λ k. number d.0.0 + k) (sym less) ∙ count;
    }

behind_takes : (table : List Entry) (depth : ℕ) (read : TyRef → Budgeted Content) → SoundAt table depth read → (cases : List (ℕ × TyRef)) (n : ℕ) (rest tokens : List Token) (z : Content × ℕ × List Token) → tokens ≡ run (codes "variant") ∷ mark 123 ∷ rest
    → labelled_at read depth table cases n rest ≡ Some z → Consumes (AtShape table depth (compound (Var cases))) number (suc n) tokens z
behind_takes table depth read law cases n [] tokens z whole e = absurd cc
behind_takes table depth read law cases n (t ∷ rest) tokens z whole e =
    let a = bind_some (label_of t) (λ id. chosen_at read depth table cases id n rest) z e in
    let c = chosen_takes table depth read law cases a.0 n rest z a.2 in
    let one : number z.0 ≡ suc (number c.value) = ap number c.is in
    let count = c.left in
    record {
      front = run (codes "variant") ∷ mark 123 ∷ t ∷ (c.front ++ c.end);
      parts = whole ∙ ap (λ (ts : List Token). run (codes "variant") ∷ mark 123 ∷ t ∷ ts) (c.parts ∙ sym (append_assoc c.front c.end z.2));
      said = record {
        id = a.0;
        place = c.place;
        type = c.type;
        value = c.value;
        label = t;
        front = c.front;
        end = c.end;
        whole = refl;
        is_label = label_takes t a.0 a.1;
        at_place = c.at_place;
        has_type = c.has_type;
        says = c.says;
        ends = c.ends;
        is = c.is;
      };
      left = omega (arith, one, count);
    }

variant_takes : (table : List Entry) (depth : ℕ) (read : TyRef → Budgeted Content) → SoundAt table depth read → (cases : List (ℕ × TyRef)) (n : ℕ) (tokens : List Token) (z : Content × ℕ × List Token) → variant_at read depth table cases n tokens ≡ Some z
    → Consumes (AtShape table depth (compound (Var cases))) number (suc n) tokens z
variant_takes table depth read law cases n tokens z e = elim (true_or_false (starts (is_word (codes "variant")) tokens && starts (is_mark 123) (drop 1 tokens))) [
  | inr never ↦ let f : None ≡ Some z = rw never at e in absurd cc
  | inl found ↦
      let h = both (starts (is_word (codes "variant")) tokens) (starts (is_mark 123) (drop 1 tokens)) found in
      let f : labelled_at read depth table cases n (drop 1 (drop 1 tokens)) ≡ Some z = rw found at e in
      behind_takes table depth read law cases n (drop 1 (drop 1 tokens)) tokens z (word_started (codes "variant") tokens h.0 ∙ ap (λ (ts : List Token). run (codes "variant") ∷ ts) (started 123 (drop 1 tokens) h.1)) f
]

-- ---- a value

shape_takes : (table : List Entry) → Good table → (depth : ℕ) (read : TyRef → Budgeted Content) → SoundAt table depth read → (s : Shape) → IsGood s → (n : ℕ) (tokens : List Token) (z : Content × ℕ × List Token) → shape_at depth table read s n tokens ≡ Some z
    → Consumes (AtShape table depth s) number (suc n) tokens z
unfolding entry_at
shape_takes table good depth read law (primitive p) fine n tokens z e =
    alone_takes (SaysPlain p) (AtShape table depth (primitive p)) plain (primitive_at p) (primitive_takes p) (λ u front h. (u, refl, h)) (λ u. refl) n tokens z e
shape_takes table good depth read law (compound (Opt inner)) fine n tokens z e = opt_takes table depth inner (read inner) (law inner) n tokens z e
shape_takes table good depth read law (compound (Seq item)) fine n tokens z e = elim (true_or_false (is_nat8 item)) [
  | inl is8 ↦
      let f : blob_at item (suc depth) n tokens ≡ Some z = rw is8 at e in
      let s = blob_takes item (suc depth) n tokens z f in
      record { front = s.front; parts = s.parts; said = inl (s.said.0, is8, s.said.1, s.said.2); left = s.left }
  | inr not8 ↦ list_takes table depth item (read item) (law item) not8 n tokens z (rw not8 at e)
]
shape_takes table good depth read law (compound (Rec fields)) fine n tokens z e = record_takes table depth read law fields fine n tokens z e
shape_takes table good depth read law (compound (Var cases)) fine n tokens z e = variant_takes table depth read law cases n tokens z e
shape_takes table good depth read law (compound (Func args results notes)) fine n tokens z e =
    alone_takes (λ (f : List ℕ × List ℕ) ts. SaysFunc f.0 f.1 ts) (AtShape table depth (compound (Func args results notes))) (λ (f : List ℕ × List ℕ). plain (func f.0 f.1)) func_at func_takes (λ f front h. (f.0, f.1, refl, h)) (λ f. refl) n tokens z e
shape_takes table good depth read law (compound (Service methods)) fine n tokens z e =
    alone_takes (SaysPrincipal (codes "service")) (AtShape table depth (compound (Service methods))) (λ p. plain (service p)) (after_word (codes "service") principal_text_at) (principal_word_takes (codes "service")) (λ p front h. (p, refl, h)) (λ p. refl) n tokens z e
shape_takes table good depth read law dangling fine n tokens z e = absurd cc

-- one value more
spend_takes : (P : Saying Content) (read : Budgeted Content) → ((n : ℕ) (tokens : List Token) (z : Content × ℕ × List Token) → read n tokens ≡ Some z → Consumes P number (suc n) tokens z)
    → (n : ℕ) (tokens : List Token) (z : Content × ℕ × List Token) → spend_one read n tokens ≡ Some z → Consumes P number n tokens z
spend_takes P read law zero tokens z e = absurd cc
spend_takes P read law (suc n) tokens z e = law n tokens z e

-- what is read is said
pub value_takes : (table : List Entry) → Good table → (depth : ℕ) → SoundAt table depth (value_at table depth)
unfolding value_at
value_takes table good zero type n tokens z e = absurd cc
value_takes table good (suc depth) type n tokens z e = elim (true_or_false (starts (is_mark 40) tokens)) [
  | inl paren ↦
      let f : parenthesized_at type (value_at table depth type) n tokens ≡ Some z = rw paren at e in
      let s = enclosed_takes type (Says table depth type) number (value_at table depth type) (value_takes table good depth type) n tokens z paren f in
      record { front = s.front; parts = s.parts; said = inr s.said; left = s.left }
  | inr other ↦
      let f : spend_one (shape_at depth table (value_at table depth) (shape table type)) n tokens ≡ Some z = rw other at e in
      let s = spend_takes (AtShape table depth (shape table type)) (shape_at depth table (value_at table depth) (shape table type)) (shape_takes table good depth (value_at table depth) (value_takes table good depth) (shape table type) (good type)) n tokens z f in
      record { front = s.front; parts = s.parts; said = inl s.said; left = s.left }
]
