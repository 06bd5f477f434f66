-- No value begins with `_`, with `let` or with a dot.
use Rattle.std.proofs.Common.{◌≡◌, ℕ, zero, suc, Bool, true, false, List, [], ◌∷◌, Option, Some, None, refl, subst, inl, inr}
use Rattle.std.specs.Prelude.{◌&&◌, ◌||◌, ◌==◌, codes, bytes_eq}
use Rattle.std.proofs.lemmas.Slice.Eq.{bytes_eq-Decides}
use Rattle.ic_base.specs.Reader.{◌>>=◌}
use Rattle.cd_types.specs.declared.primitive.Primitive.{Primitive}
use Rattle.cd_types.specs.declared.primitive.Primitive.TheVariants as primitives
use Rattle.cd_types.specs.declared.entry.TyRef.{TyRef}
use Rattle.cd_types.specs.declared.entry.Entry.{Entry}
use Rattle.cd_types.specs.declared.entry.Entry.TheVariants.{Opt, Seq, Rec, Var, Func, Service}
use Rattle.cd_types.specs.Shape.{Shape, primitive, compound, dangling, shape}
use Rattle.cd_codec.specs.Content.{Content}
use Rattle.cd_codec.specs.Wire.{is_nat8}
use Rattle.cd_tokens.specs.Token.{Token, run, quoted, mark, arrow}
use Rattle.cd_tokens.specs.ReadNumeral.{digits_from, numeral_of, natural_of, integer_of}
use Rattle.cd_tokens.specs.ReadLabel.{label_of}
use Rattle.cd_tokens.proofs.Fronts.{true_or_false}
use Rattle.cd_tokens.proofs.Starts.{is_equal}
use Rattle.cd_plain.specs.ReadPlain.{is_mark, starts, natural_at, integer_at, text_at, bool_at, func_at, primitive_at, Budgeted}
use Rattle.cd_text.specs.Said.{type_of}
use Rattle.cd_text.specs.ReadSaid.{then_make, annotated_at, typed_at, field_at, entry_at, shape_at, value_at}
use Rattle.ct_values.specs.declared.reader.Admitted.{Admitted}
use Rattle.ct_values.specs.Spelled.{starts_hole}

-- the word is none with which a value begins
record Strange (w : List ℕ) : Type 0 where
  null : bytes_eq w (codes "null") ≡ false
  yes : bytes_eq w (codes "true") ≡ false
  no : bytes_eq w (codes "false") ≡ false
  principal : bytes_eq w (codes "principal") ≡ false
  opt : bytes_eq w (codes "opt") ≡ false
  vec : bytes_eq w (codes "vec") ≡ false
  blob : bytes_eq w (codes "blob") ≡ false
  fields : bytes_eq w (codes "record") ≡ false
  variant : bytes_eq w (codes "variant") ≡ false
  func : bytes_eq w (codes "func") ≡ false
  service : bytes_eq w (codes "service") ≡ false
  natural : natural_of w ≡ None
  integer : integer_of w ≡ None

blank : Strange (codes "_")
unfolding natural_of integer_of numeral_of digits_from
blank = record { null = refl; yes = refl; no = refl; principal = refl; opt = refl; vec = refl; blob = refl; fields = refl; variant = refl; func = refl; service = refl; natural = refl; integer = refl }

let_word : Strange (codes "let")
unfolding natural_of integer_of numeral_of digits_from
let_word = record { null = refl; yes = refl; no = refl; principal = refl; opt = refl; vec = refl; blob = refl; fields = refl; variant = refl; func = refl; service = refl; natural = refl; integer = refl }

plain_word : (w : List ℕ) → Strange w → (p : Primitive) (rest : List Token) → primitive_at p (run w ∷ rest) ≡ None
unfolding primitive_at natural_at integer_at text_at bool_at
plain_word w s primitives.Null rest = let e = s.null in rw e refl
plain_word w s primitives.Bool rest = let e = s.yes in let f = s.no in rw (e, f) refl
plain_word w s primitives.Nat rest = let e = s.natural in rw e refl
plain_word w s primitives.Int rest = let e = s.integer in rw e refl
plain_word w s primitives.Nat8 rest = let e = s.natural in rw e refl
plain_word w s primitives.Nat16 rest = let e = s.natural in rw e refl
plain_word w s primitives.Nat32 rest = let e = s.natural in rw e refl
plain_word w s primitives.Nat64 rest = let e = s.natural in rw e refl
plain_word w s primitives.Int8 rest = let e = s.integer in rw e refl
plain_word w s primitives.Int16 rest = let e = s.integer in rw e refl
plain_word w s primitives.Int32 rest = let e = s.integer in rw e refl
plain_word w s primitives.Int64 rest = let e = s.integer in rw e refl
plain_word w s primitives.Text rest = refl
plain_word w s primitives.Reserved rest = let e = s.null in rw e refl
plain_word w s primitives.Empty rest = refl
plain_word w s primitives.Principal rest = let e = s.principal in rw e refl

plain_mark : (m : ℕ) (p : Primitive) (rest : List Token) → primitive_at p (mark m ∷ rest) ≡ None
unfolding primitive_at natural_at integer_at text_at bool_at
plain_mark m primitives.Null rest = refl
plain_mark m primitives.Bool rest = refl
plain_mark m primitives.Nat rest = refl
plain_mark m primitives.Int rest = refl
plain_mark m primitives.Nat8 rest = refl
plain_mark m primitives.Nat16 rest = refl
plain_mark m primitives.Nat32 rest = refl
plain_mark m primitives.Nat64 rest = refl
plain_mark m primitives.Int8 rest = refl
plain_mark m primitives.Int16 rest = refl
plain_mark m primitives.Int32 rest = refl
plain_mark m primitives.Int64 rest = refl
plain_mark m primitives.Text rest = refl
plain_mark m primitives.Reserved rest = refl
plain_mark m primitives.Empty rest = refl
plain_mark m primitives.Principal rest = refl

entry_word : (w : List ℕ) → Strange w → (depth : ℕ) (table : List Entry) (read : TyRef → Budgeted Content) (entry : Entry) (left : ℕ) (rest : List Token) → entry_at depth table read entry left (run w ∷ rest) ≡ None
unfolding entry_at func_at
entry_word w s depth table read (Opt inner) left rest = let e = s.null in let f = s.opt in rw (e, f) refl
entry_word w s depth table read (Seq item) left rest = let e = s.blob in let f = s.vec in elim (true_or_false (is_nat8 item)) [ inl bytes ↦ rw (bytes, e, f) refl | inr other ↦ rw (other, f) refl ]
entry_word w s depth table read (Rec fields) left rest = let e = s.fields in rw e refl
entry_word w s depth table read (Var cases) left rest = let e = s.variant in rw e refl
entry_word w s depth table read (Func args results notes) left rest = let e = s.func in rw e refl
entry_word w s depth table read (Service methods) left rest = let e = s.service in rw e refl

entry_mark : (m depth : ℕ) (table : List Entry) (read : TyRef → Budgeted Content) (entry : Entry) (left : ℕ) (rest : List Token) → entry_at depth table read entry left (mark m ∷ rest) ≡ None
unfolding entry_at func_at
entry_mark m depth table read (Opt inner) left rest = refl
entry_mark m depth table read (Seq item) left rest = elim (true_or_false (is_nat8 item)) [ inl bytes ↦ rw bytes refl | inr other ↦ rw other refl ]
entry_mark m depth table read (Rec fields) left rest = refl
entry_mark m depth table read (Var cases) left rest = refl
entry_mark m depth table read (Func args results notes) left rest = refl
entry_mark m depth table read (Service methods) left rest = refl

shape_word : (w : List ℕ) → Strange w → (depth : ℕ) (table : List Entry) (read : TyRef → Budgeted Content) (s : Shape) (left : ℕ) (rest : List Token) → shape_at depth table read s left (run w ∷ rest) ≡ None
shape_word w strange depth table read (primitive p) left rest = rw (plain_word w strange p rest) refl
shape_word w strange depth table read (compound entry) left rest = entry_word w strange depth table read entry left rest
shape_word w strange depth table read dangling left rest = refl

shape_mark : (m depth : ℕ) (table : List Entry) (read : TyRef → Budgeted Content) (s : Shape) (left : ℕ) (rest : List Token) → shape_at depth table read s left (mark m ∷ rest) ≡ None
shape_mark m depth table read (primitive p) left rest = rw (plain_mark m p rest) refl
shape_mark m depth table read (compound entry) left rest = entry_mark m depth table read entry left rest
shape_mark m depth table read dangling left rest = refl

never : {A : Type 0} (o : Option A) (x : A) → o ≡ None → o ≡ Some x → ⊥
never None x e f = absurd cc
never (Some y) x e f = absurd cc

pub and_false : (b : Bool) → (b && false) ≡ false
and_false true = refl
and_false false = refl

-- neither `_` nor `let` is first where a value is
pub no_hole : (admitted : Admitted) (depth : ℕ) (table : List Entry) (read : TyRef → Budgeted Content) (s : Shape) (left : ℕ) (tokens : List Token) (x : Content × ℕ × List Token) → shape_at depth table read s left tokens ≡ Some x → starts_hole admitted tokens ≡ false
no_hole admitted depth table read s left [] x e = and_false admitted.patterns
no_hole admitted depth table read s left (quoted q ∷ rest) x e = and_false admitted.patterns
no_hole admitted depth table read s left (mark m ∷ rest) x e = and_false admitted.patterns
no_hole admitted depth table read s left (arrow ∷ rest) x e = and_false admitted.patterns
no_hole admitted depth table read s left (run w ∷ rest) x e = elim (true_or_false (bytes_eq w (codes "_"))) [
  | inl is_blank ↦
      let same : w ≡ codes "_" = (bytes_eq-Decides w (codes "_")).0 is_blank in
      absurd (never (shape_at depth table read s left (run (codes "_") ∷ rest)) x (shape_word (codes "_") blank depth table read s left rest) (subst (λ (r : List ℕ). shape_at depth table read s left (run r ∷ rest) ≡ Some x) same e))
  | inr no_blank ↦ elim (true_or_false (bytes_eq w (codes "let"))) [
    | inl is_let ↦
        let same : w ≡ codes "let" = (bytes_eq-Decides w (codes "let")).0 is_let in
        absurd (never (shape_at depth table read s left (run (codes "let") ∷ rest)) x (shape_word (codes "let") let_word depth table read s left rest) (subst (λ (r : List ℕ). shape_at depth table read s left (run r ∷ rest) ≡ Some x) same e))
    | inr no_let ↦ no_words admitted.patterns (bytes_eq w (codes "_")) (bytes_eq w (codes "let")) no_blank no_let
  ]
]
  where
    no_words : (a b c : Bool) → b ≡ false → c ≡ false → (a && (b || c)) ≡ false
    no_words true b c p q = rw (p, q) refl
    no_words false b c p q = refl

-- nothing is read at a dot
abbrev pub NoDots : (TyRef → Budgeted Content) → Type 0
NoDots read = (type : TyRef) (left : ℕ) (rest : List Token) → read type left (mark 46 ∷ rest) ≡ None

pub value_dots : (table : List Entry) (depth : ℕ) → NoDots (value_at table depth)
unfolding value_at
value_dots table zero type left rest = refl
value_dots table (suc depth) type zero rest = refl
value_dots table (suc depth) type (suc left) rest = shape_mark 46 depth table (value_at table depth) (shape table type) left rest

typed_dots : (read : TyRef → Budgeted Content) → NoDots read → (fields : List (ℕ × TyRef)) (id left : ℕ) (rest : List Token) → typed_at read fields id left (mark 46 ∷ rest) ≡ None
typed_dots read dots fields id left rest = at (type_of fields id)
  where
    at : (o : Option TyRef) → (o >>= λ type. then_make {B = ℕ × Content} (λ v. (id, v)) (annotated_at type (read type) left (mark 46 ∷ rest))) ≡ None
    at None = refl
    at (Some type) = rw (dots type left rest) refl

field_dots : (read : TyRef → Budgeted Content) → NoDots read → (fields : List (ℕ × TyRef)) (next left : ℕ) (after : List Token) → field_at read fields next left (mark 46 ∷ after) ≡ None
unfolding label_of
field_dots read dots fields next left after = elim (true_or_false (starts (is_mark 61) after)) [
  | inl equals ↦ rw equals refl
  | inr other ↦ rw other (typed_dots read dots fields next left after)
]

-- no dot is first where a field is
pub no_dot : (read : TyRef → Budgeted Content) → NoDots read → (fields : List (ℕ × TyRef)) (next left : ℕ) (tokens : List Token) (x : (ℕ × Content) × ℕ × List Token) → field_at read fields next left tokens ≡ Some x → starts (is_mark 46) tokens ≡ false
no_dot read dots fields next left [] x e = refl
no_dot read dots fields next left (run w ∷ rest) x e = refl
no_dot read dots fields next left (quoted q ∷ rest) x e = refl
no_dot read dots fields next left (arrow ∷ rest) x e = refl
no_dot read dots fields next left (mark m ∷ rest) x e = elim (true_or_false (m == 46)) [
  | inl dot ↦
      let same : m ≡ 46 = is_equal m 46 dot in
      absurd (never (field_at read fields next left (mark 46 ∷ rest)) x (field_dots read dots fields next left rest) (subst (λ (k : ℕ). field_at read fields next left (mark k ∷ rest) ≡ Some x) same e))
  | inr other ↦ other
]
