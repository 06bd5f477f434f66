-- A value that tokens say is spelled by them, where no name and no `_` or `let` is admitted in its place.
use Rattle.std.proofs.Common.{◌≡◌, ℕ, zero, suc, ◌^◌, Bool, true, false, List, [], ◌∷◌, ◌++◌, length, drop, map, Option, Some, None, refl, sym, ap, subst, ◌∙◌, inl, inr}
use Rattle.std.specs.Prelude.{codes, slice_get, IsTrue}
use Rattle.ic_base.specs.Reader.{◌>>=◌}
use Rattle.ic_base.proofs.Steps.{bind_some, some_is}
use Rattle.cd_types.specs.declared.primitive.Primitive.{Primitive}
use Rattle.cd_types.specs.declared.primitive.Primitive.TheVariants as primitives
use Rattle.cd_types.specs.declared.entry.TyRef.{TyRef}
use Rattle.cd_types.specs.declared.entry.TyRef.TheVariants.{Prim, Index}
use Rattle.cd_types.specs.declared.entry.Entry.{Entry}
use Rattle.cd_types.specs.declared.entry.Entry.TheVariants.{Opt, Seq, Rec, Var, Func, Service}
use Rattle.cd_types.specs.IsOrdered.{is_ordered}
use Rattle.cd_types.specs.IsTable.{is_table}
use Rattle.cd_types.specs.Shape.{Shape, primitive, compound, dangling, shape, entry_shape}
use Rattle.cd_types.proofs.EntryLemmas.{entry_ordered}
use Rattle.cd_codec.specs.Content.{Content, plain, nat8, service, blob, list, contents_of}
use Rattle.cd_codec.specs.Wire.{is_nat8}
use Rattle.cd_tokens.specs.Token.{Token}
use Rattle.cd_tokens.proofs.Fronts.{true_or_false}
use Rattle.cd_plain.specs.ReadPlain.{is_word, is_mark, starts, Budgeted, natural_at, string_at, primitive_at}
use Rattle.cd_text.specs.ReadSaid.{annotated_at as their_annotated, byte_at as their_byte, blob_at as their_blob, entry_at as their_entry, shape_at as their_shape, spend_one, value_at as their_value}
use Rattle.ct_patterns.specs.Views.{byte}
use Rattle.ct_values.specs.declared.reader.Admitted.{Admitted}
use Rattle.ct_values.specs.Steps.{exactly, sequence, Reading, Reads, Giving}
use Rattle.ct_values.specs.Spelled.{past, noted, starts_hole, or_hole, number_at, annotated_at, parenthesized_at, byte_at, list_at, blob_at, entry_at, shape_at, value_at}
use Rattle.ct_values.proofs.Starts.{NoDots, no_hole, value_dots}
use Rattle.ct_values.proofs.Meant.{Opens, leaf_met}
use Rattle.ct_values.proofs.Ties.{Tied, Read, Ties, tied_alike, read_alike, spends, annotated_tied, parenthesized_tied, list_tied, opt_tied}
use Rattle.ct_values.proofs.Cases.{variant_tied}
use Rattle.ct_values.proofs.Plains.{OneToken, one_first, one_natural, reference_tied, primitive_tied, func_tied}
use Rattle.ct_values.proofs.Records.{record_tied}

plain_hole : (admitted : Admitted) (type : TyRef) (read : Reads) (c : Reading) → admitted.names ≡ false → starts_hole admitted c.2 ≡ false → or_hole admitted type read c ≡ noted true (read c)
plain_hole admitted type read c no_names quiet = rw (quiet, no_names) refl

noted_true : (read : Option Reading) (c : Reading) → read ≡ Some c → noted true read ≡ Some (true, c)
noted_true read c e = rw e refl

-- what is read where nothing is admitted in its place
plainly : (admitted : Admitted) (type : TyRef) (read : Reads) (left : ℕ) (tokens : List Token) (values : List Content) (less : ℕ) (rest : List Token) → admitted.names ≡ false → starts_hole admitted tokens ≡ false → Read read left tokens values less rest → Tied (or_hole admitted type read) left tokens values less rest
plainly admitted type read left tokens values less rest known quiet r = record { steps = r.steps; reads = λ before. plain_hole admitted type read (before, left, tokens) known quiet ∙ noted_true (read (before, left, tokens)) (before ++ r.steps, less, rest) (r.reads before); met = r.met }

-- ---- bytes

abbrev byte_said : ℕ → List Token → Option (ℕ × ℕ × List Token)
byte_said left tokens = natural_at (2 ^ 8) tokens >>= λ x. Some (x.0, left, x.1)

number_of : (left : ℕ) (tokens : List Token) (b : ℕ) (after : List Token) → natural_at (2 ^ 8) tokens ≡ Some (b, after) → after ≡ drop 1 tokens → Read number_at left tokens (byte b ∷ []) left after
number_of left tokens b after said off = record { steps = exactly (plain (nat8 b)) ∷ []; reads = λ before. rw (said, off) refl; met = leaf_met (plain (nat8 b)) refl }

number_tied : (left : ℕ) (tokens : List Token) (b : ℕ) (less : ℕ) (rest : List Token) → byte_said left tokens ≡ Some (b, less, rest) → Read number_at left tokens (byte b ∷ []) less rest
number_tied left tokens b less rest e =
    let c = bind_some (natural_at (2 ^ 8) tokens) (λ (x : ℕ × List Token). Some (x.0, left, x.1)) (b, less, rest) e in
    let y : ℕ × List Token = c.0 in
    let same : (y.0, left, y.1) ≡ (b, less, rest) = some_is {A = ℕ × ℕ × List Token} (y.0, left, y.1) (b, less, rest) c.2 in
    let off : y.1 ≡ drop 1 tokens = one_natural (2 ^ 8) tokens y.0 y.1 c.1 in
    subst (λ (z : ℕ × ℕ × List Token). Read number_at left tokens (byte z.0 ∷ []) z.1 z.2) same (number_of left tokens y.0 y.1 c.1 off)

number_shape : (left : ℕ) (tokens : List Token) (b : ℕ) (after : List Token) → natural_at (2 ^ 8) tokens ≡ Some (b, after) → their_shape 0 [] (λ type n ts. None) (primitive primitives.Nat8) left tokens ≡ Some (plain (nat8 b), left, after)
unfolding primitive_at
number_shape left tokens b after said = rw said refl

no_hole_number : (admitted : Admitted) (left : ℕ) (tokens : List Token) (x : ℕ × ℕ × List Token) → byte_said left tokens ≡ Some x → starts_hole admitted tokens ≡ false
no_hole_number admitted left tokens x e =
    let c = bind_some (natural_at (2 ^ 8) tokens) (λ (y : ℕ × List Token). Some (y.0, left, y.1)) x e in
    let y : ℕ × List Token = c.0 in
    no_hole admitted 0 [] (λ type n ts. None) (primitive primitives.Nat8) left tokens (plain (nat8 y.0), left, y.1) (number_shape left tokens y.0 y.1 c.1)

bytes_tied : (admitted : Admitted) (depth : ℕ) → admitted.names ≡ false → Ties byte (their_byte (Prim primitives.Nat8) depth) (byte_at admitted depth)
unfolding their_byte byte_at
bytes_tied admitted zero only left tokens b less rest e = absurd cc
bytes_tied admitted (suc depth) only left tokens b less rest e = elim (true_or_false (starts (is_mark 40) tokens)) [
  | inl parenthesis ↦
      tied_alike (λ c. parenthesized_at (Prim primitives.Nat8) (byte_at admitted depth) (past c)) (byte_at admitted (suc depth)) left tokens (byte b ∷ []) less rest (λ before. rw parenthesis refl)
      (parenthesized_tied byte (Prim primitives.Nat8) (their_byte (Prim primitives.Nat8) depth) (byte_at admitted depth) (bytes_tied admitted depth only) left tokens b less rest (rw parenthesis at e))
  | inr other ↦
      tied_alike (or_hole admitted (Prim primitives.Nat8) number_at) (byte_at admitted (suc depth)) left tokens (byte b ∷ []) less rest (λ before. rw other refl)
      (plainly admitted (Prim primitives.Nat8) number_at left tokens (byte b ∷ []) less rest only (no_hole_number admitted left tokens (b, less, rest) (rw other at e)) (number_tied left tokens b less rest (rw other at e)))
]

bytes_open : (bytes : List ℕ) → Opens (sequence (length (map byte bytes))) (blob bytes) (map byte bytes)
bytes_open bytes = (inr (bytes, refl, refl), refl)

blob_of : (admitted : Admitted) (depth left : ℕ) (tokens : List Token) (bytes : List ℕ) (after : List Token) → admitted.names ≡ false → starts (is_word (codes "blob")) tokens ≡ true → string_at (drop 1 tokens) ≡ Some (bytes, after) → after ≡ drop 1 (drop 1 tokens)
    → Read (blob_at admitted depth) left tokens (blob bytes ∷ []) left after
blob_of admitted depth left tokens bytes after known word said off = record { steps = exactly (blob bytes) ∷ []; reads = λ before. rw (word, known, said, off) refl; met = leaf_met (blob bytes) refl }

one_string : OneToken string_at
unfolding string_at
one_string = one_first _

blob_tied : (admitted : Admitted) (depth : ℕ) → admitted.names ≡ false → (left : ℕ) (tokens : List Token) (v : Content) (less : ℕ) (rest : List Token) → their_blob (Prim primitives.Nat8) depth left tokens ≡ Some (v, less, rest)
    → Read (blob_at admitted depth) left tokens (v ∷ []) less rest
blob_tied admitted depth only left tokens v less rest e = elim (true_or_false (starts (is_word (codes "blob")) tokens)) [
  | inl word ↦
      let c = bind_some (string_at (drop 1 tokens)) (λ (x : List ℕ × List Token). Some (blob x.0, left, x.1)) (v, less, rest) (rw word at e) in
      let y : List ℕ × List Token = c.0 in
      let same : (blob y.0, left, y.1) ≡ (v, less, rest) = some_is {A = Content × ℕ × List Token} (blob y.0, left, y.1) (v, less, rest) c.2 in
      let off : y.1 ≡ drop 1 (drop 1 tokens) = one_string (drop 1 tokens) y.0 y.1 c.1 in
      subst (λ (z : Content × ℕ × List Token). Read (blob_at admitted depth) left tokens (z.0 ∷ []) z.1 z.2) same (blob_of admitted depth left tokens y.0 y.1 only word c.1 off)
  | inr other ↦
      let bytes = annotated_tied byte (Prim primitives.Nat8) (their_byte (Prim primitives.Nat8) depth) (byte_at admitted depth) (bytes_tied admitted depth only) in
      read_alike (list_at (annotated_at (Prim primitives.Nat8) (byte_at admitted depth))) (blob_at admitted depth) left tokens (v ∷ []) less rest (λ before. rw other refl)
      (list_tied byte blob (their_annotated (Prim primitives.Nat8) (their_byte (Prim primitives.Nat8) depth)) (annotated_at (Prim primitives.Nat8) (byte_at admitted depth)) bytes_open bytes left tokens v less rest (rw other at e))
]

-- ---- entries, shapes and values

same_list : (xs : List Content) → map (λ x. x) xs ≡ xs
same_list [] = refl
same_list (x ∷ xs) = ap (λ (ys : List Content). x ∷ ys) (same_list xs)

values_open : (xs : List Content) → Opens (sequence (length (map (λ x. x) xs))) (list (contents_of xs)) (map (λ x. x) xs)
values_open xs = rw (same_list xs) (inl refl, refl)

-- it is the type of bytes
nat8_is : (type : TyRef) → is_nat8 type ≡ true → type ≡ Prim primitives.Nat8
nat8_is (Index i) e = absurd cc
nat8_is (Prim p) e = ap Prim (only p e)
  where
    only : (p : Primitive) → is_nat8 (Prim p) ≡ true → p ≡ primitives.Nat8
    only primitives.Null e = absurd cc
    only primitives.Bool e = absurd cc
    only primitives.Nat e = absurd cc
    only primitives.Int e = absurd cc
    only primitives.Nat8 e = refl
    only primitives.Nat16 e = absurd cc
    only primitives.Nat32 e = absurd cc
    only primitives.Nat64 e = absurd cc
    only primitives.Int8 e = absurd cc
    only primitives.Int16 e = absurd cc
    only primitives.Int32 e = absurd cc
    only primitives.Int64 e = absurd cc
    only primitives.Text e = absurd cc
    only primitives.Reserved e = absurd cc
    only primitives.Empty e = absurd cc
    only primitives.Principal e = absurd cc

entry_tied : (admitted : Admitted) (depth : ℕ) (table : List Entry) (theirs : TyRef → Budgeted Content) (ours : TyRef → Giving Bool) → admitted.names ≡ false → NoDots theirs → ((type : TyRef) → Ties (λ v. v) (theirs type) (ours type))
    → (entry : Entry) → is_ordered entry ≡ true → (left : ℕ) (tokens : List Token) (v : Content) (less : ℕ) (rest : List Token) → their_entry depth table theirs entry left tokens ≡ Some (v, less, rest) → Read (entry_at admitted depth table ours entry) left tokens (v ∷ []) less rest
unfolding their_entry entry_at
entry_tied admitted depth table theirs ours known dots law (Opt inner) ordered left tokens v less rest e =
    let t = opt_tied (theirs inner) (ours inner) (law inner) left tokens v less rest e in
    record { steps = t.steps; reads = t.reads; met = t.met }
entry_tied admitted depth table theirs ours known dots law (Seq item) ordered left tokens v less rest e = elim (true_or_false (is_nat8 item)) [
  | inl bytes ↦
      let is = nat8_is item bytes in
      let said : their_blob (Prim primitives.Nat8) (suc depth) left tokens ≡ Some (v, less, rest) = rw (sym is) (rw bytes at e) in
      read_alike (blob_at admitted (suc depth)) (entry_at admitted depth table ours (Seq item)) left tokens (v ∷ []) less rest (λ before. rw bytes refl) (blob_tied admitted (suc depth) known left tokens v less rest said)
  | inr other ↦
      let values = annotated_tied (λ v. v) item (theirs item) (ours item) (law item) in
      read_alike (list_at (annotated_at item (ours item))) (entry_at admitted depth table ours (Seq item)) left tokens (v ∷ []) less rest (λ before. rw other refl)
      (list_tied (λ x. x) (λ us. list (contents_of us)) (their_annotated item (theirs item)) (annotated_at item (ours item)) values_open values left tokens v less rest (rw other at e))
]
entry_tied admitted depth table theirs ours known dots law (Rec fields) ordered left tokens v less rest e =
    let t = record_tied admitted depth table theirs ours dots law fields ordered left tokens v less rest e in
    record { steps = t.steps; reads = t.reads; met = t.met }
entry_tied admitted depth table theirs ours known dots law (Var cases) ordered left tokens v less rest e =
    let t = variant_tied depth table theirs ours law cases left tokens v less rest e in
    record { steps = t.steps; reads = t.reads; met = t.met }
entry_tied admitted depth table theirs ours known dots law (Func args results notes) ordered left tokens v less rest e =
    let t = func_tied admitted known left tokens v less rest e in
    record { steps = t.steps; reads = t.reads; met = t.met }
entry_tied admitted depth table theirs ours known dots law (Service methods) ordered left tokens v less rest e =
    let t = reference_tied admitted (codes "service") (λ id. plain (service id)) known (λ id. refl) left tokens v less rest e in
    record { steps = t.steps; reads = t.reads; met = t.met }

shape_tied : (admitted : Admitted) (depth : ℕ) (table : List Entry) (theirs : TyRef → Budgeted Content) (ours : TyRef → Giving Bool) → admitted.names ≡ false → NoDots theirs → ((type : TyRef) → Ties (λ v. v) (theirs type) (ours type))
    → (s : Shape) → ((entry : Entry) → s ≡ compound entry → is_ordered entry ≡ true) → (left : ℕ) (tokens : List Token) (v : Content) (less : ℕ) (rest : List Token) → their_shape depth table theirs s left tokens ≡ Some (v, less, rest) → Read (shape_at admitted depth table ours s) left tokens (v ∷ []) less rest
shape_tied admitted depth table theirs ours known dots law (primitive p) ordered left tokens v less rest e =
    let t = primitive_tied admitted known p left tokens v less rest e in
    record { steps = t.steps; reads = t.reads; met = t.met }
shape_tied admitted depth table theirs ours known dots law (compound entry) ordered left tokens v less rest e =
    let t = entry_tied admitted depth table theirs ours known dots law entry (ordered entry refl) left tokens v less rest e in
    record { steps = t.steps; reads = t.reads; met = t.met }
shape_tied admitted depth table theirs ours known dots law dangling ordered left tokens v less rest e = absurd cc

shape_ordered : (table : List Entry) → IsTrue (is_table table) → (type : TyRef) (entry : Entry) → shape table type ≡ compound entry → is_ordered entry ≡ true
shape_ordered table formed (Prim p) entry e = absurd cc
shape_ordered table formed (Index i) entry e = there (slice_get table i) refl e
  where
    there : (o : Option Entry) → slice_get table i ≡ o → entry_shape o ≡ compound entry → is_ordered entry ≡ true
    there None at f = absurd cc
    there (Some held) at f = let same : held ≡ entry = cc in entry_ordered table i entry formed (at ∙ ap (λ (x : Entry). Some x) same)

one_spent : (admitted : Admitted) (table : List Entry) (depth : ℕ) (type : TyRef) (left : ℕ) (tokens : List Token) (values : List Content) (less : ℕ) (rest : List Token) → starts (is_mark 40) tokens ≡ false
    → Tied (or_hole admitted type (shape_at admitted depth table (value_at admitted table depth) (shape table type))) left tokens values less rest → Tied (value_at admitted table (suc depth) type) (suc left) tokens values less rest
unfolding value_at
one_spent admitted table depth type left tokens values less rest other t = record { steps = t.steps; reads = λ before. rw (other, spends before left tokens) (t.reads before); met = t.met }

spent_tied : (admitted : Admitted) (table : List Entry) (depth : ℕ) (type : TyRef) (theirs : TyRef → Budgeted Content) → admitted.names ≡ false → NoDots theirs → IsTrue (is_table table) → ((u : TyRef) → Ties (λ v. v) (theirs u) (value_at admitted table depth u))
    → (left : ℕ) (tokens : List Token) (v : Content) (less : ℕ) (rest : List Token) → starts (is_mark 40) tokens ≡ false → spend_one (their_shape depth table theirs (shape table type)) left tokens ≡ Some (v, less, rest)
    → Tied (value_at admitted table (suc depth) type) left tokens (v ∷ []) less rest
spent_tied admitted table depth type theirs known dots formed law zero tokens v less rest other e = absurd cc
spent_tied admitted table depth type theirs known dots formed law (suc left) tokens v less rest other e =
    let r = shape_tied admitted depth table theirs (value_at admitted table depth) known dots law (shape table type) (shape_ordered table formed type) left tokens v less rest e in
    one_spent admitted table depth type left tokens (v ∷ []) less rest other (plainly admitted type (shape_at admitted depth table (value_at admitted table depth) (shape table type)) left tokens (v ∷ []) less rest known (no_hole admitted depth table theirs (shape table type) left tokens (v, less, rest) e) r)

pub values_tied : (admitted : Admitted) (table : List Entry) (depth : ℕ) → admitted.names ≡ false → IsTrue (is_table table) → (type : TyRef) → Ties (λ v. v) (their_value table depth type) (value_at admitted table depth type)
unfolding their_value value_at
values_tied admitted table zero only formed type left tokens v less rest e = absurd cc
values_tied admitted table (suc depth) only formed type left tokens v less rest e = elim (true_or_false (starts (is_mark 40) tokens)) [
  | inl parenthesis ↦
      tied_alike (λ c. parenthesized_at type (value_at admitted table depth type) (past c)) (value_at admitted table (suc depth) type) left tokens (v ∷ []) less rest (λ before. rw parenthesis refl)
      (parenthesized_tied (λ v. v) type (their_value table depth type) (value_at admitted table depth type) (values_tied admitted table depth only formed type) left tokens v less rest (rw parenthesis at e))
  | inr other ↦ spent_tied admitted table depth type (their_value table depth) only (value_dots table depth) formed (values_tied admitted table depth only formed) left tokens v less rest other (rw other at e)
]
