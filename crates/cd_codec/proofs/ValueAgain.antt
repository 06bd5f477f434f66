-- What is spelled so is read, whatever follows.
use Rattle.std.proofs.Common.{◌≡◌, ℕ, zero, suc, ◌+◌, ◌-◌, ◌<◌, ◌≤◌, List, [], ◌∷◌, ◌++◌, Option, Some, None, refl, sym, ap, ◌∙◌, append_assoc, arith}
use Rattle.std.specs.Prelude.{max}
use Rattle.std.proofs.lemmas.List.{append-nil, append_cancel_right}
use Rattle.ic_base.specs.Reader.{Reader}
use Rattle.ic_base.specs.Spelling.{Spelling}
use Rattle.ic_base.specs.Exact.{Exact}
use Rattle.ic_base.proofs.Steps.{some_is}
use Rattle.ic_leb.specs.declared.width.Width.TheVariants.{Candid}
use Rattle.ic_leb.proofs.Readers.{unsigned_exact}
use Rattle.cd_types.specs.declared.entry.TyRef.{TyRef}
use Rattle.cd_types.specs.declared.entry.Entry.{Entry}
use Rattle.cd_types.specs.declared.entry.Entry.TheVariants.{Opt, Seq, Rec, Var, Func, Service}
use Rattle.cd_types.specs.Shape.{Shape, primitive, compound, dangling, shape}
use Rattle.cd_codec.specs.Content.{Content, Plain, null, bool, nat, int, nat8, nat16, nat32, nat64, int8, int16, int32, int64, text, reserved, func, service, principal, plain, blob, none, some, list, record_of, variant, Contents, no_content, content, contents_of, Parts, no_part, part, parts_of, count_of}
use Rattle.cd_codec.specs.Measure.{nesting, nesting_all, nesting_parts, nesting_each, number, number_all, number_parts, number_each}
use Rattle.cd_codec.specs.Basic.{SpellsCounted, SpellsPrincipal, SpellsFunc}
use Rattle.cd_codec.specs.Plain.{HasShape, SpellsPlain}
use Rattle.cd_codec.specs.Wire.{Wire, WireAll, WireParts}
use Rattle.cd_codec.specs.AreValues.{WireEach, AreValues}
use Rattle.cd_codec.specs.ReadPlain.{counted_at, principal_at, func_at, primitive_at}
use Rattle.cd_codec.specs.ReadValue.{Budgeted, alone, then_make, opt_at, items_at, seq_at, each_at, field_at, record_at, variant_at, entry_at, shape_at, value_at, values_at}
use Rattle.cd_codec.proofs.PlainLaws.{counted_exact, principal_exact, func_exact, primitive_exact}

-- the list that a list of values is made of
unfoldable pub items_in : Contents → List Content
items_in no_content = []
items_in (content v vs) = v ∷ items_in vs

pub contents_in : (vs : Contents) → contents_of (items_in vs) ≡ vs
unfolding items_in
contents_in no_content = refl
contents_in (content v vs) = ap (content v) (contents_in vs)

-- the list that the fields of a record are made of
unfoldable pub parts_in : Parts → List (ℕ × Content)
parts_in no_part = []
parts_in (part i v ps) = (i, v) ∷ parts_in ps

pub parts_made : (ps : Parts) → parts_of (parts_in ps) ≡ ps
unfolding parts_in
parts_made no_part = refl
parts_made (part i v ps) = ap (part i v) (parts_made ps)

-- a value of a known shape, within the depth and the number
opened : (table : List Entry) (depth : ℕ) (type : TyRef) (n : ℕ) (bytes : List ℕ) (s : Shape) → 0 < depth → 0 < n → shape table type ≡ s
    → value_at table depth type n bytes ≡ shape_at (value_at table (depth - 1)) s (n - 1) bytes
unfolding value_at
opened table zero type n bytes s deep more is = absurd (omega arith)
opened table (suc depth) type zero bytes s deep more is = absurd (omega arith)
opened table (suc depth) type (suc n) bytes s deep more is =
    let d : suc depth - 1 ≡ depth = omega arith in
    let m : suc n - 1 ≡ n = omega arith in
    rw (d, m, is) refl

alone_again : {A : Type 0} (f : A → Content) (P : Spelling A) (read : Reader A) → Exact P read → (x : A) (front rest : List ℕ) → P x front → (n left : ℕ) → left ≡ n
    → alone f read n (front ++ rest) ≡ Some (f x, left, rest)
alone_again {A} f P read exact x front rest p n left e = rw (exact.again x front rest p, e) refl

-- no value has a type that names nothing
pub not_dangling : (v : Plain) → HasShape v dangling → ⊥
not_dangling null h = cc
not_dangling (bool b) h = cc
not_dangling (nat n) h = cc
not_dangling (int n) h = cc
not_dangling (nat8 n) h = cc
not_dangling (nat16 n) h = cc
not_dangling (nat32 n) h = cc
not_dangling (nat64 n) h = cc
not_dangling (int8 n) h = cc
not_dangling (int16 n) h = cc
not_dangling (int32 n) h = cc
not_dangling (int64 n) h = cc
not_dangling (text n) h = cc
not_dangling reserved h = cc
not_dangling (principal n) h = cc
not_dangling (func a b) h = let e = h.3 in cc
not_dangling (service p) h = let e = h.1 in cc

same_entry : (d e : Entry) → compound d ≡ compound e → d ≡ e
same_entry d e h = cc

-- a value without parts of a type that the table has
compound_again : (v : Plain) (entry : Entry) (read : TyRef → Budgeted Content) (n left : ℕ) (front rest : List ℕ) → left ≡ n → HasShape v (compound entry) → SpellsPlain v front
    → entry_at read entry n (front ++ rest) ≡ Some (plain v, left, rest)
unfolding entry_at
compound_again null entry read n left front rest e h spelled = absurd cc
compound_again (bool b) entry read n left front rest e h spelled = absurd cc
compound_again (nat k) entry read n left front rest e h spelled = absurd cc
compound_again (int k) entry read n left front rest e h spelled = absurd cc
compound_again (nat8 k) entry read n left front rest e h spelled = absurd cc
compound_again (nat16 k) entry read n left front rest e h spelled = absurd cc
compound_again (nat32 k) entry read n left front rest e h spelled = absurd cc
compound_again (nat64 k) entry read n left front rest e h spelled = absurd cc
compound_again (int8 k) entry read n left front rest e h spelled = absurd cc
compound_again (int16 k) entry read n left front rest e h spelled = absurd cc
compound_again (int32 k) entry read n left front rest e h spelled = absurd cc
compound_again (int64 k) entry read n left front rest e h spelled = absurd cc
compound_again (text k) entry read n left front rest e h spelled = absurd cc
compound_again reserved entry read n left front rest e h spelled = absurd cc
compound_again (principal k) entry read n left front rest e h spelled = absurd cc
compound_again (func a b) entry read n left front rest e h spelled =
    rw (same_entry entry (Func h.0 h.1 h.2) h.3) (alone_again (λ f. plain (func f.0 f.1)) SpellsFunc func_at func_exact (a, b) front rest spelled n left e)
compound_again (service p) entry read n left front rest e h spelled =
    rw (same_entry entry (Service h.0) h.1) (alone_again (λ p. plain (service p)) SpellsPrincipal principal_at principal_exact p front rest spelled n left e)

-- a value without parts is read by its shape
plain_again : (v : Plain) (s : Shape) (read : TyRef → Budgeted Content) (n left : ℕ) (front rest : List ℕ) → left ≡ n → HasShape v s → SpellsPlain v front
    → shape_at read s n (front ++ rest) ≡ Some (plain v, left, rest)
plain_again v (primitive p) read n left front rest e h spelled = alone_again plain (λ u bs. HasShape u (primitive p) × SpellsPlain u bs) (primitive_at p) (primitive_exact p) v front rest (h, spelled) n left e
plain_again v dangling read n left front rest e h spelled = absurd (not_dangling v h)
plain_again v (compound entry) read n left front rest e h spelled = compound_again v entry read n left front rest e h spelled

mutual
  unfolding entry_at opt_at seq_at items_at record_at each_at variant_at items_in parts_in

  -- a value is read again
  pub value_again : (v : Content) (table : List Entry) (type : TyRef) (depth n left : ℕ) (front rest : List ℕ) → Wire table type v front → nesting v ≤ depth → number v + left ≡ n
      → value_at table depth type n (front ++ rest) ≡ Some (v, left, rest)
  value_again (plain p) table type depth n left front rest w deep many =
      opened table depth type n (front ++ rest) (shape table type) (omega arith) (omega arith) refl ∙ plain_again p (shape table type) (value_at table (depth - 1)) (n - 1) left front rest (omega arith) w.0 w.1
  value_again (blob s) table type depth n left front rest w deep many =
      opened table depth type n (front ++ rest) (compound (Seq w.0)) (omega arith) (omega arith) w.1
      ∙ rw w.2 (alone_again blob SpellsCounted counted_at counted_exact s front rest w.3 (n - 1) left (omega arith))
  value_again none table type depth n left front rest w deep many =
      let m : n - 1 ≡ left = omega arith in
      opened table depth type n (front ++ rest) (compound (Opt w.0)) (omega arith) (omega arith) w.1 ∙ rw (w.2, m) refl
  value_again (some v) table type depth n left front rest w deep many =
      opened table depth type n (front ++ rest) (compound (Opt w.0)) (omega arith) (omega arith) w.1
      ∙ rw w.3 (ap (then_make some) (value_again v table w.0 (depth - 1) (n - 1) left w.2 rest w.4 (omega arith) (omega arith)))
  value_again (list vs) table type depth n left front rest w deep many =
      opened table depth type n (front ++ rest) (compound (Seq w.0)) (omega arith) (omega arith) w.1
      ∙ rw (w.2, w.5, append_assoc w.3 w.4 rest, (unsigned_exact Candid).again (count_of vs) w.3 (w.4 ++ rest) w.6)
      (ap (then_make (λ us. list (contents_of us))) (items_again vs table w.0 (depth - 1) (n - 1) left w.4 rest w.7 (omega arith) (omega arith)) ∙ ap (λ us. Some (list us, left, rest)) (contents_in vs))
  value_again (record_of ps) table type depth n left front rest w deep many =
      opened table depth type n (front ++ rest) (compound (Rec w.0)) (omega arith) (omega arith) w.1
      ∙ ap (then_make (λ qs. record_of (parts_of qs))) (parts_again ps table w.0 (depth - 1) (n - 1) left front rest w.2 (omega arith) (omega arith)) ∙ ap (λ qs. Some (record_of qs, left, rest)) (parts_made ps)
  value_again (variant i v) table type depth n left front rest w deep many =
      opened table depth type n (front ++ rest) (compound (Var w.0)) (omega arith) (omega arith) w.1
      ∙ rw (w.6, append_assoc w.4 w.5 rest, (unsigned_exact Candid).again i w.4 (w.5 ++ rest) w.7, w.3)
      (ap (then_make (λ u. variant i u)) (value_again v table w.2.1 (depth - 1) (n - 1) left w.5 rest w.8 (omega arith) (omega arith)))

  items_again : (vs : Contents) (table : List Entry) (item : TyRef) (depth n left : ℕ) (front rest : List ℕ) → WireAll table item vs front → nesting_all vs ≤ depth → number_all vs + left ≡ n
      → items_at (value_at table depth item) (count_of vs) n (front ++ rest) ≡ Some (items_in vs, left, rest)
  items_again no_content table item depth n left front rest w deep many = let m : n ≡ left = omega arith in rw (w, m) refl
  items_again (content v vs) table item depth n left front rest w deep many =
      rw (w.2, append_assoc w.0 w.1 rest, value_again v table item depth n (number_all vs + left) w.0 (w.1 ++ rest) w.3 (omega arith) (omega arith))
      (ap (then_make (λ us. v ∷ us)) (items_again vs table item depth (number_all vs + left) left w.1 rest w.4 (omega arith) refl))

  parts_again : (ps : Parts) (table : List Entry) (fields : List (ℕ × TyRef)) (depth n left : ℕ) (front rest : List ℕ) → WireParts table fields ps front → nesting_parts ps ≤ depth → number_parts ps + left ≡ n
      → each_at (field_at (value_at table depth)) fields n (front ++ rest) ≡ Some (parts_in ps, left, rest)
  parts_again no_part table fields depth n left front rest w deep many = let m : n ≡ left = omega arith in rw (w.0, w.1, m) refl
  parts_again (part i v ps) table fields depth n left front rest w deep many =
      rw (w.2, w.6, append_assoc w.4 w.5 rest, value_again v table w.0.1 depth n (number_parts ps + left) w.4 (w.5 ++ rest) w.7 (omega arith) (omega arith), w.3)
      (ap (then_make (λ qs. (w.0.0, v) ∷ qs)) (parts_again ps table w.1 depth (number_parts ps + left) left w.5 rest w.8 (omega arith) refl))

-- the values of a message are read again
each_again : (vs : List Content) (table : List Entry) (types : List TyRef) (depth n left : ℕ) (front rest : List ℕ) → WireEach table types vs front → nesting_each vs ≤ depth → number_each vs + left ≡ n
    → each_at (value_at table depth) types n (front ++ rest) ≡ Some (vs, left, rest)
unfolding each_at
each_again [] table types depth n left front rest w deep many = let m : n ≡ left = omega arith in rw (w.0, w.1, m) refl
each_again (v ∷ vs) table types depth n left front rest w deep many =
    rw (w.2, w.5, append_assoc w.3 w.4 rest, value_again v table w.0 depth n (number_each vs + left) w.3 (w.4 ++ rest) w.6 (omega arith) (omega arith))
    (ap (then_make (λ us. v ∷ us)) (each_again vs table w.1 depth (number_each vs + left) left w.4 rest w.7 (omega arith) refl))

-- the values of a message are what is read
pub values_again : (table : List Entry) (types : List TyRef) (vs : List Content) (bytes : List ℕ) → AreValues table types vs bytes → values_at table types bytes ≡ Some vs
unfolding values_at
values_again table types vs bytes are =
    let read : each_at (value_at table 128) types 1000000 bytes ≡ Some (vs, 1000000 - number_each vs, []) =
    ap (each_at (value_at table 128) types 1000000) (sym (append-nil bytes)) ∙ each_again vs table types 128 1000000 (1000000 - number_each vs) bytes [] are.spelled are.deep (omega (arith, are.many)) in
    rw read refl

-- no spelling of a value begins another of the same type
pub one_value : (table : List Entry) (type : TyRef) (v u : Content) (front rest front' rest' : List ℕ) → Wire table type v front → Wire table type u front' → front ++ rest ≡ front' ++ rest' → (v ≡ u) × (front ≡ front')
one_value table type v u front rest front' rest' p q e =
    let depth = max (nesting v) (nesting u) in
    let n = number v + number u in
    let first = value_again v table type depth n (number u) front rest p (omega arith) refl in
    let second = value_again u table type depth n (number v) front' rest' q (omega arith) (omega arith) in
    let same = some_is {A = Content × ℕ × List ℕ} (v, number u, rest) (u, number v, rest') (sym first ∙ ap (value_at table depth type n) e ∙ second) in
    let rests : rest ≡ rest' = ap (λ (z : Content × ℕ × List ℕ). z.2) same in
    (ap (λ (z : Content × ℕ × List ℕ). z.0) same, append_cancel_right front front' rest (e ∙ ap (λ (r : List ℕ). front' ++ r) (sym rests)))

-- nothing is read and not read
pub not_none : {A : Type 0} (read : Option A) (x : A) → read ≡ None → read ≡ Some x → ⊥
not_none read x e f = cc
