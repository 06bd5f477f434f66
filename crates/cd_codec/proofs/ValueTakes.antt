-- What is read is spelled so: values with parts.
use Rattle.std.proofs.Common.{◌≡◌, ℕ, zero, suc, ◌+◌, ◌≤◌, Bool, true, false, List, [], ◌∷◌, ◌++◌, Option, Some, None, refl, sym, ap, subst, ◌∙◌, append_assoc, arith}
use Rattle.std.specs.Prelude.{slice_get}
use Rattle.std.proofs.lemmas.List.{append-nil}
use Rattle.ic_base.specs.Reader.{Reader}
use Rattle.ic_base.specs.Spelling.{Spelling}
use Rattle.ic_base.specs.Exact.{Exact}
use Rattle.ic_base.proofs.Steps.{bind_some, some_is}
use Rattle.ic_base.proofs.Exact.{taken}
use Rattle.ic_leb.specs.declared.width.Width.TheVariants.{Candid}
use Rattle.ic_leb.specs.Spells.{SpellsUnsigned}
use Rattle.ic_leb.specs.Reading.{unsigned_reader}
use Rattle.ic_leb.proofs.Readers.{unsigned_exact}
use Rattle.cd_types.specs.declared.entry.TyRef.{TyRef}
use Rattle.cd_types.specs.declared.entry.Entry.{Entry}
use Rattle.cd_types.specs.declared.entry.Entry.TheVariants.{Opt, Seq, Rec, Var, Func, Service}
use Rattle.cd_types.specs.Shape.{Shape, primitive, compound, dangling, shape}
use Rattle.cd_codec.specs.Content.{Content, func, service, plain, blob, none, some, list, record_of, variant, contents_of, parts_of, count_of}
use Rattle.cd_codec.specs.Measure.{nesting, nesting_all, nesting_parts, nesting_each, number, number_all, number_parts, number_each}
use Rattle.cd_codec.specs.Basic.{SpellsCounted, SpellsPrincipal, SpellsFunc}
use Rattle.cd_codec.specs.Plain.{HasShape}
use Rattle.cd_codec.specs.Wire.{is_nat8, Wire, WireAll, WireParts}
use Rattle.cd_codec.specs.AreValues.{WireEach, AreValues}
use Rattle.cd_codec.specs.ReadPlain.{counted_at, principal_at, func_at, primitive_at}
use Rattle.cd_codec.specs.ReadValue.{Budgeted, alone, then_make, opt_at, items_at, seq_at, each_at, field_at, record_at, case_at, variant_at, entry_at, shape_at, value_at, all_read, values_at}
use Rattle.cd_codec.proofs.PlainLaws.{SpellsAt, counted_exact, principal_exact, func_exact, primitive_exact}

-- what is read: a front of the bytes that spells it, within the depth, and that many values that those left are left
pub record Consumes {A : Type 0} (P : Spelling A) (deepest many : A → ℕ) (depth n : ℕ) (bytes : List ℕ) (z : A × ℕ × List ℕ) : Type 0 where
  pub front : List ℕ
  pub parts : bytes ≡ front ++ z.2
  pub spelled : P z.0 front
  pub deep : deepest z.0 ≤ depth
  pub left : many z.0 + z.1 ≡ n

-- what a reader of values of the type reads is spelled so
abbrev pub Sound : List Entry → TyRef → ℕ → Budgeted Content → Type 0
Sound table type depth read = (n : ℕ) (bytes : List ℕ) (z : Content × ℕ × List ℕ) → read n bytes ≡ Some z → Consumes (Wire table type) nesting number depth n bytes z

joined : (bytes front middle back rest : List ℕ) → bytes ≡ front ++ middle → middle ≡ back ++ rest → bytes ≡ (front ++ back) ++ rest
joined bytes front middle back rest e f = e ∙ ap (λ (r : List ℕ). front ++ r) f ∙ sym (append_assoc front back rest)

-- a value without parts
alone_takes : {A : Type 0} (table : List Entry) (type : TyRef) (f : A → Content) (P : Spelling A) (read : Reader A) → Exact P read
    → ((x : A) (bytes : List ℕ) → P x bytes → Wire table type (f x) bytes) → ((x : A) → nesting (f x) ≡ 1) → ((x : A) → number (f x) ≡ 1)
    → (depth n : ℕ) (bytes : List ℕ) (z : Content × ℕ × List ℕ) → alone f read n bytes ≡ Some z → Consumes (Wire table type) nesting number (suc depth) (suc n) bytes z
alone_takes {A} table type f P read exact spells one_deep one depth n bytes z e =
    let a = bind_some (read bytes) (λ x. Some (f x.0, n, x.1)) z e in
    let t = taken P read exact bytes a.0 a.1 in
    subst (Consumes (Wire table type) nesting number (suc depth) (suc n) bytes) (some_is {A = Content × ℕ × List ℕ} (f a.0.0, n, a.0.1) z a.2)
    (record { front = t.front; parts = t.parts; spelled = spells a.0.0 t.front t.spelled; deep = omega (arith, one_deep a.0.0); left = omega (arith, one a.0.0) })

-- a value around its parts, after some bytes
around : {A : Type 0} (table : List Entry) (type : TyRef) (f : A → Content) (P : Spelling A) (deepest many : A → ℕ) (prefix : List ℕ)
    → ((x : A) (bytes : List ℕ) → P x bytes → Wire table type (f x) (prefix ++ bytes)) → ((x : A) → nesting (f x) ≡ suc (deepest x)) → ((x : A) → number (f x) ≡ suc (many x))
    → (depth n : ℕ) (whole bytes : List ℕ) → whole ≡ prefix ++ bytes → (read : Option (A × ℕ × List ℕ)) → ((y : A × ℕ × List ℕ) → read ≡ Some y → Consumes P deepest many depth n bytes y)
    → (z : Content × ℕ × List ℕ) → then_make f read ≡ Some z → Consumes (Wire table type) nesting number (suc depth) (suc n) whole z
around {A} table type f P deepest many prefix spells deeper more depth n whole bytes at read law z e =
    let a = bind_some read (λ x. Some (f x.0, x.1, x.2)) z e in
    let t = law a.0 a.1 in
    subst (Consumes (Wire table type) nesting number (suc depth) (suc n) whole) (some_is {A = Content × ℕ × List ℕ} (f a.0.0, a.0.1, a.0.2) z a.2)
    (record {
      front = prefix ++ t.front;
      parts = joined whole prefix bytes t.front a.0.2 at t.parts;
      spelled = spells a.0.0 t.front t.spelled;
      deep = omega (arith, deeper a.0.0, t.deep);
      left = omega (arith, more a.0.0, t.left);
    })

opt_takes : (table : List Entry) (type inner : TyRef) → shape table type ≡ compound (Opt inner) → (depth : ℕ) (read : Budgeted Content) → Sound table inner depth read
    → (n : ℕ) (bytes : List ℕ) (z : Content × ℕ × List ℕ) → opt_at read n bytes ≡ Some z → Consumes (Wire table type) nesting number (suc depth) (suc n) bytes z
unfolding opt_at
opt_takes table type inner is depth read law n [] z e = absurd cc
opt_takes table type inner is depth read law n (zero ∷ rest) z e =
    subst (Consumes (Wire table type) nesting number (suc depth) (suc n) (0 ∷ rest)) (some_is {A = Content × ℕ × List ℕ} (none, n, rest) z e)
    (record { front = 0 ∷ []; parts = refl; spelled = (inner, is, refl); deep = omega arith; left = omega arith })
opt_takes table type inner is depth read law n (suc zero ∷ rest) z e =
    around table type some (Wire table inner) nesting number (1 ∷ []) (λ v bytes w. (inner, is, bytes, refl, w)) (λ v. refl) (λ v. refl) depth n (1 ∷ rest) rest refl (read n rest) (law n rest) z e
opt_takes table type inner is depth read law n (suc (suc b) ∷ rest) z e = absurd cc

-- that many values of a type
abbrev Items : List Entry → TyRef → ℕ → Spelling (List Content)
Items table item count vs bytes = (count_of (contents_of vs) ≡ count) × WireAll table item (contents_of vs) bytes

items_takes : (table : List Entry) (item : TyRef) (depth : ℕ) (read : Budgeted Content) → Sound table item depth read
    → (count n : ℕ) (bytes : List ℕ) (z : List Content × ℕ × List ℕ) → items_at read count n bytes ≡ Some z
    → Consumes (Items table item count) (λ vs. nesting_all (contents_of vs)) (λ vs. number_all (contents_of vs)) depth n bytes z
unfolding items_at
items_takes table item depth read law zero n bytes z e =
    subst (Consumes (Items table item zero) (λ vs. nesting_all (contents_of vs)) (λ vs. number_all (contents_of vs)) depth n bytes) (some_is {A = List Content × ℕ × List ℕ} ([], n, bytes) z e)
    (record { front = []; parts = refl; spelled = (refl, refl); deep = omega arith; left = omega arith })
items_takes table item depth read law (suc count) n bytes z e =
    let a = bind_some (read n bytes) (λ x. then_make (λ vs. x.0 ∷ vs) (items_at read count x.1 x.2)) z e in
    let b = bind_some (items_at read count a.0.1 a.0.2) (λ y. Some (a.0.0 ∷ y.0, y.1, y.2)) z a.2 in
    let s = law n bytes a.0 a.1 in
    let t = items_takes table item depth read law count a.0.1 a.0.2 b.0 b.1 in
    subst (Consumes (Items table item (suc count)) (λ vs. nesting_all (contents_of vs)) (λ vs. number_all (contents_of vs)) depth n bytes) (some_is {A = List Content × ℕ × List ℕ} (a.0.0 ∷ b.0.0, b.0.1, b.0.2) z b.2)
    (record {
      front = s.front ++ t.front;
      parts = joined bytes s.front a.0.2 t.front b.0.2 s.parts t.parts;
      spelled = (ap suc t.spelled.0, (s.front, t.front, refl, s.spelled, t.spelled.1));
      deep = omega (arith, s.deep, t.deep);
      left = omega (arith, s.left, t.left);
    })

seq_takes : (table : List Entry) (type item : TyRef) → shape table type ≡ compound (Seq item) → (depth : ℕ) (read : Budgeted Content) → Sound table item depth read
    → (bytes_only : Bool) → is_nat8 item ≡ bytes_only
    → (n : ℕ) (bytes : List ℕ) (z : Content × ℕ × List ℕ) → seq_at bytes_only read n bytes ≡ Some z → Consumes (Wire table type) nesting number (suc depth) (suc n) bytes z
unfolding seq_at
seq_takes table type item is depth read law true which n bytes z e =
    alone_takes table type blob SpellsCounted counted_at counted_exact (λ s bs h. (item, is, which, h)) (λ s. refl) (λ s. refl) depth n bytes z e
seq_takes table type item is depth read law false which n bytes z e =
    let a = bind_some (unsigned_reader Candid bytes) (λ c. then_make (λ vs. list (contents_of vs)) (items_at read c.0 n c.1)) z e in
    let c = taken (SpellsUnsigned Candid) (unsigned_reader Candid) (unsigned_exact Candid) bytes a.0 a.1 in
    around table type (λ vs. list (contents_of vs)) (Items table item a.0.0) (λ vs. nesting_all (contents_of vs)) (λ vs. number_all (contents_of vs)) c.front
    (λ vs bs w. (item, is, which, c.front, bs, refl, subst (λ (k : ℕ). SpellsUnsigned Candid k c.front) (sym w.0) c.spelled, w.1)) (λ vs. refl) (λ vs. refl)
    depth n bytes a.0.1 c.parts (items_at read a.0.0 n a.0.1) (items_takes table item depth read law a.0.0 n a.0.1) z a.2

fields_take : (table : List Entry) (depth : ℕ) (read : TyRef → Budgeted Content) → ((type : TyRef) → Sound table type depth (read type))
    → (fields : List (ℕ × TyRef)) (n : ℕ) (bytes : List ℕ) (z : List (ℕ × Content) × ℕ × List ℕ) → each_at (field_at read) fields n bytes ≡ Some z
    → Consumes (λ ps bs. WireParts table fields (parts_of ps) bs) (λ ps. nesting_parts (parts_of ps)) (λ ps. number_parts (parts_of ps)) depth n bytes z
unfolding each_at
fields_take table depth read law [] n bytes z e =
    subst (Consumes (λ ps bs. WireParts table [] (parts_of ps) bs) (λ ps. nesting_parts (parts_of ps)) (λ ps. number_parts (parts_of ps)) depth n bytes) (some_is {A = List (ℕ × Content) × ℕ × List ℕ} ([], n, bytes) z e)
    (record { front = []; parts = refl; spelled = (refl, refl); deep = omega arith; left = omega arith })
fields_take table depth read law (field ∷ fields) n bytes z e =
    let a = bind_some (field_at read field n bytes) (λ x. then_make (λ ps. x.0 ∷ ps) (each_at (field_at read) fields x.1 x.2)) z e in
    let v = bind_some (read field.1 n bytes) (λ x. Some ((field.0, x.0), x.1, x.2)) a.0 a.1 in
    let b = bind_some (each_at (field_at read) fields a.0.1 a.0.2) (λ y. Some (a.0.0 ∷ y.0, y.1, y.2)) z a.2 in
    let s = law field.1 n bytes v.0 v.1 in
    let same = some_is {A = (ℕ × Content) × ℕ × List ℕ} ((field.0, v.0.0), v.0.1, v.0.2) a.0 v.2 in
    let t = fields_take table depth read law fields a.0.1 a.0.2 b.0 b.1 in
    let u : Consumes (λ p bs. (field.0 ≡ p.0) × Wire table field.1 p.1 bs) (λ p. nesting p.1) (λ p. number p.1) depth n bytes a.0 =
    subst (Consumes (λ p bs. (field.0 ≡ p.0) × Wire table field.1 p.1 bs) (λ p. nesting p.1) (λ p. number p.1) depth n bytes) same
    (record { front = s.front; parts = s.parts; spelled = (refl, s.spelled); deep = s.deep; left = s.left }) in
    subst (Consumes (λ ps bs. WireParts table (field ∷ fields) (parts_of ps) bs) (λ ps. nesting_parts (parts_of ps)) (λ ps. number_parts (parts_of ps)) depth n bytes) (some_is {A = List (ℕ × Content) × ℕ × List ℕ} (a.0.0 ∷ b.0.0, b.0.1, b.0.2) z b.2)
    (record {
      front = u.front ++ t.front;
      parts = joined bytes u.front a.0.2 t.front b.0.2 u.parts t.parts;
      spelled = (field, fields, refl, sym u.spelled.0, u.front, t.front, refl, u.spelled.1, t.spelled);
      deep = omega (arith, u.deep, t.deep);
      left = omega (arith, u.left, t.left);
    })

variant_takes : (table : List Entry) (type : TyRef) (cases : List (ℕ × TyRef)) → shape table type ≡ compound (Var cases) → (depth : ℕ) (read : TyRef → Budgeted Content)
    → ((type : TyRef) → Sound table type depth (read type)) → (i : ℕ) (place : List ℕ) → SpellsUnsigned Candid i place → (found : Option (ℕ × TyRef)) → slice_get cases i ≡ found
    → (n : ℕ) (whole bytes : List ℕ) → whole ≡ place ++ bytes → (z : Content × ℕ × List ℕ) → case_at read i found n bytes ≡ Some z → Consumes (Wire table type) nesting number (suc depth) (suc n) whole z
variant_takes table type cases is depth read law i place spelled None at n whole bytes parts z e = absurd cc
variant_takes table type cases is depth read law i place spelled (Some case) at n whole bytes parts z e =
    around table type (λ v. variant i v) (Wire table case.1) nesting number place (λ v bs w. (cases, is, case, at, place, bs, refl, spelled, w)) (λ v. refl) (λ v. refl)
    depth n whole bytes parts (read case.1 n bytes) (law case.1 n bytes) z e

entry_takes : (table : List Entry) (type : TyRef) (depth : ℕ) (read : TyRef → Budgeted Content) → ((type : TyRef) → Sound table type depth (read type))
    → (entry : Entry) → shape table type ≡ compound entry → (n : ℕ) (bytes : List ℕ) (z : Content × ℕ × List ℕ) → entry_at read entry n bytes ≡ Some z
    → Consumes (Wire table type) nesting number (suc depth) (suc n) bytes z
unfolding entry_at record_at variant_at
entry_takes table type depth read law (Opt inner) is n bytes z e = opt_takes table type inner is depth (read inner) (law inner) n bytes z e
entry_takes table type depth read law (Seq item) is n bytes z e = seq_takes table type item is depth (read item) (law item) (is_nat8 item) refl n bytes z e
entry_takes table type depth read law (Rec fields) is n bytes z e =
    around table type (λ ps. record_of (parts_of ps)) (λ ps bs. WireParts table fields (parts_of ps) bs) (λ ps. nesting_parts (parts_of ps)) (λ ps. number_parts (parts_of ps)) []
    (λ ps bs w. (fields, is, w)) (λ ps. refl) (λ ps. refl) depth n bytes bytes refl (each_at (field_at read) fields n bytes) (fields_take table depth read law fields n bytes) z e
entry_takes table type depth read law (Var cases) is n bytes z e =
    let a = bind_some (unsigned_reader Candid bytes) (λ i. case_at read i.0 (slice_get cases i.0) n i.1) z e in
    let c = taken (SpellsUnsigned Candid) (unsigned_reader Candid) (unsigned_exact Candid) bytes a.0 a.1 in
    variant_takes table type cases is depth read law a.0.0 c.front c.spelled (slice_get cases a.0.0) refl n bytes a.0.1 c.parts z a.2
entry_takes table type depth read law (Func args results notes) is n bytes z e =
    alone_takes table type (λ f. plain (func f.0 f.1)) SpellsFunc func_at func_exact (λ f bs h. ((args, results, notes, is), h)) (λ f. refl) (λ f. refl) depth n bytes z e
entry_takes table type depth read law (Service methods) is n bytes z e =
    alone_takes table type (λ p. plain (service p)) SpellsPrincipal principal_at principal_exact (λ p bs h. ((methods, is), h)) (λ p. refl) (λ p. refl) depth n bytes z e

shape_takes : (table : List Entry) (type : TyRef) (depth : ℕ) (read : TyRef → Budgeted Content) → ((type : TyRef) → Sound table type depth (read type))
    → (s : Shape) → shape table type ≡ s → (n : ℕ) (bytes : List ℕ) (z : Content × ℕ × List ℕ) → shape_at read s n bytes ≡ Some z
    → Consumes (Wire table type) nesting number (suc depth) (suc n) bytes z
shape_takes table type depth read law (primitive p) is n bytes z e =
    alone_takes table type plain (SpellsAt p) (primitive_at p) (primitive_exact p) (λ v bs h. (subst (HasShape v) (sym is) h.0, h.1)) (λ v. refl) (λ v. refl) depth n bytes z e
shape_takes table type depth read law (compound entry) is n bytes z e = entry_takes table type depth read law entry is n bytes z e
shape_takes table type depth read law dangling is n bytes z e = absurd cc

-- what is read at a type is a value of it
pub value_takes : (table : List Entry) (depth : ℕ) (type : TyRef) → Sound table type depth (value_at table depth type)
unfolding value_at
value_takes table zero type n bytes z e = absurd cc
value_takes table (suc depth) type zero bytes z e = absurd cc
value_takes table (suc depth) type (suc n) bytes z e = shape_takes table type depth (value_at table depth) (value_takes table depth) (shape table type) refl n bytes z e

each_takes : (table : List Entry) (depth : ℕ) (types : List TyRef) (n : ℕ) (bytes : List ℕ) (z : List Content × ℕ × List ℕ) → each_at (value_at table depth) types n bytes ≡ Some z
    → Consumes (WireEach table types) nesting_each number_each depth n bytes z
unfolding each_at
each_takes table depth [] n bytes z e =
    subst (Consumes (WireEach table []) nesting_each number_each depth n bytes) (some_is {A = List Content × ℕ × List ℕ} ([], n, bytes) z e)
    (record { front = []; parts = refl; spelled = (refl, refl); deep = omega arith; left = omega arith })
each_takes table depth (type ∷ types) n bytes z e =
    let a = bind_some (value_at table depth type n bytes) (λ x. then_make (λ vs. x.0 ∷ vs) (each_at (value_at table depth) types x.1 x.2)) z e in
    let b = bind_some (each_at (value_at table depth) types a.0.1 a.0.2) (λ y. Some (a.0.0 ∷ y.0, y.1, y.2)) z a.2 in
    let s = value_takes table depth type n bytes a.0 a.1 in
    let t = each_takes table depth types a.0.1 a.0.2 b.0 b.1 in
    subst (Consumes (WireEach table (type ∷ types)) nesting_each number_each depth n bytes) (some_is {A = List Content × ℕ × List ℕ} (a.0.0 ∷ b.0.0, b.0.1, b.0.2) z b.2)
    (record {
      front = s.front ++ t.front;
      parts = joined bytes s.front a.0.2 t.front b.0.2 s.parts t.parts;
      spelled = (type, types, refl, s.front, t.front, refl, s.spelled, t.spelled);
      deep = omega (arith, s.deep, t.deep);
      left = omega (arith, s.left, t.left);
    })

nothing_left : {A : Type 0} (z : A × ℕ × List ℕ) (vs : A) → all_read z ≡ Some vs → (z.0 ≡ vs) × (z.2 ≡ [])
nothing_left {A} (us, left, []) vs e = (some_is {A = A} us vs e, refl)
nothing_left (us, left, b ∷ bytes) vs e = absurd cc

-- the values that are read are those of the message
pub values_found : (table : List Entry) (types : List TyRef) (bytes : List ℕ) (vs : List Content) → values_at table types bytes ≡ Some vs → AreValues table types vs bytes
unfolding values_at
values_found table types bytes vs e =
    let a = bind_some (each_at (value_at table 128) types 1000000 bytes) all_read vs e in
    let t = each_takes table 128 types 1000000 bytes a.0 a.1 in
    let end = nothing_left a.0 vs a.2 in
    let all : bytes ≡ t.front = t.parts ∙ ap (λ (r : List ℕ). t.front ++ r) end.1 ∙ append-nil t.front in
    subst (λ (us : List Content). AreValues table types us bytes) end.0
    (record { spelled = subst (WireEach table types a.0.0) (sym all) t.spelled; deep = t.deep; many = omega (arith, t.left) })
