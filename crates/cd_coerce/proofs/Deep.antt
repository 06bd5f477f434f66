-- how deep what is read nests
use Rattle.std.proofs.Common.{◌≡◌, inl, inr, ℕ, suc, ◌+◌, ◌*◌, ◌≤◌, Bool, true, false, List, [], ◌∷◌, map, Some, ◌==◌, refl, sym, ◌∙◌, ap, subst, arith}
use Rattle.std.specs.Prelude.{max, if◌then◌else◌}
use Rattle.ic_base.proofs.Steps.{some_is}
use Rattle.cd_types.specs.declared.primitive.Primitive.TheVariants.{Null, Reserved}
use Rattle.cd_types.specs.declared.entry.TyRef.{TyRef}
use Rattle.cd_types.specs.declared.entry.Entry.{Entry}
use Rattle.cd_types.specs.declared.entry.Entry.TheVariants.{Opt}
use Rattle.cd_types.specs.Shape.{Shape, primitive, compound, shape}
use Rattle.cd_codec.specs.Content.{Content, nat8, plain, blob, none, some, list, record_of, variant, Contents, no_content, content, Parts, no_part, part}
use Rattle.cd_codec.specs.Measure.{nesting, nesting_all, nesting_parts, nesting_each}
use Rattle.cd_coerce.specs.Missing.{missing}
use Rattle.cd_coerce.specs.Parts.{values_of, field_values, byte_value, items_of, with_fields, under}
use Rattle.cd_coerce.specs.Coerce.{Coerce, CoerceAll, CoerceFields}
use Rattle.cd_coerce.specs.Read.{Way, to_reserved, to_opt, to_own, way}
use Rattle.cd_coerce.proofs.ShapeLemmas.{constituent_way}

-- the levels that a type may add
abbrev pub room : Way → ℕ
room to_reserved = 1
room (to_opt w) = 2
room to_own = 1

room_least : (k : Way) → 1 ≤ room k
room_least to_reserved = omega arith
room_least (to_opt w) = omega arith
room_least to_own = omega arith

pub room_most : (k : Way) → room k ≤ 2
room_most to_reserved = omega arith
room_most (to_opt w) = omega arith
room_most to_own = omega arith

room_opt : (s : Shape) (w : TyRef) → s ≡ compound (Opt w) → room (way s) ≡ 2
room_opt s w e = ap (λ (s : Shape). room (way s)) e

-- a byte has no parts
byte_deep : (B : TyRef → TyRef → Type 0) (lower upper : List Entry) (r : Content) (b : ℕ) (t u : TyRef) → Coerce B lower upper t (byte_value b) u r → nesting r ≤ room (way (shape upper u))
byte_deep B lower upper (plain p) b t u h = room_least (way (shape upper u))
byte_deep B lower upper (blob s) b t u (w, x, at, is, byte, inl e) = absurd cc
byte_deep B lower upper (blob s) b t u (w, x, at, is, byte, inr e) = absurd (let k : plain (nat8 b) ≡ list no_content = e.0 in cc)
byte_deep B lower upper none b t u h = room_least (way (shape upper u))
byte_deep B lower upper (some r) b t u (w, is, inl (x, y, at, e, below, h)) = absurd cc
byte_deep B lower upper (some r) b t u (w, is, inr (is_it, solid, below, h)) =
    let inner = byte_deep B lower upper r b t w h in
    let one : room (way (shape upper w)) ≡ 1 = ap room (constituent_way _ solid) in
    let two = room_opt (shape upper u) w is in
    omega arith
byte_deep B lower upper (list rs) b t u (w, x, at, is, other, vs, e, all) = absurd cc
byte_deep B lower upper (record_of rs) b t u (fs, gs, at, is, ps, e, all) = absurd cc
byte_deep B lower upper (variant i r) b t u (fs, gs, at, is, j, y, e, f, get, w, place, h) = absurd cc

bytes_deep : (B : TyRef → TyRef → Type 0) (lower upper : List Entry) (rs : Contents) (s : List ℕ) (vs : List Content) (t u : TyRef) → vs ≡ map byte_value s
    → CoerceAll B lower upper t vs u rs → nesting_all rs ≤ 2
bytes_deep B lower upper no_content s vs t u are all = omega arith
bytes_deep B lower upper (content r rs) [] vs t u are (v, more, e, h, all) = absurd (let k : v ∷ more ≡ [] = sym e ∙ are in cc)
bytes_deep B lower upper (content r rs) (b ∷ s) vs t u are (v, more, e, h, all) =
    let same : v ∷ more ≡ byte_value b ∷ map byte_value s = sym e ∙ are in
    let first : v ≡ byte_value b = cc in
    let rest : more ≡ map byte_value s = cc in
    let one = byte_deep B lower upper r b t u (subst (λ (v : Content). Coerce B lower upper t v u r) first h) in
    let most = room_most (way (shape upper u)) in
    let others = bytes_deep B lower upper rs s more t u rest all in
    omega arith

same_nesting : (vs : Contents) → nesting_each (values_of vs) ≡ nesting_all vs
same_nesting no_content = refl
same_nesting (content v vs) = ap (max (nesting v)) (same_nesting vs)

same_parts_nesting : (ps : Parts) → nesting_each (field_values ps) ≡ nesting_parts ps
same_parts_nesting no_part = refl
same_parts_nesting (part i v ps) = ap (max (nesting v)) (same_parts_nesting ps)

-- what is under an id nests no deeper than the deepest
under_nested : (fs : List (ℕ × TyRef)) (vs : List Content) (i : ℕ) (f : TyRef × Content) → under i (with_fields fs vs) ≡ Some f → nesting f.1 ≤ nesting_each vs
under_nested [] vs i f e = absurd cc
under_nested (g ∷ fs) [] i f e = absurd cc
under_nested (g ∷ fs) (v ∷ vs) i f e =
    elim (g.0 == i) as (λ (b : Bool). (if b then Some (g.1, v) else under i (with_fields fs vs)) ≡ Some f → nesting f.1 ≤ nesting_each (v ∷ vs)) [
      | true ↦ λ e. (let k : nesting v ≡ nesting f.1 = ap (λ (f : TyRef × Content). nesting f.1) (some_is {A = TyRef × Content} (g.1, v) f e) in omega arith)
      | false ↦ λ e. (let k = under_nested fs vs i f e in omega arith)
    ] e

missing_nested : (s : Shape) (r : Content) → missing s ≡ Some r → nesting r ≡ 1
missing_nested (primitive Null) r e = sym (ap nesting (some_is _ r e))
missing_nested (primitive Reserved) r e = sym (ap nesting (some_is _ r e))
missing_nested (compound (Opt type)) r e = sym (ap nesting (some_is _ r e))
missing_nested _ r e = absurd cc

-- a vec, whose items nest so
list_deep : (B : TyRef → TyRef → Type 0) (lower upper : List Entry) (rs : Contents) (v : Content) (vs : List Content) (t u : TyRef) (n : ℕ) → items_of v ≡ Some vs → CoerceAll B lower upper t vs u rs
    → nesting_all rs ≤ 2 * nesting_each vs + 2 → 1 ≤ n → suc (nesting_all rs) ≤ 2 * nesting v + n
list_deep B lower upper rs (blob s) vs t u n e all items k = let bytes = bytes_deep B lower upper rs s vs t u (sym (some_is (map byte_value s) vs e)) all in omega arith
list_deep B lower upper rs (list ws) vs t u n e all items k =
    let same : nesting_each vs ≡ nesting_all ws = ap nesting_each (sym (some_is (values_of ws) vs e)) ∙ same_nesting ws in
    omega arith
list_deep B lower upper rs _ vs t u n e all items k = absurd cc

mutual
  -- what is read nests at most twice as deep and a level, two at an opt
  pub deep : (B : TyRef → TyRef → Type 0) (lower upper : List Entry) (r v : Content) (t u : TyRef) → Coerce B lower upper t v u r → nesting r ≤ 2 * nesting v + room (way (shape upper u))
  deep B lower upper (plain p) v t u h = let k = room_least (way (shape upper u)) in omega arith
  deep B lower upper (blob s) v t u h = let k = room_least (way (shape upper u)) in omega arith
  deep B lower upper none v t u h = let k = room_least (way (shape upper u)) in omega arith
  deep B lower upper (some r) v t u (w, is, inl (x, y, at, e, below, h)) =
      let inner = deep B lower upper r y x w h in
      let most = room_most (way (shape upper w)) in
      let two = room_opt (shape upper u) w is in
      let one : nesting v ≡ suc (nesting y) = ap nesting e in
      omega arith
  deep B lower upper (some r) v t u (w, is, inr (is_it, solid, below, h)) =
      let inner = deep B lower upper r v t w h in
      let one : room (way (shape upper w)) ≡ 1 = ap room (constituent_way _ solid) in
      let two = room_opt (shape upper u) w is in
      omega arith
  deep B lower upper (list rs) v t u (w, x, at, is, other, vs, e, all) =
      list_deep B lower upper rs v vs w x (room (way (shape upper u))) e all (deep_all B lower upper rs vs w x all) (room_least (way (shape upper u)))
  deep B lower upper (record_of rs) v t u (fs, gs, at, is, ps, e, all) =
      let one : nesting v ≡ suc (nesting_parts ps) = ap nesting e in
      let k = room_least (way (shape upper u)) in
      let same = same_parts_nesting ps in
      let fields = deep_fields B lower upper rs (with_fields fs (field_values ps)) gs (nesting_each (field_values ps)) (λ i f is. under_nested fs (field_values ps) i f is) all in
      omega arith
  deep B lower upper (variant i r) v t u (fs, gs, at, is, j, y, e, f, get, w, place, h) =
      let inner = deep B lower upper r y f.1 w h in
      let most = room_most (way (shape upper w)) in
      let k = room_least (way (shape upper u)) in
      let one : nesting v ≡ suc (nesting y) = ap nesting e in
      omega arith

  deep_all : (B : TyRef → TyRef → Type 0) (lower upper : List Entry) (rs : Contents) (vs : List Content) (t u : TyRef) → CoerceAll B lower upper t vs u rs → nesting_all rs ≤ 2 * nesting_each vs + 2
  deep_all B lower upper no_content vs t u e = omega arith
  deep_all B lower upper (content r rs) vs t u (v, more, e, h, all) =
      let first = deep B lower upper r v t u h in
      let most = room_most (way (shape upper u)) in
      let rest = deep_all B lower upper rs more t u all in
      let split : nesting_each vs ≡ max (nesting v) (nesting_each more) = ap nesting_each e in
      omega arith

  deep_fields : (B : TyRef → TyRef → Type 0) (lower upper : List Entry) (rs : Parts) (qs : List (ℕ × (TyRef × Content))) (gs : List (ℕ × TyRef)) (m : ℕ)
      → ((i : ℕ) (f : TyRef × Content) → under i qs ≡ Some f → nesting f.1 ≤ m) → CoerceFields B lower upper qs gs rs → nesting_parts rs ≤ 2 * m + 2
  deep_fields B lower upper no_part qs gs m low e = omega arith
  deep_fields B lower upper (part i r rs) qs gs m low (u, more, e, inl (f, at, h), all) =
      let first = deep B lower upper r f.1 f.0 u h in
      let most = room_most (way (shape upper u)) in
      let below = low i f at in
      let rest = deep_fields B lower upper rs qs more m low all in
      omega arith
  deep_fields B lower upper (part i r rs) qs gs m low (u, more, e, inr (at, h), all) =
      let first = missing_nested _ r h in
      let rest = deep_fields B lower upper rs qs more m low all in
      omega arith
