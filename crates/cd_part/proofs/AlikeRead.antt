-- A value of a type is read as itself at a type that is made alike.
use Rattle.std.proofs.Common.{◌≡◌, ℕ, zero, suc, ◌+◌, ◌==◌, Bool, true, false, List, [], ◌∷◌, Some, refl, sym, ap, ◌∙◌, subst, inl, inr, slice_get, arith}
use Rattle.std.specs.Prelude.{if◌then◌else◌}
use Rattle.std.specs.List.{AllByRecursion}
use Rattle.std.specs.Ordering.{nat_cmp}
use Rattle.std.specs.declared.cmp.Ordering.TheVariants.{Less}
use Rattle.std.proofs.lemmas.Bool.Decides.{nat_tests}
use Rattle.ic_base.proofs.Steps.{some_is}
use Rattle.cd_types.specs.declared.entry.TyRef.{TyRef}
use Rattle.cd_types.specs.declared.entry.Entry.{Entry}
use Rattle.cd_types.specs.declared.entry.Entry.TheVariants.{Rec, Var}
use Rattle.cd_types.specs.Shape.{Shape, shape}
use Rattle.cd_sub.specs.Rising.{Rising}
use Rattle.cd_codec.specs.Content.{Content, plain, blob, none, some, list, record_of, variant, Contents, no_content, content, Parts, no_part, part}
use Rattle.cd_codec.specs.Wire.{is_nat8, Wire, WireAll, WireParts}
use Rattle.cd_coerce.specs.Parts.{values_of, field_values, with_fields, under, case_from}
use Rattle.cd_coerce.specs.Coerce.{Coerce, CoerceAll, CoerceFields}
use Rattle.cd_part.proofs.Alike.{AlikeUnder, Alike, under_at}
use Rattle.cd_part.proofs.AlikeValues.{has_shape}
use Rattle.cd_part.proofs.AlikeSub.{InOrder}
use Rattle.cd_sub.proofs.OrderLemmas.{record_rises, variant_rises}

-- ---- labels that rise

other_id : (low id : ℕ) → nat_cmp low id ≡ Less → (low == id) ≡ false
other_id low id less = grind (arith, nat_tests, less)

-- what the later fields have under an id they have after a first one
later_under : {A : Type 0} (low id : ℕ) (fs : List (ℕ × TyRef)) (xs : List A) (f : TyRef × A) → AllByRecursion (λ g. nat_cmp low g.0 ≡ Less) fs → under id (with_fields fs xs) ≡ Some f → (low == id) ≡ false
later_under low id [] xs f above e = absurd cc
later_under low id (g ∷ fs) [] f above e = absurd cc
later_under {A} low id (g ∷ fs) (x ∷ xs) f above e =
    elim (g.0 == id) as (λ (b : Bool). (g.0 == id) ≡ b → (if b then Some (g.1, x) else under id (with_fields fs xs)) ≡ Some f → (low == id) ≡ false) [
      | true ↦ λ same e. (let one : g.0 ≡ id = grind (arith, nat_tests, same) in other_id low id (ap (nat_cmp low) (sym one) ∙ above.0))
      | false ↦ λ same e. later_under low id fs xs f above.1 e
    ] refl e

-- the case at a place has an id that none before it has
pub case_found : (gs : List (ℕ × TyRef)) (start i : ℕ) (g : ℕ × TyRef) → Rising nat_cmp gs → slice_get gs i ≡ Some g → case_from start g.0 gs ≡ Some (start + i, g.1)
case_found [] start i g rising at = absurd cc
case_found (h ∷ gs) start zero g rising at =
    let one : h ≡ g = some_is {A = ℕ × TyRef} h g at in
    let same : (h.0 == g.0) ≡ true = ap (λ (k : ℕ × TyRef). h.0 == k.0) (sym one) ∙ (let own : (h.0 == h.0) ≡ true = grind arith in own) in
    let here : start ≡ start + 0 = omega arith in
    rw same (ap (λ (n : ℕ). Some (n, h.1)) here ∙ ap (λ (k : ℕ × TyRef). Some (start + 0, k.1)) one)
case_found (h ∷ gs) start (suc i) g rising at =
    let apart = other_id h.0 g.0 (above gs i rising.0 at) in
    let next : suc start + i ≡ start + suc i = omega arith in
    rw apart (case_found gs (suc start) i g rising.1 at ∙ ap (λ (n : ℕ). Some (n, g.1)) next)
  where
    above : (gs : List (ℕ × TyRef)) (i : ℕ) → AllByRecursion (λ g. nat_cmp h.0 g.0 ≡ Less) gs → slice_get gs i ≡ Some g → nat_cmp h.0 g.0 ≡ Less
    above [] i all at = absurd cc
    above (k ∷ gs) zero all at = ap (λ (x : ℕ × TyRef). nat_cmp h.0 x.0) (sym (some_is {A = ℕ × TyRef} k g at)) ∙ all.0
    above (k ∷ gs) (suc i) all at = above gs i all.1 at

-- ---- values

module _ (Below : TyRef → TyRef → Type 0) (R : TyRef → TyRef → Type 0) (within : (a b : TyRef) → R a b → Below a b) (nat8s : (a b : TyRef) → R a b → is_nat8 a ≡ is_nat8 b) (first second : List Entry) (ordered : (t : TyRef) → InOrder (shape first t)) (ordered' : (t : TyRef) → InOrder (shape second t)) (alike : (a b : TyRef) → R a b → Alike R (shape first a) (shape second b)) where
  mutual
    pub itself : (v : Content) (t u : TyRef) (bytes : List ℕ) → R t u → Wire first t v bytes → Coerce Below first second t v u v
    itself (plain p) t u bytes r (has, spells) = inr (inl (refl, has_shape R (shape first t) (shape second u) (alike t u r) p has))
    itself (blob s) t u bytes r (item, is, byte, spells) =
        let k = subst (λ (x : Shape). Alike R x (shape second u)) is (alike t u r) in
        (item, k.0, is, k.1, sym (nat8s item k.0 k.2) ∙ byte, inl refl)
    itself none t u bytes r (inner, is, e) =
        let k = subst (λ (x : Shape). Alike R x (shape second u)) is (alike t u r) in (k.0, k.1, inr (inr (inl refl)))
    itself (some v) t u bytes r (inner, is, rest, e, wire) =
        let k = subst (λ (x : Shape). Alike R x (shape second u)) is (alike t u r) in
        (k.0, k.1, inl (inner, v, is, refl, within inner k.0 k.2, itself v inner k.0 rest k.2 wire))
    itself (list vs) t u bytes r (item, is, other, count, rest, e, spells, wire) =
        let k = subst (λ (x : Shape). Alike R x (shape second u)) is (alike t u r) in
        (item, k.0, is, k.1, sym (nat8s item k.0 k.2) ∙ other, values_of vs, refl, all_itself vs item k.0 rest k.2 wire)
    itself (record_of ps) t u bytes r (fields, is, wire) =
        let k = subst (λ (x : Shape). Alike R x (shape second u)) is (alike t u r) in
        (fields, k.0, is, k.1, ps, refl, fields_itself ps fields k.0 (with_fields fields (field_values ps)) bytes (record_rises (Rec fields) fields (ordered t (Rec fields) is) refl) (λ id f found. found) k.2 wire)
    itself (variant i v) t u bytes r (cases, is, case, at, place, rest, e, spells, wire) =
        let k = subst (λ (x : Shape). Alike R x (shape second u)) is (alike t u r) in
        let c = under_at R cases k.0 i case k.2 at in
        let zero_is : 0 + i ≡ i = omega arith in (
          cases,
          k.0,
          is,
          k.1,
          i,
          v,
          refl,
          case,
          at,
          c.0,
          case_found k.0 0 i (case.0, c.0) (variant_rises (Var k.0) k.0 (ordered' u (Var k.0) k.1) refl) c.1 ∙ ap (λ (n : ℕ). Some (n, c.0)) zero_is,
          itself v case.1 c.0 rest c.2 wire,
        )

    all_itself : (vs : Contents) (t u : TyRef) (bytes : List ℕ) → R t u → WireAll first t vs bytes → CoerceAll Below first second t (values_of vs) u vs
    all_itself no_content t u bytes r e = refl
    all_itself (content v vs) t u bytes r (front, rest, e, wire, more) = (v, values_of vs, refl, itself v t u front r wire, all_itself vs t u rest r more)

    fields_itself : (ps : Parts) (fs gs : List (ℕ × TyRef)) (qs : List (ℕ × (TyRef × Content))) (bytes : List ℕ) → Rising nat_cmp fs
        → ((id : ℕ) (f : TyRef × Content) → under id (with_fields fs (field_values ps)) ≡ Some f → under id qs ≡ Some f)
        → AlikeUnder R fs gs → WireParts first fs ps bytes → CoerceFields Below first second qs gs ps
    fields_itself no_part fs gs qs bytes rising has same (e, empty) = subst (λ (fs : List (ℕ × TyRef)). AlikeUnder R fs gs) e same
    fields_itself (part i v ps) fs gs qs bytes rising has same (field, others, e, id, front, rest, whole, wire, more) =
        let k = subst (λ (fs : List (ℕ × TyRef)). AlikeUnder R fs gs) e same in
        let rises = subst (λ (fs : List (ℕ × TyRef)). Rising nat_cmp fs) e rising in
        let has' = subst (λ (fs : List (ℕ × TyRef)). (id : ℕ) (f : TyRef × Content) → under id (with_fields fs (v ∷ field_values ps)) ≡ Some f → under id qs ≡ Some f) e has in
        let own : (field.0 == i) ≡ true = grind (arith, nat_tests, id) in (
          k.0,
          k.1,
          k.2 ∙ ap (λ (n : ℕ). (n, k.0) ∷ k.1) (sym id),
          inl ((field.1, v), has' i (field.1, v) (rw own refl), itself v field.1 k.0 front k.3 wire),
          fields_itself ps others k.1 qs rest rises.1 (λ j f found. has' j f (rw (later_under field.0 j others (field_values ps) f rises.0 found) found)) k.4 more,
        )
