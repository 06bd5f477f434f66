-- Types that are made alike are subtypes of one another.
use Rattle.std.proofs.Common.{◌≡◌, ℕ, zero, suc, false, List, [], ◌∷◌, Option, Some, None, Ordering, refl, sym, ap, ◌∙◌, subst, IsTrue, slice_get, inl}
use Rattle.std.proofs.lemmas.Cmp.{nat_cmp_total, nat_list_cmp_total, tied_itself}
use Rattle.std.specs.List.{AllByRecursion}
use Rattle.std.specs.Cmp.{IsTotalOrder}
use Rattle.std.specs.Ordering.{nat_cmp, is_eq}
use Rattle.std.specs.Cmp.Lexicographic.{slice_cmp}
use Rattle.std.specs.declared.cmp.Ordering.TheVariants.{Less}
use Rattle.cd_types.specs.declared.entry.TyRef.{TyRef}
use Rattle.cd_types.specs.declared.entry.TyRef.TheVariants.{Prim, Index}
use Rattle.cd_types.specs.declared.entry.Entry.{Entry}
use Rattle.cd_types.specs.declared.entry.Entry.TheVariants.{Opt, Seq, Rec, Var, Func, Service}
use Rattle.cd_types.specs.IsOrdered.{is_ordered}
use Rattle.cd_types.specs.IsTable.{is_table}
use Rattle.cd_types.specs.Shape.{Shape, primitive, compound, dangling, shape, entry_shape}
use Rattle.cd_types.proofs.EntryLemmas.{entry_ordered}
use Rattle.cd_sub.specs.Rising.{Rising}
use Rattle.cd_sub.specs.Rule.{HasField, HasCase, HasMethod, Sequence, Rule, same, opt, vec, record_of, variant_of, func, service}
use Rattle.cd_sub.specs.Sub.{SubAt, Sub}
use Rattle.cd_sub.specs.TypeUnder.{type_under}
use Rattle.cd_sub.proofs.OrderLemmas.{all_map, record_rises, variant_rises, service_rises}
use Rattle.cd_part.proofs.Alike.{AlikeTypes, AlikeUnder, Alike, Turned, types_turned, under_turned, turned}

less_other : (o : Ordering) → o ≡ Less → is_eq o ≡ false
less_other o less = rw less refl

-- the label has a type in the list, which is related to its own
abbrev Has : {K : Type 0} → (K → K → Ordering) → (TyRef → TyRef → Type 0) → List (K × TyRef) → K × TyRef → Type 0
Has cmp R fs g = (t : TyRef) × (type_under cmp g.0 fs ≡ Some t) × R t g.1

-- a label that is not the first one is looked up in the rest
skip : {K : Type 0} (cmp : K → K → Ordering) (label : K) (field : K × TyRef) (fields : List (K × TyRef)) → is_eq (cmp field.0 label) ≡ false → type_under cmp label (field ∷ fields) ≡ type_under cmp label fields
skip cmp label field fields other = rw other refl

module _ {K : Type 0} {cmp : K → K → Ordering} (order : IsTotalOrder cmp) (R : TyRef → TyRef → Type 0) where
  above_too : (P : K → Type 0) (fs gs : List (K × TyRef)) → AlikeUnder R fs gs → AllByRecursion (λ f. P f.0) fs → AllByRecursion (λ g. P g.0) gs
  above_too P [] gs e all = subst (λ (gs : List (K × TyRef)). AllByRecursion (λ g. P g.0) gs) (sym e) tt
  above_too P (f ∷ fs) gs (u, more, e, r, rest) all = subst (λ (gs : List (K × TyRef)). AllByRecursion (λ g. P g.0) gs) (sym e) (all.0, above_too P fs more rest all.1)

  behind : (f : K × TyRef) (fs gs : List (K × TyRef)) → AllByRecursion (λ g. cmp f.0 g.0 ≡ Less) gs → AllByRecursion (Has cmp R fs) gs → AllByRecursion (Has cmp R (f ∷ fs)) gs
  behind f fs [] above has = tt
  behind f fs (g ∷ gs) above has = ((has.0.0, skip cmp g.0 f fs (less_other _ above.0) ∙ has.0.1, has.0.2), behind f fs gs above.1 has.1)

  -- where labels rise, each has its own type in the other list
  found : (fs gs : List (K × TyRef)) → Rising cmp fs → AlikeUnder R fs gs → AllByRecursion (Has cmp R fs) gs
  found [] gs rising e = subst (λ (gs : List (K × TyRef)). AllByRecursion (Has cmp R []) gs) (sym e) tt
  found (f ∷ fs) gs rising (u, more, e, r, rest) =
      subst (λ (gs : List (K × TyRef)). AllByRecursion (Has cmp R (f ∷ fs)) gs) (sym e)
      ((f.1, rw (tied_itself order f.0) refl, r), behind f fs more (above_too (λ k. cmp f.0 k ≡ Less) fs more rest rising.0) (found fs more rising.1 rest))

sequence_alike : (R Q : TyRef → TyRef → Type 0) → ((a b : TyRef) → R a b → Q a b) → (upper : List Entry) (ts us : List TyRef) → AlikeTypes R ts us → Sequence Q upper ts us
sequence_alike R Q within upper [] us e = subst (λ (us : List TyRef). Sequence Q upper [] us) (sym e) tt
sequence_alike R Q within upper (t ∷ ts) us (u, more, e, r, rest) = subst (λ (us : List TyRef). Sequence Q upper (t ∷ ts) us) (sym e) (within t u r, sequence_alike R Q within upper ts more rest)

-- where the shape is of an entry, that one is in order
abbrev pub InOrder : Shape → Type 0
InOrder s = (entry : Entry) → s ≡ compound entry → IsTrue (is_ordered entry)

looked_up : (o : Option Entry) (entry : Entry) → entry_shape o ≡ compound entry → o ≡ Some entry
looked_up None entry e = absurd cc
looked_up (Some x) entry e = let k : x ≡ entry = cc in ap (λ (x : Entry). Some x) k

pub in_order : (table : List Entry) → IsTrue (is_table table) → (t : TyRef) → InOrder (shape table t)
in_order table formed (Prim p) entry e = absurd cc
in_order table formed (Index i) entry e = entry_ordered table i entry formed (looked_up (slice_get table i) entry e)

module _ (R Q T : TyRef → TyRef → Type 0) (below : (a b : TyRef) → R a b → Q a b) (back : (a b : TyRef) → R a b → T b a) (first second : List Entry) where
  rule_alike : (s s' : Shape) → InOrder s → InOrder s' → Alike R s s' → Rule Q T first second s s'
  rule_alike (primitive p) s' ordered ordered' e = same p refl e
  rule_alike (compound (Opt a)) s' ordered ordered' (b, e, r) = opt b e
  rule_alike (compound (Seq a)) s' ordered ordered' (b, e, r) = vec a b refl e (below a b r)
  rule_alike (compound (Rec fs)) s' ordered ordered' (gs, e, r) =
      record_of fs gs refl e
      (all_map (Has nat_cmp R fs) (HasField Q second fs) (λ g has. inl (has.0, has.1, below has.0 g.1 has.2)) gs (found nat_cmp_total R fs gs (record_rises (Rec fs) fs (ordered (Rec fs) refl) refl) r))
  rule_alike (compound (Var fs)) s' ordered ordered' (gs, e, r) =
      variant_of fs gs refl e
      (all_map (Has nat_cmp (Turned R) gs) (HasCase Q gs) (λ f has. (has.0, has.1, below f.1 has.0 has.2)) fs
      (found nat_cmp_total (Turned R) gs fs (variant_rises (Var gs) gs (ordered' (Var gs) e) refl) (under_turned R fs gs r)))
  rule_alike (compound (Func args results notes)) s' ordered ordered' (args', results', e, r, r') =
      func args args' results results' notes refl e (sequence_alike (Turned R) T (λ b a r. back a b r) first args' args (types_turned R args args' r)) (sequence_alike R Q below second results results' r')
  rule_alike (compound (Service ms)) s' ordered ordered' (ns, e, r) =
      service ms ns refl e
      (all_map (Has (slice_cmp nat_cmp) R ms) (HasMethod Q ms) (λ n has. (has.0, has.1, below has.0 n.1 has.2)) ns (found nat_list_cmp_total R ms ns (service_rises (Service ms) ms (ordered (Service ms) refl) refl) r))
  rule_alike dangling s' ordered ordered' e = absurd e

module _ (R : TyRef → TyRef → Type 0) (first second : List Entry) (formed : IsTrue (is_table first)) (formed' : IsTrue (is_table second)) (alike : (a b : TyRef) → R a b → Alike R (shape first a) (shape second b)) where
  both_at : (n : ℕ) → ((a b : TyRef) → R a b → SubAt n first a second b) × ((a b : TyRef) → R a b → SubAt n second b first a)
  both_at zero = (λ a b r. tt, λ a b r. tt)
  both_at (suc n) =
      let sooner = both_at n in (
        λ a b r.
            rule_alike R (λ s t. SubAt n first s second t) (λ t s. SubAt n second t first s) sooner.0 sooner.1 first second (shape first a) (shape second b) (in_order first formed a) (in_order second formed' b) (alike a b r),
        λ a b r.
            rule_alike (Turned R) (λ t s. SubAt n second t first s) (λ s t. SubAt n first s second t) (λ t s r. sooner.1 s t r) (λ t s r. sooner.0 s t r) second first (shape second b) (shape first a) (in_order second formed' b) (in_order first formed a)
            (turned R (shape first a) (shape second b) (alike a b r)),
      )

  -- either is a subtype of the other
  pub sub_back : (a b : TyRef) → R a b → Sub second b first a
  sub_back a b r n = (both_at n).1 a b r
