-- each type of a well formed table is a subtype of itself
use Rattle.std.proofs.Common.{◌≡◌, ℕ, zero, suc, ◌<◌, Bool, true, false, List, [], ◌∷◌, Some, Ordering, length, refl, sym, ◌∙◌, subst, IsTrue, slice_get, inl, arith}
use Rattle.std.proofs.lemmas.Bool.{ltb-true}
use Rattle.std.proofs.lemmas.Cmp.{nat_cmp_total, nat_list_cmp_total, tied_itself}
use Rattle.std.proofs.lemmas.List.Folds.{list_all-append, list_all-map}
use Rattle.std.specs.List.{AllByRecursion, list_all}
use Rattle.std.specs.Cmp.{IsTotalOrder}
use Rattle.std.specs.Ordering.{nat_cmp, is_eq}
use Rattle.std.specs.Cmp.Lexicographic.{slice_cmp}
use Rattle.std.specs.declared.cmp.Ordering.TheVariants.{Less}
use Rattle.cd_types.specs.declared.entry.TyRef.{TyRef}
use Rattle.cd_types.specs.declared.entry.TyRef.TheVariants.{Prim, Index}
use Rattle.cd_types.specs.declared.entry.Entry.{Entry}
use Rattle.cd_types.specs.declared.entry.Entry.TheVariants.{Opt, Seq, Rec, Var, Func, Service}
use Rattle.cd_types.specs.IsInside.{is_inside}
use Rattle.cd_types.specs.IsOrdered.{is_ordered}
use Rattle.cd_types.specs.IsTable.{is_table, names_inside}
use Rattle.cd_types.specs.Shape.{compound, entry_shape}
use Rattle.cd_sub.specs.Rising.{Rising}
use Rattle.cd_sub.specs.Rule.{HasField, HasCase, HasMethod, Sequence, Rule, same, opt, vec, record_of, variant_of, func, service}
use Rattle.cd_sub.specs.Sub.{SubAt, Sub}
use Rattle.cd_sub.specs.TypeUnder.{type_under}
use Rattle.cd_sub.proofs.LabelLemmas.{skip}
use Rattle.cd_sub.proofs.OrderLemmas.{record_rises, variant_rises, service_rises}
use Rattle.cd_types.proofs.FaultLemmas.{both_true}
use Rattle.cd_types.proofs.EntryLemmas.{entry_formed}

less_other : (o : Ordering) → o ≡ Less → is_eq o ≡ false
less_other o less = rw less refl

-- a type of its own label is looked up after a first one too
behind_first : {K : Type 0} (cmp : K → K → Ordering) (field : K × TyRef) (fields more : List (K × TyRef)) → AllByRecursion (λ later. cmp field.0 later.0 ≡ Less) more
    → AllByRecursion (λ f. type_under cmp f.0 fields ≡ Some f.1) more → AllByRecursion (λ f. type_under cmp f.0 (field ∷ fields) ≡ Some f.1) more
behind_first cmp field fields [] above own = tt
behind_first cmp field fields (f ∷ more) above own =
    (skip cmp f.0 field fields (less_other _ above.0) ∙ own.0, behind_first cmp field fields more above.1 own.1)

-- where labels rise, each label has its own type
own_types : {K : Type 0} {cmp : K → K → Ordering} (order : IsTotalOrder cmp) (fields : List (K × TyRef)) → Rising cmp fields
    → AllByRecursion (λ f. type_under cmp f.0 fields ≡ Some f.1) fields
own_types order [] rising = tt
own_types {K} {cmp} order (field ∷ fields) rising =
    (rw (tied_itself order field.0) refl, behind_first cmp field fields fields rising.0 (own_types order fields rising.1))

-- each label has its type, and the type is inside the table
each_own : {K : Type 0} (cmp : K → K → Ordering) (inside : TyRef → Bool) (Has : K × TyRef → Type 0) (fields more : List (K × TyRef))
    → ((f : K × TyRef) → type_under cmp f.0 fields ≡ Some f.1 → inside f.1 ≡ true → Has f)
    → AllByRecursion (λ f. type_under cmp f.0 fields ≡ Some f.1) more → list_all (λ f. inside f.1) more ≡ true → AllByRecursion Has more
each_own cmp inside Has fields [] has own all = tt
each_own cmp inside Has fields (f ∷ more) has own all =
    let here = both_true (inside f.1) _ all in
    (has f own.0 here.0, each_own cmp inside Has fields more has own.1 here.1)

-- from here on R holds of each type inside the table and itself
module _ (table : List Entry) (R : TyRef → TyRef → Type 0) (reflexive : (a : TyRef) → is_inside (length table) a ≡ true → R a a) where
  sequence_itself : (types : List TyRef) → list_all (is_inside (length table)) types ≡ true → Sequence R table types types
  sequence_itself [] all = tt
  sequence_itself (a ∷ types) all =
      let here = both_true (is_inside (length table) a) _ all in
      (reflexive a here.0, sequence_itself types here.1)

  entry_itself : (x : Entry) → names_inside (length table) x ≡ true → IsTrue (is_ordered x) → Rule R R table table (compound x) (compound x)
  entry_itself (Opt a) all ordered = opt a refl
  entry_itself (Seq a) all ordered = vec a a refl refl (reflexive a (both_true (is_inside (length table) a) _ all).0)
  entry_itself (Rec fs) all ordered =
      record_of fs fs refl refl (each_own nat_cmp (is_inside (length table)) (HasField R table fs) fs fs (λ f own inside. inl (f.1, own, reflexive f.1 inside))
      (own_types nat_cmp_total fs (record_rises (Rec fs) fs ordered refl)) (sym (list_all-map (is_inside (length table)) (λ f. f.1) fs) ∙ all))
  entry_itself (Var fs) all ordered =
      variant_of fs fs refl refl (each_own nat_cmp (is_inside (length table)) (HasCase R fs) fs fs (λ f own inside. (f.1, own, reflexive f.1 inside))
      (own_types nat_cmp_total fs (variant_rises (Var fs) fs ordered refl)) (sym (list_all-map (is_inside (length table)) (λ f. f.1) fs) ∙ all))
  entry_itself (Func args results notes) all ordered =
      let inside = both_true (list_all (is_inside (length table)) args) _ (sym (list_all-append (is_inside (length table)) args results) ∙ all) in
      func args args results results notes refl refl (sequence_itself args inside.0) (sequence_itself results inside.1)
  entry_itself (Service ms) all ordered =
      service ms ms refl refl (each_own (slice_cmp nat_cmp) (is_inside (length table)) (HasMethod R ms) ms ms (λ m own inside. (m.1, own, reflexive m.1 inside))
      (own_types nat_list_cmp_total ms (service_rises (Service ms) ms ordered refl)) (sym (list_all-map (is_inside (length table)) (λ m. m.1) ms) ∙ all))

-- a place below the length has an entry
entry_there : (table : List Entry) (i : ℕ) → i < length table → (x : Entry) × (slice_get table i ≡ Some x)
entry_there [] i inside = absurd (omega (arith, inside))
entry_there (x ∷ table) zero inside = (x, refl)
entry_there (x ∷ table) (suc i) inside = entry_there table i (omega (arith, inside))

sub_at_itself : (table : List Entry) → IsTrue (is_table table) → (n : ℕ) (a : TyRef) → is_inside (length table) a ≡ true → SubAt n table a table a
sub_at_itself table formed zero a inside = tt
sub_at_itself table formed (suc n) (Prim p) inside = same p refl refl
sub_at_itself table formed (suc n) (Index i) inside =
    let there = entry_there table i (ltb-true i (length table) inside) in
    let well = entry_formed table i there.0 formed there.1 in
    let R = λ (s t : TyRef). SubAt n table s table t in
    subst (λ o. Rule R R table table (entry_shape o) (entry_shape o)) (sym there.1)
    (entry_itself table R (sub_at_itself table formed n) there.0 well.0 well.1)

pub sub_itself : (table : List Entry) (a : TyRef) → IsTrue (is_table table) → IsTrue (is_inside (length table) a) → Sub table a table a
sub_itself table a formed inside n = sub_at_itself table formed n a inside
