-- the test of a setting decides subtyping
use Rattle.std.proofs.Common.{◌≡◌, ◌⊎◌, inl, inr, ◌↔◌, ℕ, Bool, true, false, ◌&&◌, List, [], length, Option, Some, None, refl, ap, ◌∙◌, IsTrue, slice_get, nat_lt}
use Rattle.std.proofs.lemmas.Bool.{ltb-false}
use Rattle.std.proofs.lemmas.Option.{slice_get_past}
use Rattle.cd_types.specs.declared.entry.TyRef.{TyRef}
use Rattle.cd_types.specs.declared.entry.TyRef.TheVariants.{Prim, Index}
use Rattle.cd_types.specs.declared.entry.Entry.{Entry}
use Rattle.cd_types.specs.IsInside.{is_inside}
use Rattle.cd_types.specs.Shape.{Shape, primitive, entry_shape, shape}
use Rattle.cd_sub.specs.Sub.{Sub}
use Rattle.cd_sub.specs.Below.{below, all_pass}
use Rattle.cd_sub.specs.Parts.{verdict}
use Rattle.cd_sub.specs.PartFree.{is_top, part_free}
use Rattle.cd_coerce.specs.BelowOutside.{below_outside}
use Rattle.cd_coerce.specs.Decides.{Decides}
use Rattle.cd_coerce.specs.Step.{setting}

by_test : {S : Type 0} (yes : Bool) → (IsTrue yes ↔ S) → ((yes ≡ true) × S) ⊎ ((yes ≡ false) × (S → ⊥))
by_test true is = inl (refl, is.0 refl)
by_test false is = inr (refl, λ s. let k : false ≡ true = is.1 s in cc)

pub test_decides : (lower upper : List Entry) → ((a b : TyRef) → IsTrue (below lower a upper b) ↔ Sub lower a upper b) → Decides (λ a b. Sub lower a upper b) (setting lower upper).below
test_decides lower upper is a b = by_test (below lower a upper b) (is a b)

passes : (test : ℕ → Bool) (yes : Bool) → all_pass test (verdict yes []) ≡ yes
passes test true = refl
passes test false = refl

entry_below : (o : Option Entry) (s : Shape) → part_free (entry_shape o) s ≡ is_top s
entry_below None s = refl
entry_below (Some entry) s = refl

no_entry : (table : List Entry) (i : ℕ) → nat_lt i (length table) ≡ false → slice_get table i ≡ None
no_entry table i past = slice_get_past table i (ltb-false i (length table) past)

-- where a type is outside its table, a rule without parts decides
pub outside : (lower upper : List Entry) (t u : TyRef) → (is_inside (length lower) t && is_inside (length upper) u) ≡ false → below lower t upper u ≡ below_outside t (shape upper u)
unfolding below
outside lower upper (Prim p) (Prim q) past = absurd (let k : true ≡ false = past in cc)
outside lower upper (Prim p) (Index j) past = passes _ _ ∙ ap (λ o. part_free (primitive p) (entry_shape o)) (no_entry upper j past)
outside lower upper (Index i) (Prim q) past = passes _ _ ∙ entry_below (slice_get lower i) (primitive q)
outside lower upper (Index i) (Index j) past = rw past (passes _ _ ∙ entry_below (slice_get lower i) (shape upper (Index j)))
