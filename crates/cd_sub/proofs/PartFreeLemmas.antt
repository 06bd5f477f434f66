-- the rules without parts are the test for them
use Rattle.std.proofs.Common.{◌≡◌, Bool, true, false, ◌&&◌, ◌||◌, List, refl, sym, ◌∙◌, ap, ◌==◌}
use Rattle.std.proofs.lemmas.Bool.{eq-eqb}
use Rattle.std.proofs.Math.Bool.{or-true}
use Rattle.cd_types.specs.declared.primitive.Primitive.{Primitive}
use Rattle.cd_types.specs.declared.primitive.Primitive.TheVariants.{Nat, Int, Reserved, Empty}
use Rattle.cd_types.specs.declared.entry.TyRef.{TyRef}
use Rattle.cd_types.specs.declared.entry.Entry.{Entry}
use Rattle.cd_types.specs.declared.entry.Entry.TheVariants.{Opt, Seq, Rec, Var, Func, Service}
use Rattle.cd_types.specs.PrimitiveCode.{primitive_code}
use Rattle.cd_types.proofs.PrimitiveCodes.{code_same}
use Rattle.cd_types.specs.Shape.{Shape, primitive, compound, dangling}
use Rattle.cd_sub.specs.Rule.{Rule, same, nat_int, reserved, empty, opt, vec, record_of, variant_of, func, service}
use Rattle.cd_sub.specs.PartFree.{primitive_below, is_top, part_free}
use Rattle.cd_types.proofs.FaultLemmas.{both_true}

-- one of two tests holds
either : {G : Type 0} (a b : Bool) → (a || b) ≡ true → (a ≡ true → G) → (b ≡ true → G) → G
either true b e f g = f refl
either false b e f g = g e

-- every type is below this one
top_up : (Below Above : TyRef → TyRef → Type 0) (lower upper : List Entry) (s t : Shape) → is_top t ≡ true → Rule Below Above lower upper s t
top_up Below Above lower upper s (primitive q) e = reserved (ap primitive (code_same q Reserved e))
top_up Below Above lower upper s (compound (Opt type)) e = opt type refl
top_up Below Above lower upper s (compound (Seq type)) e = cc
top_up Below Above lower upper s (compound (Rec fields)) e = cc
top_up Below Above lower upper s (compound (Var cases)) e = cc
top_up Below Above lower upper s (compound (Func args results notes)) e = cc
top_up Below Above lower upper s (compound (Service methods)) e = cc
top_up Below Above lower upper s dangling e = cc

-- what passes the test is below by a rule
pub part_free_up : (Below Above : TyRef → TyRef → Type 0) (lower upper : List Entry) (s t : Shape) → part_free s t ≡ true → Rule Below Above lower upper s t
part_free_up Below Above lower upper (primitive p) (primitive q) e =
    either (primitive_code q == 15) _ e (λ e. reserved (ap primitive (code_same q Reserved e)))
    (λ e. either (primitive_code p == 16) _ e (λ e. empty (ap primitive (code_same p Empty e)))
    (λ e. either ((primitive_code p == 2) && (primitive_code q == 3)) _ e
    (λ e. let parts = both_true (primitive_code p == 2) (primitive_code q == 3) e in nat_int (ap primitive (code_same p Nat parts.0)) (ap primitive (code_same q Int parts.1)))
    (λ e. same q (ap primitive (code_same p q e)) refl)))
part_free_up Below Above lower upper (primitive p) (compound entry) e =
    either (primitive_code p == 16) _ e (λ e. empty (ap primitive (code_same p Empty e))) (top_up Below Above lower upper (primitive p) (compound entry))
part_free_up Below Above lower upper (primitive p) dangling e = empty (ap primitive (code_same p Empty e))
part_free_up Below Above lower upper (compound entry) t e = top_up Below Above lower upper (compound entry) t e
part_free_up Below Above lower upper dangling t e = top_up Below Above lower upper dangling t e

-- whether both are entries
abbrev pub both_compound : Shape → Shape → Bool
both_compound (compound x) (compound y) = true
both_compound (compound x) (primitive q) = false
both_compound (compound x) dangling = false
both_compound (primitive p) t = false
both_compound dangling t = false

or_right : (a b : Bool) → b ≡ true → (a || b) ≡ true
or_right a b e = ap (λ b. a || b) e ∙ or-true a

itself : (p : Primitive) → primitive_below p p ≡ true
itself p = or_right (primitive_code p == 15) _ (or_right (primitive_code p == 16) _ (or_right ((primitive_code p == 2) && (primitive_code p == 3)) _ (eq-eqb (primitive_code p) (primitive_code p) refl)))

below_reserved : (s : Shape) → part_free s (primitive Reserved) ≡ true
below_reserved (primitive p) = refl
below_reserved (compound entry) = refl
below_reserved dangling = refl

above_empty : (t : Shape) → part_free (primitive Empty) t ≡ true
above_empty (primitive q) = or-true (primitive_code q == 15)
above_empty (compound entry) = refl
above_empty dangling = refl

below_opt : (type : TyRef) (s : Shape) → part_free s (compound (Opt type)) ≡ true
below_opt type (primitive p) = or-true (primitive_code p == 16)
below_opt type (compound entry) = refl
below_opt type dangling = refl

-- two shapes that are entries
are_compound : {G : Type 0} (s t : Shape) (x y : Entry) → s ≡ compound x → t ≡ compound y → both_compound s t ≡ false → G
are_compound s t x y e f not_both =
    absurd (let k : true ≡ false = sym (ap (λ s. both_compound s (compound y)) e) ∙ sym (ap (both_compound s) f) ∙ not_both in cc)

-- what is below by a rule, and is no pair of entries, passes the test
pub part_free_down : (Below Above : TyRef → TyRef → Type 0) (lower upper : List Entry) (s t : Shape) → both_compound s t ≡ false → Rule Below Above lower upper s t → part_free s t ≡ true
part_free_down Below Above lower upper s t not_both (same p e f) = ap (λ s. part_free s t) e ∙ ap (part_free (primitive p)) f ∙ itself p
part_free_down Below Above lower upper s t not_both (nat_int e f) = ap (λ s. part_free s t) e ∙ ap (part_free (primitive Nat)) f
part_free_down Below Above lower upper s t not_both (reserved f) = ap (part_free s) f ∙ below_reserved s
part_free_down Below Above lower upper s t not_both (empty e) = ap (λ s. part_free s t) e ∙ above_empty t
part_free_down Below Above lower upper s t not_both (opt type f) = ap (part_free s) f ∙ below_opt type s
part_free_down Below Above lower upper s t not_both (vec a b e f r) = are_compound s t _ _ e f not_both
part_free_down Below Above lower upper s t not_both (record_of fs gs e f r) = are_compound s t _ _ e f not_both
part_free_down Below Above lower upper s t not_both (variant_of fs gs e f r) = are_compound s t _ _ e f not_both
part_free_down Below Above lower upper s t not_both (func args args' results results' notes e f r r') = are_compound s t _ _ e f not_both
part_free_down Below Above lower upper s t not_both (service ms ns e f r) = are_compound s t _ _ e f not_both
