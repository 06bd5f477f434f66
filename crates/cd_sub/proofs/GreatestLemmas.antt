-- subtyping is the greatest relation that is closed under the rules
use Rattle.std.proofs.Common.{ℕ, zero, suc, Bool, List, [], ◌∷◌, IsTrue, inl, inr}
use Rattle.cd_types.specs.declared.entry.TyRef.{TyRef}
use Rattle.cd_types.specs.declared.entry.Entry.{Entry}
use Rattle.cd_types.specs.Shape.{Shape, shape}
use Rattle.cd_sub.specs.Rule.{HasField, Sequence, Rule, same, nat_int, reserved, empty, opt, vec, record_of, variant_of, func, service}
use Rattle.cd_sub.specs.Sub.{SubAt, Sub, IsClosed}
use Rattle.cd_sub.proofs.OrderLemmas.{all_map}

-- every pair of R is one of Q
abbrev Within : (TyRef → TyRef → Type 0) → (TyRef → TyRef → Type 0) → Type 0
Within R Q = (a b : TyRef) → R a b → Q a b

field_within : (R Q : TyRef → TyRef → Type 0) → Within R Q → (upper : List Entry) (fs : List (ℕ × TyRef)) (g : ℕ × TyRef) → HasField R upper fs g → HasField Q upper fs g
field_within R Q within upper fs g has = elim has [ inl there ↦ inl (there.0, there.1, within there.0 g.1 there.2) | inr missing ↦ inr missing ]

sequence_within : (R Q : TyRef → TyRef → Type 0) → Within R Q → (upper : List Entry) (types expected : List TyRef) → Sequence R upper types expected → Sequence Q upper types expected
sequence_within R Q within upper types [] has = tt
sequence_within R Q within upper [] (t ∷ ts) has = (has.0, sequence_within R Q within upper [] ts has.1)
sequence_within R Q within upper (s ∷ ss) (t ∷ ts) has = (within s t has.0, sequence_within R Q within upper ss ts has.1)

rule_within : (R S Q T : TyRef → TyRef → Type 0) → Within R Q → Within S T → (lower upper : List Entry) (s t : Shape) → Rule R S lower upper s t → Rule Q T lower upper s t
rule_within R S Q T within back lower upper s t (same p e f) = same p e f
rule_within R S Q T within back lower upper s t (nat_int e f) = nat_int e f
rule_within R S Q T within back lower upper s t (reserved f) = reserved f
rule_within R S Q T within back lower upper s t (empty e) = empty e
rule_within R S Q T within back lower upper s t (opt type f) = opt type f
rule_within R S Q T within back lower upper s t (vec a b e f r) = vec a b e f (within a b r)
rule_within R S Q T within back lower upper s t (record_of fs gs e f has) =
    record_of fs gs e f (all_map _ _ (field_within R Q within upper fs) gs has)
rule_within R S Q T within back lower upper s t (variant_of fs gs e f has) =
    variant_of fs gs e f (all_map _ _ (λ c has. (has.0, has.1, within c.1 has.0 has.2)) fs has)
rule_within R S Q T within back lower upper s t (func args args' results results' notes e f has has') =
    func args args' results results' notes e f (sequence_within S T back lower args' args has) (sequence_within R Q within upper results results' has')
rule_within R S Q T within back lower upper s t (service ms ns e f has) =
    service ms ns e f (all_map _ _ (λ m has. (has.0, has.1, within has.0 m.1 has.2)) ns has)

module _ (first second : List Entry) (test turned : TyRef → TyRef → Bool) (closed : IsClosed test turned first second) (back : IsClosed turned test second first) where
  abbrev R : TyRef → TyRef → Type 0
  R a b = IsTrue (test a b)

  abbrev S : TyRef → TyRef → Type 0
  S b a = IsTrue (turned b a)

  within_at : (n : ℕ) → Within R (λ a b. SubAt n first a second b) × Within S (λ b a. SubAt n second b first a)
  within_at zero = (λ a b r. tt, λ b a r. tt)
  within_at (suc n) =
      let sooner = within_at n in (
        λ a b r. rule_within R S _ _ sooner.0 sooner.1 first second (shape first a) (shape second b) (closed a b r),
        λ b a r. rule_within S R _ _ sooner.1 sooner.0 second first (shape second b) (shape first a) (back b a r),
      )

  pub within_sub : (a b : TyRef) → IsTrue (test a b) → Sub first a second b
  within_sub a b r n = (within_at n).0 a b r
