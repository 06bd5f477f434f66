use Rattle.std.proofs.Common.{◌⊎◌, inl, inr}
use Rattle.cd_types.specs.declared.entry.TyRef.{TyRef}
use Rattle.cd_sub.specs.Sub.{Sub}
use Rattle.cd_coerce.proofs.DecidesLemmas.{test_decides}
use Rattle.cd_coerce.proofs.Exists.{exists}
use Rattle.cd_coerce.proofs.laws.has_a_reading.Goals as goal

pub returns : goal.returns
returns c =
    λ lower upper t u v bytes wire below small.
    let decide : (a b : TyRef) → Sub lower a upper b ⊎ (Sub lower a upper b → ⊥) =
    λ a b. elim (test_decides lower upper (λ a b. c.decided.ensures lower upper a b) a b) [ inl p ↦ inl p.1 | inr p ↦ inr p.1 ] in
    exists (λ a b. Sub lower a upper b) (λ b a. Sub upper b lower a) lower upper decide (λ a b h. c.by_a_rule.ensures lower upper a b h) v t bytes wire small u below
