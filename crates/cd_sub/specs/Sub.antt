-- Candid specification, "Subtyping": the greatest relation with these rules
use Rattle.std.specs.Prelude.{ℕ, zero, suc, Bool, List, IsTrue}
use Rattle.cd_types.specs.declared.entry.TyRef.{TyRef}
use Rattle.cd_types.specs.declared.entry.Entry.{Entry}
use Rattle.cd_types.specs.Shape.{shape}
use Rattle.cd_sub.specs.Rule.{Rule}

-- a of the table `lower` is a subtype of b of the table `upper`, as far as this depth of parts shows
abbrev pub SubAt : ℕ → List Entry → TyRef → List Entry → TyRef → Type 0
SubAt zero lower a upper b = Unit {0}
SubAt (suc n) lower a upper b =
    Rule (λ s t. SubAt n lower s upper t) (λ t s. SubAt n upper t lower s) lower upper (shape lower a) (shape upper b)

-- a of the table `lower` is a subtype of b of the table `upper`: at every depth
abbrev pub Sub : List Entry → TyRef → List Entry → TyRef → Type 0
Sub lower a upper b = (n : ℕ) → SubAt n lower a upper b

-- the types of `lower` and `upper` that pass a test are related by a rule, with parts that pass the
-- test, or the other way round pass the turned one
abbrev pub IsClosed : (TyRef → TyRef → Bool) → (TyRef → TyRef → Bool) → List Entry → List Entry → Type 0
IsClosed test turned lower upper =
    (a b : TyRef) → IsTrue (test a b)
    → Rule (λ s t. IsTrue (test s t)) (λ t s. IsTrue (turned t s)) lower upper (shape lower a) (shape upper b)
