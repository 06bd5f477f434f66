-- Primitive types with one number are one type.
use Rattle.std.proofs.Common.{◌≡◌, ℕ, true, List, [], ◌∷◌, ◌==◌, get_or, refl, sym, ◌∙◌, ap}
use Rattle.std.proofs.lemmas.Bool.{eqb-true}
use Rattle.cd_types.specs.declared.primitive.Primitive.{Primitive}
use Rattle.cd_types.specs.declared.primitive.Primitive.TheVariants as primitives
use Rattle.cd_types.specs.PrimitiveCode.{primitive_code}

-- the primitive type with a number
of_code : ℕ → Primitive
of_code n =
    get_or
    (primitives.Null ∷ primitives.Bool ∷ primitives.Nat ∷ primitives.Int ∷ primitives.Nat8 ∷ primitives.Nat16 ∷ primitives.Nat32 ∷ primitives.Nat64 ∷ primitives.Int8 ∷ primitives.Int16 ∷ primitives.Int32 ∷ primitives.Int64 ∷ primitives.Null ∷ primitives.Null ∷ primitives.Text ∷ primitives.Reserved ∷ primitives.Empty ∷ [])
    n primitives.Principal

code_back : (p : Primitive) → of_code (primitive_code p) ≡ p
unfolding of_code
code_back primitives.Null = refl
code_back primitives.Bool = refl
code_back primitives.Nat = refl
code_back primitives.Int = refl
code_back primitives.Nat8 = refl
code_back primitives.Nat16 = refl
code_back primitives.Nat32 = refl
code_back primitives.Nat64 = refl
code_back primitives.Int8 = refl
code_back primitives.Int16 = refl
code_back primitives.Int32 = refl
code_back primitives.Int64 = refl
code_back primitives.Text = refl
code_back primitives.Reserved = refl
code_back primitives.Empty = refl
code_back primitives.Principal = refl

pub code_same : (p q : Primitive) → (primitive_code p == primitive_code q) ≡ true → p ≡ q
code_same p q e = sym (code_back p) ∙ ap of_code (eqb-true (primitive_code p) (primitive_code q) e) ∙ code_back q
