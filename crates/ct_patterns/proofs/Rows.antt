-- The definitions at known patterns, by computing.
use Rattle.std.proofs.Common.{◌≡◌, [], ◌∷◌, Some, None, refl}
use Rattle.std.specs.Prelude.{codes}
use Rattle.cd_types.specs.declared.primitive.Primitive.TheVariants as primitives
use Rattle.cd_types.specs.declared.entry.TyRef.TheVariants.{Prim}
use Rattle.cd_codec.specs.Content.{nat, plain, blob, none, some, list, variant, no_content, content}
use Rattle.ct_patterns.specs.declared.step.Step.TheVariants.{Any, Bound, Opt, Seq, Var}
use Rattle.ct_patterns.specs.Views.{byte}
use Rattle.ct_patterns.specs.Met.{met}

-- vec { _; opt let n } and vec { null; opt 3 }
bound_in_a_vec : met (Seq 2 ∷ Any ∷ Opt ∷ Bound (codes "n") (Prim primitives.Nat) ∷ []) (list (content none (content (some (plain (nat 3))) no_content)) ∷ []) ≡ Some ((codes "n", Prim primitives.Nat, plain (nat 3)) ∷ [])
bound_in_a_vec = refl

-- vec { opt _ } and vec { null }
null_is_no_opt : met (Seq 1 ∷ Opt ∷ Any ∷ []) (list (content none no_content) ∷ []) ≡ None
null_is_no_opt = refl

-- vec { _; let b } and blob "\07\09"
bytes_are_values : met (Seq 2 ∷ Any ∷ Bound (codes "b") (Prim primitives.Nat8) ∷ []) (blob (7 ∷ 9 ∷ []) ∷ []) ≡ Some ((codes "b", Prim primitives.Nat8, byte 9) ∷ [])
bytes_are_values = refl

-- the second case of a variant, and the first
another_case : met (Var 1 ∷ Any ∷ []) (variant 0 none ∷ []) ≡ None
another_case = refl

-- (_) and two values
one_value_too_many : met (Any ∷ []) (none ∷ none ∷ []) ≡ None
one_value_too_many = refl
