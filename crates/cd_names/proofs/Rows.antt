-- The definitions at known names, by computing.
use Rattle.std.proofs.Common.{◌≡◌, [], ◌∷◌, Some, None, refl}
use Rattle.std.specs.Prelude.{codes}
use Rattle.cd_types.specs.declared.primitive.Primitive.TheVariants.{Nat}
use Rattle.cd_types.specs.declared.entry.TyRef.TheVariants.{Prim}
use Rattle.cd_types.specs.declared.entry.Entry.TheVariants.{Rec}
use Rattle.cd_tokens.specs.Token.{run, mark}
use Rattle.cd_tokens.specs.ReadLabel.{name_of}
use Rattle.cd_names.specs.Names.{is_used, named}

-- of `type a = record { a : nat }` the id of `a`, which is 97, has a name
first_word : named (is_used (Rec ((97, Prim Nat) ∷ []) ∷ [])) (run (codes "type") ∷ run (codes "a") ∷ mark 61 ∷ run (codes "record") ∷ mark 123 ∷ run (codes "a") ∷ mark 58 ∷ run (codes "nat") ∷ mark 125 ∷ []) 97 ≡ Some (codes "a")
unfolding name_of
first_word = refl

-- and the id of `type` has none, since no field has it
not_used : named (is_used (Rec ((97, Prim Nat) ∷ []) ∷ [])) (run (codes "type") ∷ run (codes "a") ∷ []) 1292432058 ≡ None
unfolding name_of
not_used = refl
