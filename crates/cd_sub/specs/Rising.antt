-- Candid specification, "Type Table": ids and method names rise
use Rattle.std.specs.Prelude.{◌≡◌, List, [], ◌∷◌}
use Rattle.std.specs.List.{AllByRecursion}
use Rattle.std.specs.declared.cmp.Ordering.{Ordering}
use Rattle.std.specs.declared.cmp.Ordering.TheVariants.{Less}
use Rattle.cd_types.specs.declared.entry.TyRef.{TyRef}

-- each label is below all that follow
abbrev pub Rising : {K : Type 0} → (K → K → Ordering) → List (K × TyRef) → Type 0
Rising cmp [] = Unit {0}
Rising cmp (field ∷ fields) = AllByRecursion (λ later. cmp field.0 later.0 ≡ Less) fields × Rising cmp fields
