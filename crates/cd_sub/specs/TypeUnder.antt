-- Candid specification, "Subtyping": fields, cases and methods are compared under the same label
use Rattle.std.specs.Prelude.{List, [], ◌∷◌, Option, Some, None, if◌then◌else◌}
use Rattle.std.specs.declared.cmp.Ordering.{Ordering}
use Rattle.std.specs.Ordering.{is_eq}
use Rattle.cd_types.specs.declared.entry.TyRef.{TyRef}

-- the type under a label: an id of a field or of a case, or the name of a method
abbrev pub type_under : {K : Type 0} → (K → K → Ordering) → K → List (K × TyRef) → Option TyRef
type_under cmp label [] = None
type_under cmp label (field ∷ fields) = if is_eq (cmp field.0 label) then Some field.1 else type_under cmp label fields
