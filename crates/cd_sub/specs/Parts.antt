-- Candid specification, "Subtyping": what a rule leaves to show of two entries, as the places of
-- pairs of entries among the marks, or none where no rule fits. `found` is what comes before;
-- `turned` says that the lower type is of the second table.
use Rattle.std.specs.Prelude.{ℕ, ◌+◌, ◌*◌, Bool, true, false, not, ◌&&◌, List, [], ◌∷◌, ◌++◌, length, Option, Some, None, nat_lt, if◌then◌else◌}
use Rattle.std.specs.Option.{option_and_then}
use Rattle.std.specs.declared.cmp.Ordering.{Ordering}
use Rattle.std.specs.Ordering.{nat_cmp}
use Rattle.std.specs.Str.{bytes_eq}
use Rattle.std.specs.Cmp.Lexicographic.{slice_cmp}
use Rattle.cd_types.specs.declared.entry.TyRef.{TyRef}
use Rattle.cd_types.specs.declared.entry.TyRef.TheVariants.{Prim, Index}
use Rattle.cd_types.specs.declared.entry.Entry.{Entry}
use Rattle.cd_types.specs.declared.entry.Entry.TheVariants.{Opt, Seq, Rec, Var, Func, Service}
use Rattle.cd_types.specs.Shape.{shape}
use Rattle.cd_sub.specs.MayMiss.{may_miss}
use Rattle.cd_sub.specs.PartFree.{part_free}
use Rattle.cd_sub.specs.TypeUnder.{type_under}
use Rattle.cd_sub.specs.declared.parts.Labelled.{Labelled}
use Rattle.cd_sub.specs.declared.parts.Labelled.TheVariants.{Field, Case, Method}

-- the place of a pair of entries among the marks: first all pairs with the lower type in the
-- first table, row by row, then all with the lower type in the second
abbrev pub place_of : List Entry → List Entry → Bool → ℕ → ℕ → ℕ
place_of lower upper turned i j = (if turned then length lower * length upper else 0) + (i * length upper + j)

-- what was found, if the test holds
abbrev pub verdict : Bool → List ℕ → Option (List ℕ)
verdict true found = Some found
verdict false found = None

-- a part that is a pair of entries is to be shown; every other is decided at once
abbrev pub part_at : List Entry → List Entry → Bool → TyRef → TyRef → List ℕ → Option (List ℕ)
part_at lower upper turned (Index i) (Index j) found =
    if nat_lt i (length lower) && nat_lt j (length upper) then Some (found ++ place_of lower upper turned i j ∷ []) else verdict (part_free (shape lower (Index i)) (shape upper (Index j))) found
part_at lower upper turned (Index i) (Prim q) found = verdict (part_free (shape lower (Index i)) (shape upper (Prim q))) found
part_at lower upper turned (Prim p) b found = verdict (part_free (shape lower (Prim p)) (shape upper b)) found

-- an expected field against the type under its id
abbrev pub field_part : List Entry → List Entry → Bool → Option TyRef → TyRef → List ℕ → Option (List ℕ)
field_part lower upper turned None expected found = verdict (may_miss (shape upper expected)) found
field_part lower upper turned (Some type) expected found = part_at lower upper turned type expected found

-- a case against the expected type under its id
abbrev pub case_part : List Entry → List Entry → Bool → Option TyRef → TyRef → List ℕ → Option (List ℕ)
case_part lower upper turned None type found = None
case_part lower upper turned (Some expected) type found = part_at lower upper turned type expected found

-- an expected method against the type under its name
abbrev pub method_part : List Entry → List Entry → Bool → Option TyRef → TyRef → List ℕ → Option (List ℕ)
method_part lower upper turned None expected found = None
method_part lower upper turned (Some type) expected found = part_at lower upper turned type expected found

-- a field, a case or a method
abbrev pub labelled_part : Labelled → List Entry → List Entry → Bool → Option TyRef → TyRef → List ℕ → Option (List ℕ)
labelled_part Field lower upper turned other type found = field_part lower upper turned other type found
labelled_part Case lower upper turned other type found = case_part lower upper turned other type found
labelled_part Method lower upper turned other type found = method_part lower upper turned other type found

-- the types under labels, each against the type under the same label in the other list
abbrev pub labelled_parts : {K : Type 0} → (K → K → Ordering) → (Option TyRef → TyRef → List ℕ → Option (List ℕ)) → List (K × TyRef) → List (K × TyRef) → List ℕ → Option (List ℕ)
labelled_parts cmp part others [] found = Some found
labelled_parts cmp part others (field ∷ fields) found =
    option_and_then (λ found. labelled_parts cmp part others fields found) (part (type_under cmp field.0 others) field.1 found)

-- the expected fields of a record
abbrev pub field_parts : List Entry → List Entry → Bool → List (ℕ × TyRef) → List (ℕ × TyRef) → List ℕ → Option (List ℕ)
field_parts lower upper turned fields expected found = labelled_parts nat_cmp (field_part lower upper turned) fields expected found

-- the cases of a variant
abbrev pub case_parts : List Entry → List Entry → Bool → List (ℕ × TyRef) → List (ℕ × TyRef) → List ℕ → Option (List ℕ)
case_parts lower upper turned cases expected found = labelled_parts nat_cmp (case_part lower upper turned) expected cases found

-- the expected methods of a service
abbrev pub method_parts : List Entry → List Entry → Bool → List (List ℕ × TyRef) → List (List ℕ × TyRef) → List ℕ → Option (List ℕ)
method_parts lower upper turned methods expected found = labelled_parts (slice_cmp nat_cmp) (method_part lower upper turned) methods expected found

-- a sequence of arguments or results
abbrev pub sequence_parts : List Entry → List Entry → Bool → List TyRef → List TyRef → List ℕ → Option (List ℕ)
sequence_parts lower upper turned types [] found = Some found
sequence_parts lower upper turned [] (expected ∷ more) found =
    option_and_then (λ found. sequence_parts lower upper turned [] more found) (verdict (may_miss (shape upper expected)) found)
sequence_parts lower upper turned (type ∷ types) (expected ∷ more) found =
    option_and_then (λ found. sequence_parts lower upper turned types more found) (part_at lower upper turned type expected found)

-- a vec, a record, a variant, a function or a service below an entry
abbrev pub vec_parts : List Entry → List Entry → Bool → TyRef → Entry → Option (List ℕ)
vec_parts lower upper turned type (Seq expected) = part_at lower upper turned type expected []
vec_parts lower upper turned type _ = None

abbrev pub record_parts : List Entry → List Entry → Bool → List (ℕ × TyRef) → Entry → Option (List ℕ)
record_parts lower upper turned fields (Rec expected) = field_parts lower upper turned fields expected []
record_parts lower upper turned fields _ = None

abbrev pub variant_parts : List Entry → List Entry → Bool → List (ℕ × TyRef) → Entry → Option (List ℕ)
variant_parts lower upper turned cases (Var expected) = case_parts lower upper turned cases expected []
variant_parts lower upper turned cases _ = None

abbrev pub func_parts : List Entry → List Entry → Bool → List TyRef → List TyRef → List ℕ → Entry → Option (List ℕ)
func_parts lower upper turned args results notes (Func args' results' notes') =
    if bytes_eq notes notes'
    then option_and_then (λ found. sequence_parts lower upper turned results results' found) (sequence_parts upper lower (not turned) args' args [])
    else None
func_parts lower upper turned args results notes _ = None

abbrev pub service_parts : List Entry → List Entry → Bool → List (List ℕ × TyRef) → Entry → Option (List ℕ)
service_parts lower upper turned methods (Service expected) = method_parts lower upper turned methods expected []
service_parts lower upper turned methods _ = None

-- an entry that is no opt below an entry that is none
abbrev pub compound_parts : List Entry → List Entry → Bool → Entry → Entry → Option (List ℕ)
compound_parts lower upper turned (Opt type) y = None
compound_parts lower upper turned (Seq type) y = vec_parts lower upper turned type y
compound_parts lower upper turned (Rec fields) y = record_parts lower upper turned fields y
compound_parts lower upper turned (Var cases) y = variant_parts lower upper turned cases y
compound_parts lower upper turned (Func args results notes) y = func_parts lower upper turned args results notes y
compound_parts lower upper turned (Service methods) y = service_parts lower upper turned methods y

-- an entry below an entry; every type is below an opt
abbrev pub entry_parts : List Entry → List Entry → Bool → Entry → Entry → Option (List ℕ)
entry_parts lower upper turned x (Opt type) = Some []
entry_parts lower upper turned x (Seq type) = compound_parts lower upper turned x (Seq type)
entry_parts lower upper turned x (Rec fields) = compound_parts lower upper turned x (Rec fields)
entry_parts lower upper turned x (Var cases) = compound_parts lower upper turned x (Var cases)
entry_parts lower upper turned x (Func args results notes) = compound_parts lower upper turned x (Func args results notes)
entry_parts lower upper turned x (Service methods) = compound_parts lower upper turned x (Service methods)

-- the same of entries that were looked up
abbrev pub looked_up_parts : List Entry → List Entry → Bool → Option Entry → Option Entry → Option (List ℕ)
looked_up_parts lower upper turned None y = None
looked_up_parts lower upper turned (Some x) None = None
looked_up_parts lower upper turned (Some x) (Some y) = entry_parts lower upper turned x y
