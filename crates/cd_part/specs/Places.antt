-- Places at which entries of a type table were met. No standard has them.
use Rattle.std.specs.Prelude.{◌≡◌, ℕ, suc, ◌==◌, List, [], ◌∷◌, map, Option, Some, None, slice_get, if◌then◌else◌}
use Rattle.std.specs.Option.{option_flatten, option_map}
use Rattle.cd_types.specs.declared.entry.TyRef.{TyRef}
use Rattle.cd_types.specs.declared.entry.TyRef.TheVariants.{Prim, Index}
use Rattle.cd_types.specs.declared.entry.Entry.{Entry}
use Rattle.cd_types.specs.declared.entry.Entry.TheVariants.{Opt, Seq, Rec, Var, Func, Service}

-- the place at which an entry was met, if it was: entries are told by their numbers, and those that
-- were met are listed in the order of meeting
abbrev pub place_of : List ℕ → ℕ → Option ℕ
place_of [] entry = None
place_of (first ∷ met) entry = if first == entry then Some 0 else option_map suc (place_of met entry)

-- what a reference is once its entry has this place, if it has one
abbrev pub placed : TyRef → Option ℕ → TyRef
placed type None = type
placed type (Some place) = Index place

-- a reference by the place at which its entry was met
abbrev pub renamed : List ℕ → TyRef → TyRef
renamed met (Prim primitive) = Prim primitive
renamed met (Index entry) = placed (Index entry) (place_of met entry)

-- the same of fields, cases and methods: the types under the labels
abbrev pub renamed_under : {K : Type 0} → List ℕ → List (K × TyRef) → List (K × TyRef)
renamed_under met rows = map (λ row. (row.0, renamed met row.1)) rows

-- an entry with such references
abbrev pub renamed_entry : List ℕ → Entry → Entry
renamed_entry met (Opt type) = Opt (renamed met type)
renamed_entry met (Seq type) = Seq (renamed met type)
renamed_entry met (Rec fields) = Rec (renamed_under met fields)
renamed_entry met (Var cases) = Var (renamed_under met cases)
renamed_entry met (Func args results notes) = Func (map (renamed met) args) (map (renamed met) results) notes
renamed_entry met (Service methods) = Service (renamed_under met methods)

-- a list that has for each entry its place, if it was met
abbrev pub HasPlaces : List (Option ℕ) → List ℕ → Type 0
HasPlaces places met = (entry : ℕ) → option_flatten (slice_get places entry) ≡ place_of met entry
