-- Types that have the shape of one, where the definitions lead to these ends.
use Rattle.std.specs.Prelude.{◌≡◌, ℕ, ◌<◌, true, bytes_eq, List, map, Option, Some, None, slice_get}
use Rattle.std.specs.List.{list_all, IsDistinct}
use Rattle.cd_types.specs.declared.entry.Entry.{Entry}
use Rattle.cd_grammar.specs.declared.written.Written.{Written}
use Rattle.cd_grammar.specs.declared.written.Written.TheVariants.{Opt, Seq, Rec, Var, Func, Service}
use Rattle.cd_grammar.specs.declared.written.Main.{Main}
use Rattle.cd_grammar.specs.File.{File}
use Rattle.cd_did.specs.Faults.{AreIds, is_service, type_at_place}
use Rattle.cd_did.specs.Targets.{found_at}
use Rattle.cd_did.specs.Entries.{is_method, EntryOf}
use Rattle.std.specs.Prelude.{Bool, length}

abbrev pub IsFormed : File → List ℕ → Written → Type 0
IsFormed file ends (Opt part) = Unit {0}
IsFormed file ends (Seq part) = Unit {0}
IsFormed file ends (Rec fields) = AreIds (map (λ f. f.0) fields)
IsFormed file ends (Var cases) = AreIds (map (λ f. f.0) cases)
IsFormed file ends (Func args results notes) = Unit {0}
IsFormed file ends (Service methods) = IsDistinct bytes_eq (map (λ m. m.0) methods) × (list_all (λ m. is_method file ends m.1) methods ≡ true)

abbrev pub AllFormed : File → List ℕ → Type 0
AllFormed file ends = (i : ℕ) (w : Written) → slice_get file.types i ≡ Some w → IsFormed file ends w

-- a type of which an entry was made
abbrev pub IsMade : File → List ℕ → List Entry → ℕ → Written → Type 0
IsMade file ends made i w = ((entry : Entry) × (slice_get made i ≡ Some entry) × EntryOf file ends w entry) × IsFormed file ends w

-- the entries of the first types
abbrev pub MadeSoFar : File → List ℕ → ℕ → List Entry → Type 0
MadeSoFar file ends n made = (length made ≡ n) × ((i : ℕ) (w : Written) → i < n → slice_get file.types i ≡ Some w → IsMade file ends made i w)

-- the service is one
abbrev pub is_served : File → List ℕ → Option Main → Bool
is_served file ends None = true
is_served file ends (Some main) = is_service (type_at_place file.types (found_at file.definitions ends main.service))
