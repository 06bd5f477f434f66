-- Why an interface file stands for no types (Candid specification, "Core Grammar", "Type Definitions" and the conditions on types).
use Rattle.std.specs.Prelude.{◌≡◌, ℕ, zero, suc, ◌<◌, ◌^◌, Bool, true, false, ◌&&◌, ◌||◌, nat_lt, nat_eq, bytes_eq, if◌then◌else◌, List, [], ◌∷◌, ◌++◌, map, Option, Some, None, slice_get}
use Rattle.std.specs.List.{list_all, AllByRecursion, IsDistinct}
use Rattle.ic_base.specs.Reader.{◌>>=◌}
use Rattle.cd_grammar.specs.declared.written.Part.{Part}
use Rattle.cd_grammar.specs.declared.written.Part.TheVariants.{Float, Name, Place}
use Rattle.cd_grammar.specs.declared.written.Written.{Written}
use Rattle.cd_grammar.specs.declared.written.Written.TheVariants.{Opt, Seq, Rec, Var, Func, Service}
use Rattle.cd_grammar.specs.File.{File}
use Rattle.cd_grammar.specs.declared.written.Main.{Main}
use Rattle.cd_grammar.specs.Fits.{parts_of, all_in_main}

-- a test of each type that is in the file
abbrev pub all_parts : (Part → Bool) → File → Bool
all_parts test file = list_all (λ written. list_all test (parts_of written)) file.types && (list_all (λ d. test d.1) file.definitions && all_in_main test file.main)

abbrev pub is_no_float : Part → Bool
is_no_float Float = false
is_no_float _ = true

abbrev pub Definitions : Type 0
Definitions = List (List ℕ × Part)

-- what the name is defined as first
abbrev pub definition_of : Definitions → List ℕ → Option Part
definition_of [] name = None
definition_of (d ∷ definitions) name = if bytes_eq d.0 name then Some d.1 else definition_of definitions name

-- one of the definitions has the name
abbrev pub is_defined : Definitions → List ℕ → Bool
is_defined [] name = false
is_defined (d ∷ definitions) name = bytes_eq d.0 name || is_defined definitions name

abbrev pub is_bound : Definitions → Part → Bool
is_bound definitions (Name name) = is_defined definitions name
is_bound definitions _ = true

-- the place of the first definition whose name one before has; the first of `rest` is at this place
abbrev pub repeated : Definitions → ℕ → Definitions → Option ℕ
repeated before place [] = None
repeated before place (d ∷ rest) = if is_defined before d.0 then Some place else repeated (before ++ d ∷ []) (suc place) rest

-- the name that a part is
abbrev pub name_in : Part → Option (List ℕ)
name_in (Name name) = Some name
name_in _ = None

-- the name that a name is defined as
abbrev pub next_name : Definitions → List ℕ → Option (List ℕ)
next_name definitions name = definition_of definitions name >>= name_in

-- the name that one comes to by a number of definitions, each of which is a name alone
abbrev pub follow : Definitions → ℕ → List ℕ → Option (List ℕ)
follow definitions zero name = Some name
follow definitions (suc k) name = next_name definitions name >>= follow definitions k

-- the definition leads back to itself through names alone
abbrev pub LeadsBack : Definitions → List ℕ → Type 0
LeadsBack definitions name = (k : ℕ) × (follow definitions (suc k) name ≡ Some name)

-- the definition at this place leads back to itself, and none before does
abbrev pub IsVacuous : Definitions → ℕ → Type 0
IsVacuous definitions place = (d : List ℕ × Part) × (slice_get definitions place ≡ Some d) × LeadsBack definitions d.0
    × ((i : ℕ) (e : List ℕ × Part) → i < place → slice_get definitions i ≡ Some e → LeadsBack definitions e.0 → ⊥)

-- a name is replaced by its definition
abbrev pub replaced : Definitions → Part → Option Part
replaced definitions (Name name) = definition_of definitions name
replaced definitions _ = None

-- what one comes to by a number of replacements
abbrev pub replaced_times : Definitions → ℕ → Part → Option Part
replaced_times definitions zero part = Some part
replaced_times definitions (suc k) part = replaced definitions part >>= replaced_times definitions k

abbrev pub is_name : Part → Bool
is_name (Name name) = true
is_name _ = false

-- what a part is once each name is replaced by its definition
abbrev pub StandsBehind : Definitions → Part → Part → Type 0
StandsBehind definitions part found = (is_name found ≡ false) × (k : ℕ) × (replaced_times definitions k part ≡ Some found)

abbrev pub is_func : Option Written → Bool
is_func (Some (Func args results notes)) = true
is_func _ = false

abbrev pub is_service : Option Written → Bool
is_service (Some (Service methods)) = true
is_service _ = false

-- the type at the place that a part is
abbrev pub type_at_place : List Written → Part → Option Written
type_at_place types (Place place) = slice_get types place
type_at_place types _ = None

-- the part is a type that passes, once each name is replaced by its definition
abbrev pub Is : (Option Written → Bool) → File → Part → Type 0
Is test file part = (found : Part) × StandsBehind file.definitions part found × (test (type_at_place file.types found) ≡ true)

-- no id stands twice, and each is below 2^32
abbrev pub AreIds : List ℕ → Type 0
AreIds ids = IsDistinct nat_eq ids × (list_all (λ id. nat_lt id (2 ^ 32)) ids ≡ true)

-- a type has the shape of one: distinct ids below 2^32, distinct names of methods, each of which is a function
abbrev pub IsShaped : File → Written → Type 0
IsShaped file (Opt part) = Unit {0}
IsShaped file (Seq part) = Unit {0}
IsShaped file (Rec fields) = AreIds (map (λ f. f.0) fields)
IsShaped file (Var cases) = AreIds (map (λ f. f.0) cases)
IsShaped file (Func args results notes) = Unit {0}
IsShaped file (Service methods) = IsDistinct bytes_eq (map (λ m. m.0) methods) × AllByRecursion (λ m. Is is_func file m.1) methods

abbrev pub IsMainShaped : File → Option Main → Type 0
IsMainShaped file None = Unit {0}
IsMainShaped file (Some main) = Is is_service file main.service

-- each type has the shape of one, and the service is a service
abbrev pub AreShaped : File → Type 0
AreShaped file = AllByRecursion (IsShaped file) file.types × IsMainShaped file file.main
