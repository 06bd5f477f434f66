-- What a text says as an interface file, as a function, which `read_interface` ties to the grammar and to what a file stands for.
use Rattle.std.specs.Prelude.{◌≡◌, ℕ, Bool, true, ◌&&◌, not, nat_eq, nat_lt, bytes_eq, if◌then◌else◌, List, [], ◌∷◌, length, map, Option, Some, None, Result, Ok, Err}
use Rattle.std.specs.List.{list_all, range_with_len}
use Rattle.std.specs.Str.{is_utf8}
use Rattle.std.specs.Cmp.Lexicographic.{slice_cmp}
use Rattle.std.specs.Ordering.{is_lt, nat_cmp}
use Rattle.std.specs.declared.cmp.Ordering.{Ordering}
use Rattle.ic_base.specs.Reader.{◌>>=◌}
use Rattle.cd_types.specs.declared.entry.TyRef.{TyRef}
use Rattle.cd_types.specs.declared.entry.Entry.{Entry}
use Rattle.cd_types.specs.declared.entry.Entry.TheVariants as entries
use Rattle.cd_tokens.specs.ReadTokens.{tokens_of}
use Rattle.cd_grammar.specs.declared.written.Written.{Written}
use Rattle.cd_grammar.specs.declared.written.Written.TheVariants.{Opt, Seq, Rec, Var, Func, Service}
use Rattle.cd_grammar.specs.File.{File}
use Rattle.cd_grammar.specs.Read.{file_at}
use Rattle.cd_did.specs.declared.fault.DidFault.{DidFault}
use Rattle.cd_did.specs.declared.fault.DidFault.TheVariants.{NotInterface, Float, Repeated, Unbound, Vacuous, Shape, TooMany, NoMemory}
use Rattle.cd_did.specs.declared.fault.Interface.{Interface}
use Rattle.cd_did.specs.Faults.{Definitions, all_parts, is_no_float, is_bound, repeated}
use Rattle.cd_did.specs.Rings.{after_steps, is_named_at, least_from}
use Rattle.cd_did.specs.Targets.{target}
use Rattle.cd_did.specs.Sorted.{row, fits}
use Rattle.cd_did.specs.Entries.{is_method}
use Rattle.cd_did.specs.Formed.{is_served}
use Rattle.cd_did.specs.Interfaces.{service_at, init_at}

-- the file that a text is
unfoldable pub file_in : List ℕ → Option File
file_in text = if is_utf8 text then (tokens_of true text >>= file_at) else None

-- for each definition the place that one comes to from it through names alone
abbrev pub ends_of : Definitions → List ℕ
ends_of definitions = map (after_steps definitions (length definitions)) (range_with_len 0 (length definitions))

-- ---- the interface of a file without a fault

-- a row put among rows whose labels rise
abbrev pub put : {K : Type 0} → (K → K → Ordering) → K × TyRef → List (K × TyRef) → List (K × TyRef)
put cmp x [] = x ∷ []
put cmp x (first ∷ rows) = if is_lt (cmp x.0 first.0) then x ∷ first ∷ rows else first ∷ put cmp x rows

-- the rows in the order of a table, in which labels rise
abbrev pub in_order : {K : Type 0} → (K → K → Ordering) → List (K × TyRef) → List (K × TyRef)
in_order cmp [] = []
in_order cmp (x ∷ rows) = put cmp x (in_order cmp rows)

-- the entry that stands for a type
abbrev pub entry_of : Definitions → List ℕ → Written → Entry
entry_of definitions ends (Opt part) = entries.Opt (target definitions ends part)
entry_of definitions ends (Seq part) = entries.Seq (target definitions ends part)
entry_of definitions ends (Rec fields) = entries.Rec (in_order nat_cmp (map (row definitions ends) fields))
entry_of definitions ends (Var cases) = entries.Var (in_order nat_cmp (map (row definitions ends) cases))
entry_of definitions ends (Func args results notes) = entries.Func (map (target definitions ends) args) (map (target definitions ends) results) notes
entry_of definitions ends (Service methods) = entries.Service (in_order (slice_cmp nat_cmp) (map (row definitions ends) methods))

-- an entry for each type that is written, the service, and the types that it is installed with
abbrev pub interface_of : File → Interface
interface_of file = record {
  table = map (entry_of file.definitions (ends_of file.definitions)) file.types;
  service = service_at file (ends_of file.definitions);
  init = init_at file (ends_of file.definitions);
}

-- ---- the fault of a file

abbrev pub are_distinct : {K : Type 0} → (K → K → Bool) → List K → Bool
are_distinct eq [] = true
are_distinct eq (x ∷ xs) = list_all (λ y. not (eq x y)) xs && are_distinct eq xs

abbrev pub are_ids : List ℕ → Bool
are_ids ids = are_distinct nat_eq ids && list_all fits ids

-- a type has the shape of one
abbrev pub is_formed : File → List ℕ → Written → Bool
is_formed file ends (Opt part) = true
is_formed file ends (Seq part) = true
is_formed file ends (Rec fields) = are_ids (map (λ f. f.0) fields)
is_formed file ends (Var cases) = are_ids (map (λ f. f.0) cases)
is_formed file ends (Func args results notes) = true
is_formed file ends (Service methods) = are_distinct bytes_eq (map (λ m. m.0) methods) && list_all (λ m. is_method file ends m.1) methods

-- each type has, and the service is one
abbrev pub are_formed : File → List ℕ → Bool
are_formed file ends = list_all (is_formed file ends) file.types && is_served file ends file.main

abbrev pub shape_fault : File → Option DidFault
shape_fault file = if are_formed file (ends_of file.definitions) then (if nat_lt 10000 (length file.types) then Some TooMany else None) else Some Shape

abbrev pub unless_vacuous : Option ℕ → Option DidFault → Option DidFault
unless_vacuous None later = later
unless_vacuous (Some place) later = Some (Vacuous place)

-- the first definition that leads back to itself is the least of the ends that are names
abbrev pub bound_fault : File → Option DidFault
bound_fault file =
    if all_parts (is_bound file.definitions) file
    then unless_vacuous (least_from (is_named_at file.definitions) None (ends_of file.definitions)) (shape_fault file)
    else Some Unbound

abbrev pub unless_repeated : Option ℕ → Option DidFault → Option DidFault
unless_repeated None later = later
unless_repeated (Some place) later = Some (Repeated place)

-- the first fault of a file in the order of `DidFault`
unfoldable pub fault_of : File → Option DidFault
fault_of file = if all_parts is_no_float file then unless_repeated (repeated [] 0 file.definitions) (bound_fault file) else Some Float

-- ---- the answer

abbrev pub unless : Option DidFault → Interface → Result Interface DidFault
unless None interface = Ok interface
unless (Some fault) interface = Err fault

abbrev pub interface_at : Option File → Result Interface DidFault
interface_at None = Err NotInterface
interface_at (Some file) = unless (fault_of file) (interface_of file)

-- the interface that a text says, or its fault
unfoldable pub interface_in : List ℕ → Result Interface DidFault
interface_in text = interface_at (file_in text)

-- the answer is what was said, unless memory ran out
abbrev pub IsAnswer : Result Interface DidFault → Result Interface DidFault → Type 0
IsAnswer (Ok interface) said = said ≡ Ok interface
IsAnswer (Err NotInterface) said = said ≡ Err NotInterface
IsAnswer (Err Float) said = said ≡ Err Float
IsAnswer (Err (Repeated place)) said = said ≡ Err (Repeated place)
IsAnswer (Err Unbound) said = said ≡ Err Unbound
IsAnswer (Err (Vacuous place)) said = said ≡ Err (Vacuous place)
IsAnswer (Err Shape) said = said ≡ Err Shape
IsAnswer (Err TooMany) said = said ≡ Err TooMany
IsAnswer (Err NoMemory) said = Unit {0}
