-- The methods of a service (Candid specification, "Core Grammar": services).
use Rattle.std.specs.Prelude.{◌≡◌, ℕ, bytes_eq, if◌then◌else◌, List, [], ◌∷◌, Option, Some, None, slice_get}
use Rattle.std.specs.List.{Contains}
use Rattle.ic_base.specs.Reader.{◌>>=◌}
use Rattle.cd_types.specs.declared.entry.TyRef.{TyRef}
use Rattle.cd_types.specs.declared.entry.TyRef.TheVariants.{Prim, Index}
use Rattle.cd_types.specs.declared.entry.Entry.{Entry}
use Rattle.cd_types.specs.declared.entry.Entry.TheVariants.{Func, Service}
use Rattle.cd_types.specs.Shape.{compound, shape}
use Rattle.cd_did.specs.declared.fault.Interface.{Interface}

-- a function type: its arguments, its results, and its annotations
pub record Function : Type 0 where
  pub args : List TyRef
  pub results : List TyRef
  pub notes : List ℕ

-- the service has a method of this name, whose type is this function
pub record IsMethod (interface : Interface) (name : List ℕ) (function : Function) : Type 0 where
  pub service : TyRef
  pub methods : List (List ℕ × TyRef)
  pub type : TyRef
  pub served : interface.service ≡ Some service
  pub has_methods : shape interface.table service ≡ compound (Service methods)
  pub among : Contains methods (name, type)
  pub is : shape interface.table type ≡ compound (Func function.args function.results function.notes)

-- ---- the same as functions

-- the entry that a reference names
abbrev pub entry_at : List Entry → TyRef → Option Entry
entry_at table (Prim p) = None
entry_at table (Index i) = slice_get table i

abbrev pub methods_of : Entry → Option (List (List ℕ × TyRef))
methods_of (Service methods) = Some methods
methods_of _ = None

abbrev pub function_of : Entry → Option Function
function_of (Func args results notes) = Some (record { args = args; results = results; notes = notes })
function_of _ = None

abbrev pub methods_at : List Entry → TyRef → Option (List (List ℕ × TyRef))
methods_at table service = entry_at table service >>= methods_of

abbrev pub function_at : List Entry → TyRef → Option Function
function_at table type = entry_at table type >>= function_of

-- the type of the first method with the name
abbrev pub type_named : List (List ℕ × TyRef) → List ℕ → Option TyRef
type_named [] name = None
type_named (m ∷ methods) name = if bytes_eq m.0 name then Some m.1 else type_named methods name

-- the method of an interface with a name
abbrev pub method_in : Interface → List ℕ → Option Function
method_in interface name = do
  service ← interface.service
  methods ← methods_at interface.table service
  type ← type_named methods name
  function_at interface.table type
