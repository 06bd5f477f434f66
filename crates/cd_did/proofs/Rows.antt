-- The definitions at known interfaces, by computing.
use Rattle.std.proofs.Common.{◌≡◌, List, [], ◌∷◌, Some, None, refl}
use Rattle.std.specs.Prelude.{codes}
use Rattle.cd_types.specs.declared.primitive.Primitive.TheVariants as primitives
use Rattle.cd_types.specs.declared.entry.Entry.{Entry}
use Rattle.cd_types.specs.declared.entry.TyRef.TheVariants as refs
use Rattle.cd_types.specs.declared.entry.Entry.TheVariants as entries
use Rattle.cd_grammar.specs.declared.written.Part.TheVariants.{Prim, Name, Place}
use Rattle.cd_grammar.specs.declared.written.Written.TheVariants.{Opt, Service}
use Rattle.cd_grammar.specs.File.{File}
use Rattle.cd_did.specs.InterfaceOf.{interface_of}
use Rattle.cd_did.specs.Methods.{methods_at, function_at, type_named}

-- `type A = opt nat; service : (A, text) -> {}`
abbrev small : File
small = record {
  types = Opt (Prim primitives.Nat) ∷ Service [] ∷ [];
  definitions = (codes "A", Place 0) ∷ [];
  main = Some (record { tuple = Name (codes "A") ∷ Prim primitives.Text ∷ []; service = Place 1 });
}

installed : (interface_of small).init ≡ refs.Index 0 ∷ refs.Prim primitives.Text ∷ []
installed = refl

-- the entries of `service : { get : (nat) -> () query }`
abbrev table : List Entry
table = entries.Func (refs.Prim primitives.Nat ∷ []) [] (1 ∷ []) ∷ entries.Service ((codes "get", refs.Index 0) ∷ []) ∷ []

methods : methods_at table (refs.Index 1) ≡ Some ((codes "get", refs.Index 0) ∷ [])
methods = refl

get : type_named ((codes "get", refs.Index 0) ∷ []) (codes "get") ≡ Some (refs.Index 0)
get = refl

set : type_named ((codes "get", refs.Index 0) ∷ []) (codes "set") ≡ None
set = refl

function : function_at table (refs.Index 0) ≡ Some (record { args = refs.Prim primitives.Nat ∷ []; results = []; notes = 1 ∷ [] })
function = refl
