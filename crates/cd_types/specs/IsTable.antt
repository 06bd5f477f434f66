-- Candid specification, "Type Table"
use Rattle.std.specs.Prelude.{ℕ, Bool, true, false, ◌&&◌, List, length, Option, Some, None, slice_get, nat_le}
use Rattle.std.specs.List.{list_all}
use Rattle.cd_types.specs.declared.entry.TyRef.{TyRef}
use Rattle.cd_types.specs.declared.entry.TyRef.TheVariants.{Prim, Index}
use Rattle.cd_types.specs.declared.entry.Entry.{Entry}
use Rattle.cd_types.specs.declared.entry.Entry.TheVariants.{Opt, Seq, Rec, Var, Func, Service}
use Rattle.cd_types.specs.IsInside.{is_inside}
use Rattle.cd_types.specs.References.{references}
use Rattle.cd_types.specs.IsOrdered.{is_ordered}

-- each type that the entry names is inside a table of this many entries
abbrev pub names_inside : ℕ → Entry → Bool
names_inside count entry = list_all (is_inside count) (references entry)

-- the entry is there and is a function
abbrev pub is_func : Option Entry → Bool
is_func None = false
is_func (Some (Opt type)) = false
is_func (Some (Seq type)) = false
is_func (Some (Rec fields)) = false
is_func (Some (Var cases)) = false
is_func (Some (Func args results notes)) = true
is_func (Some (Service methods)) = false

-- the type is a function of the table
abbrev pub is_func_at : List Entry → TyRef → Bool
is_func_at entries (Prim primitive) = false
is_func_at entries (Index index) = is_func (slice_get entries index)

-- the methods of a service are functions
abbrev pub has_funcs : List Entry → Entry → Bool
has_funcs entries (Opt type) = true
has_funcs entries (Seq type) = true
has_funcs entries (Rec fields) = true
has_funcs entries (Var cases) = true
has_funcs entries (Func args results notes) = true
has_funcs entries (Service methods) = list_all (λ m. is_func_at entries m.1) methods

-- an entry of a well formed table
abbrev pub is_well_formed : List Entry → Entry → Bool
is_well_formed entries entry = names_inside (length entries) entry && is_ordered entry && has_funcs entries entry

-- at most 10,000 entries, each well formed
abbrev pub is_table : List Entry → Bool
is_table entries = nat_le (length entries) 10000 && list_all (is_well_formed entries) entries
