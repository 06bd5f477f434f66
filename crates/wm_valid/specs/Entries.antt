-- Entry points (IC Interface Specification, "Entry points"): the exports that a canister is
-- called by.
use Rattle.std.specs.Prelude.{ℕ, Bool, false, not, ◌&&◌, ◌||◌, List, [], ◌∷◌, ◌++◌, ◌+◌, length, take, drop, Option, Some, None, codes, bytes_eq, nat_eq, if◌then◌else◌, option_map, find}
use Rattle.std.specs.List.{list_any, starts_with}
use Rattle.ic_base.specs.Reader.{◌>>=◌}
use Rattle.wm_tree.specs.declared.parts.ExportKind.{ExportKind}
use Rattle.wm_tree.specs.declared.parts.ExportKind.TheVariants as export
use Rattle.wm_tree.specs.declared.parts.Export.{Export}
use Rattle.wm_tree.specs.declared.parts.Module.{Module}
use Rattle.wm_valid.specs.declared.entry.EntryName.{EntryName}
use Rattle.wm_valid.specs.declared.entry.EntryName.TheVariants.{Init, PreUpgrade, PostUpgrade, Inspect, Update, Query}
use Rattle.wm_valid.specs.declared.invalid.Invalid.{Invalid}
use Rattle.wm_valid.specs.declared.invalid.Invalid.TheVariants as fault
use Rattle.wm_valid.specs.Space.{type_of}
use Rattle.wm_valid.specs.Indices.{is_procedure}

-- ---- names

abbrev pub update_prefix : List ℕ
update_prefix = codes "canister_update "

abbrev pub query_prefix : List ℕ
query_prefix = codes "canister_query "

-- the name that an entry point is exported under; of a method the prefix, and the method
-- whatever it is
abbrev pub name_of : EntryName → List ℕ → List ℕ
name_of Init method = codes "canister_init"
name_of PreUpgrade method = codes "canister_pre_upgrade"
name_of PostUpgrade method = codes "canister_post_upgrade"
name_of Inspect method = codes "canister_inspect_message"
name_of Update method = update_prefix ++ method
name_of Query method = query_prefix ++ method

-- what follows the prefix
abbrev pub strip_prefix : List ℕ → List ℕ → Option (List ℕ)
strip_prefix prefix name =
    if starts_with nat_eq name prefix then Some (drop (length prefix) name) else None

-- whether an entry point has the name
abbrev pub is_entry_name : List ℕ → Bool
is_entry_name name =
    bytes_eq name (name_of Init [])
    || bytes_eq name (name_of PreUpgrade [])
    || bytes_eq name (name_of PostUpgrade [])
    || bytes_eq name (name_of Inspect [])
    || starts_with nat_eq name update_prefix
    || starts_with nat_eq name query_prefix

-- whether something is exported under the name
abbrev pub exports_name : List Export → List ℕ → Bool
exports_name exports name = list_any (λ e. bytes_eq e.name name) exports

-- ---- what is wrong with an export

-- a function () -> ()
abbrev pub is_entry_kind : Module → ExportKind → Bool
is_entry_kind m (export.Function index) = is_procedure (type_of m index)
is_entry_kind m (export.Table index) = false
is_entry_kind m (export.Memory index) = false
is_entry_kind m (export.Global index) = false

-- the names that begin with `canister_` are for entry points
abbrev pub is_misnamed : Module → Export → Bool
is_misnamed m e =
    starts_with nat_eq e.name (codes "canister_")
    && not (is_entry_name e.name && is_entry_kind m e.kind)

-- whether there is a method, and something is exported under the other prefix with it
abbrev pub has_other : List Export → List ℕ → Option (List ℕ) → Bool
has_other exports prefix None = false
has_other exports prefix (Some method) = exports_name exports (prefix ++ method)

-- the method is an update and a query
abbrev pub is_both : List Export → List ℕ → Bool
is_both exports name =
    has_other exports query_prefix (strip_prefix update_prefix name)
    || has_other exports update_prefix (strip_prefix query_prefix name)

abbrev pub is_wrong : Module → Export → Bool
is_wrong m e = is_misnamed m e || is_both m.exports e.name

-- the export at that place repeats an earlier name, or is wrong by its own name
abbrev pub is_bad_export : Module → ℕ → Export → Bool
is_bad_export m place e = exports_name (take place m.exports) e.name || is_wrong m e

-- the least export that fails, from one at that place on
abbrev pub least_bad : Module → ℕ → List Export → Option ℕ
least_bad m place [] = None
least_bad m place (e ∷ more) =
    if is_bad_export m place e then Some place else least_bad m (place + 1) more

abbrev pub entry_fault : Module → Option Invalid
entry_fault m = option_map (λ n. fault.Entry n) (least_bad m 0 m.exports)

-- ---- the entry points of a module

abbrev pub exported_function : ExportKind → Option ℕ
exported_function (export.Function index) = Some index
exported_function (export.Table index) = None
exported_function (export.Memory index) = None
exported_function (export.Global index) = None

-- the function that is exported under the name
abbrev pub function_named : List Export → List ℕ → Option ℕ
function_named exports name = do
  e ← find (λ e. bytes_eq e.name name) exports
  exported_function e.kind

-- the function that is exported as that entry point
abbrev pub entry_in : List Export → EntryName → List ℕ → Option ℕ
entry_in exports kind method = function_named exports (name_of kind method)

abbrev pub entry_of : Module → EntryName → List ℕ → Option ℕ
entry_of m kind method = entry_in m.exports kind method
