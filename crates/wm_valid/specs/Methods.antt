-- The entry points that are exported, as validation keeps them; no standard has this.
use Rattle.std.specs.Prelude.{◌≡◌, ℕ, Bool, false, List, [], ◌++◌, Option, Some, None, Vec, bytes_eq, cond, option_map, find}
use Rattle.std.specs.Option.{is_some}
use Rattle.std.specs.BTreeMap.{BTreeMap, get_by}
use Rattle.std.specs.Cmp.Lexicographic.{slice_cmp}
use Rattle.std.specs.Ordering.{nat_cmp}
use Rattle.std.specs.declared.alloc.Global.{Global}
use Rattle.wm_tree.specs.declared.parts.Export.{Export}
use Rattle.wm_valid.specs.declared.entry.EntryName.TheVariants.{Init, PreUpgrade, PostUpgrade, Inspect}
use Rattle.wm_valid.specs.declared.methods.Entries.{Entries}
use Rattle.wm_valid.specs.Entries.{update_prefix, query_prefix, exported_function, entry_in}

-- what is exported under the name, if anything: the function, or that it is none
abbrev pub exported_as : List Export → List ℕ → Option (Option ℕ)
exported_as exports name = option_map (λ e. exported_function e.kind) (find (λ e. bytes_eq e.name name) exports)

-- methods by their names, each with its function
abbrev pub Methods : Type 0
Methods = BTreeMap (Vec ℕ Global) (Option ℕ)

abbrev pub found_in : Methods → List ℕ → Option (Option ℕ)
found_in methods method = get_by (λ k. slice_cmp nat_cmp method k.items) methods

abbrev pub has_rest : Methods → Option (List ℕ) → Bool
has_rest methods None = false
has_rest methods (Some method) = is_some (found_in methods method)

-- the export was added, if its name begins with the prefix
abbrev pub Gains : Methods → Methods → List ℕ → Export → Type 0
Gains old new prefix e =
    (method : List ℕ) → found_in new method ≡ cond (bytes_eq e.name (prefix ++ method)) (Some (exported_function e.kind)) (found_in old method)

-- just what is exported after the prefix
abbrev pub HasMethods : Methods → List ℕ → List Export → Type 0
HasMethods methods prefix exports = (method : List ℕ) → found_in methods method ≡ exported_as exports (prefix ++ method)

-- just the entry points among the exports
pub record HasEntries (entries : Entries) (exports : List Export) : Type 0 where
  pub init : entries.init ≡ entry_in exports Init []
  pub pre_upgrade : entries.pre_upgrade ≡ entry_in exports PreUpgrade []
  pub post_upgrade : entries.post_upgrade ≡ entry_in exports PostUpgrade []
  pub inspect : entries.inspect ≡ entry_in exports Inspect []
  pub updates : HasMethods entries.updates update_prefix exports
  pub queries : HasMethods entries.queries query_prefix exports
