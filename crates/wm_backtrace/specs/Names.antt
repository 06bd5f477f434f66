-- What a function under way is called, and where it is in its module's bytes. The standard lets tools name a function by the name
-- section (WebAssembly Core 1.0, 7.4); the rest is this project's.
use Rattle.std.specs.Prelude.{ℕ, Bool, false, ◌-◌, ◌++◌, List, [], ◌∷◌, length, Option, Some, None, nat_eq, nat_le, cond, unwrap_or, codes, decimal}
use Rattle.std.specs.Option.{option_or}
use Rattle.wm_tree.specs.declared.listing.Listing.{Listing}
use Rattle.wm_tree.specs.declared.parts.Export.{Export}
use Rattle.wm_tree.specs.declared.parts.ExportKind.{ExportKind}
use Rattle.wm_tree.specs.declared.parts.ExportKind.TheVariants as export
use Rattle.wm_tree.specs.declared.parts.Module.{Module}
use Rattle.wm_decode.specs.Listing.{name_at_index, offset_in}
use Rattle.wm_run.specs.declared.backtrace.Site.{Site}
use Rattle.wm_backtrace.specs.declared.located.Place.{Place}

-- whether what is exported is that function
abbrev pub is_function : ℕ → ExportKind → Bool
is_function f (export.Function x) = nat_eq x f
is_function f (export.Table x) = false
is_function f (export.Memory x) = false
is_function f (export.Global x) = false

-- the first name by which that function is exported
abbrev pub exported : ℕ → List Export → Option (List ℕ)
exported f [] = None
exported f (e ∷ exports) = cond (is_function f e.kind) (Some e.name) (exported f exports)

-- the name that the name section gives to it
abbrev pub written : Option Listing → ℕ → Option (List ℕ)
written None f = None
written (Some l) f = name_at_index f l.names

-- by its number
abbrev pub numbered : ℕ → List ℕ
numbered f = codes "func[" ++ decimal f ++ codes "]"

-- by the name section, else by an export, else by its number
abbrev pub name_of : Option Listing → List Export → ℕ → List ℕ
name_of l exports f = unwrap_or (option_or (written l f) (exported f exports)) (numbered f)

-- the offset of a word, where it is kept how the module is written
abbrev pub offset_at : Option Listing → (imports function word : ℕ) → Option ℕ
offset_at None imports f w = None
offset_at (Some l) imports f w = cond (nat_le imports f) (offset_in (f - imports) w l) None

abbrev pub place_of : Option Listing → Module → Site → Place
place_of l m s = record { function = name_of l m.exports s.function; offset = offset_at l (length m.imports) s.function s.word }
