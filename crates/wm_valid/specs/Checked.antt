-- Whether a module is valid (WebAssembly Core 1.0, 3.4.10), in this profile.
use Rattle.std.specs.Prelude.{◌≡◌, Option, Some}
use Rattle.std.specs.Option.{option_or}
use Rattle.wm_tree.specs.declared.parts.Module.{Module}
use Rattle.wm_valid.specs.declared.invalid.Invalid.{Invalid}
use Rattle.wm_valid.specs.declared.invalid.Invalid.TheVariants as fault
use Rattle.wm_valid.specs.Imports.{import_fault}
use Rattle.wm_valid.specs.Indices.{index_fault}
use Rattle.wm_valid.specs.Sizes.{size_fault}
use Rattle.wm_valid.specs.Entries.{entry_fault}
use Rattle.wm_valid.specs.Bodies.{nesting_fault, typing_fault}

-- the first check that fails, or none where the module is valid
abbrev pub checked : Module → Option Invalid
checked m =
    option_or (import_fault m)
    (option_or (index_fault m)
    (option_or (size_fault m)
    (option_or (entry_fault m)
    (option_or (nesting_fault m)
    (typing_fault m)))))

-- the fault is the one that a check found, or memory ran out
abbrev pub Fails : Invalid → Option Invalid → Type 0
Fails fault.NoMemory found = Unit {0}
Fails e found = found ≡ Some e
