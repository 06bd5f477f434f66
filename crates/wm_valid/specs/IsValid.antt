-- What a valid module brings to those that run it; no standard has this.
use Rattle.std.specs.Prelude.{◌≡◌, ℕ, List, Some, None, map}
use Rattle.std.specs.List.{AllZip}
use Rattle.wm_tree.specs.declared.types.FuncType.{FuncType}
use Rattle.wm_tree.specs.declared.parts.Import.{Import}
use Rattle.wm_tree.specs.declared.parts.FuncCode.{FuncCode}
use Rattle.wm_tree.specs.declared.parts.Module.{Module}
use Rattle.wm_tree.specs.IsModule.{IsModule}
use Rattle.wm_typing.specs.FlatCode.{FlatCode}
use Rattle.wm_typing.specs.Runs.{IsSound}
use Rattle.wm_valid.specs.declared.system_api.SystemCall.{SystemCall}
use Rattle.wm_valid.specs.Imports.{call_of}
use Rattle.wm_valid.specs.Bodies.{definitions, context_of}
use Rattle.wm_valid.specs.Checked.{checked}

-- a module with what validation found out
pub record Validated : Type 0 where
  pub «module» : Module
  -- the call that each import is
  pub calls : List SystemCall
  -- what a machine runs by, for each function that the module defines
  pub codes : List FlatCode

abbrev pub validated : Module → List SystemCall → List FlatCode → Validated
validated m calls codes = record { «module» = m; calls = calls; codes = codes }

-- the calls are those of the imports
abbrev pub Calls : List FuncType → List Import → List SystemCall → Type 0
Calls types imports calls = map (call_of types) imports ≡ map (λ c. Some c) calls

-- a machine that goes by the code finds what it needs at each place of the body
abbrev pub Suits : Module → ℕ × FuncCode → FlatCode → Type 0
Suits m f code = IsSound (record { context = context_of m f; words = f.1.body; code = code })

-- each code suits its function
abbrev pub SuitAll : Module → List FlatCode → Type 0
SuitAll m codes = AllZip (Suits m) (definitions m) codes

pub record IsValid (v : Validated) : Type 0 where
  pub grammar : IsModule v.module
  pub passes : checked v.module ≡ None
  pub calls : Calls v.module.types v.module.imports v.calls
  pub codes : SuitAll v.module v.codes
