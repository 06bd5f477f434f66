-- What bytes are as a module and as an interface file.
use Rattle.std.specs.Prelude.{◌≡◌, ◌↔◌, ℕ, true, false, ◌≤◌, if◌then◌else◌, List, length, Option, Some, None, Result, Ok, Err}
use Rattle.wm_tree.specs.declared.parts.Module.{Module}
use Rattle.wm_decode.specs.Answer.{IsPlain}
use Rattle.wm_decode.specs.Mod.{Mod}
use Rattle.wm_valid.specs.Checked.{checked}
use Rattle.cd_did.specs.declared.fault.DidFault.{DidFault}
use Rattle.cd_did.specs.declared.fault.Interface.{Interface}
use Rattle.cd_did.specs.Interfaces.{has_service}
use Rattle.cd_did.specs.InterfaceOf.{interface_in}
use Rattle.ct_sources.specs.Files.{SourceFile}

-- the bytes are a module that passes every check, and are not too many
pub record IsWasm (bytes : List ℕ) : Type 0 where
  pub «module» : Module
  pub few : length bytes ≤ 2000000
  pub plain : IsPlain bytes
  pub is : Mod false «module» bytes
  pub valid : checked «module» ≡ None

-- the interface that a text says, if it has a service
abbrev pub served : Result Interface DidFault → Option Interface
served (Ok interface) = if has_service interface then Some interface else None
served (Err fault) = None

-- the file has these bytes, and is what they are
pub record IsSourceOf (bytes : List ℕ) (file : SourceFile) : Type 0 where
  pub same : file.bytes ≡ bytes
  pub wasm : (file.wasm ≡ true) ↔ IsWasm bytes
  pub interface : file.interface ≡ served (interface_in bytes)
