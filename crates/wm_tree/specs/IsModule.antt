-- What every module keeps that is read from bytes, whether it is valid or not.
use Rattle.std.specs.Prelude.{◌≡◌, ◌<◌, ◌^◌, length, All}
use Rattle.wm_tree.specs.declared.parts.Module.{Module}
use Rattle.wm_tree.specs.Seq.{IsFlat}

-- as many codes as functions, fewer than 2^32 imports, functions and exports, and words of nested blocks
pub record IsModule (m : Module) : Type 0 where
  pub counts : length m.functions ≡ length m.codes
  pub imports : length m.imports < 2 ^ 32
  pub functions : length m.functions < 2 ^ 32
  pub exports : length m.exports < 2 ^ 32
  pub bodies : All (λ c. IsFlat c.body) m.codes
  pub globals : All (λ g. IsFlat g.init) m.globals
  pub elements : All (λ e. IsFlat e.offset) m.elements
  pub segments : All (λ s. IsFlat s.offset) m.segments
