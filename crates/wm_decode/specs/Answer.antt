-- What `decode` answers.
use Rattle.std.specs.Prelude.{◌≡◌, ℕ, ◌<◌, ◌≤◌, Bool, true, false, List, ◌∷◌, length}
use Rattle.wm_tree.specs.declared.parts.Module.{Module}
use Rattle.wm_decode.specs.declared.fault.ModuleFault.{ModuleFault}
use Rattle.wm_decode.specs.declared.fault.ModuleFault.TheVariants as fault
use Rattle.wm_decode.specs.Mod.{Mod}

-- the largest length of a module
abbrev pub largest : ℕ
largest = 2097152

-- the first two bytes are those of gzip
abbrev pub IsCompressed : List ℕ → Type 0
IsCompressed bytes = (rest : List ℕ) × (bytes ≡ 0x1F ∷ 0x8B ∷ rest)

-- neither too large nor compressed
abbrev pub IsPlain : List ℕ → Type 0
IsPlain bytes = (length bytes ≤ largest) × (¬ IsCompressed bytes)

-- the bytes are those of some module
abbrev pub HasModule : Bool → List ℕ → Type 0
HasModule float bytes = (m : Module) × Mod float m bytes

-- what a second reading, with float forms, tells
abbrev pub RefusedAs : List ℕ → ModuleFault → Type 0
RefusedAs bytes fault.Float = HasModule true bytes
RefusedAs bytes fault.NotModule = ¬ HasModule true bytes
RefusedAs bytes fault.NoMemory = Unit {0}
RefusedAs bytes _ = ⊥

-- when each fault comes
abbrev pub Comes : List ℕ → ModuleFault → Type 0
Comes bytes fault.TooLarge = largest < length bytes
Comes bytes fault.Compressed = (length bytes ≤ largest) × IsCompressed bytes
Comes bytes fault.Float = IsPlain bytes × HasModule true bytes × (¬ HasModule false bytes)
Comes bytes fault.NotModule = IsPlain bytes × (¬ HasModule true bytes) × (¬ HasModule false bytes)
Comes bytes fault.NoMemory = Unit {0}
