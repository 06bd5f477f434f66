-- What a width allows.
use Rattle.std.specs.Prelude.{ℕ}
use Rattle.std.specs.Int.{w32, w64, w128}
use Rattle.std.specs.Int as integer
use Rattle.ic_leb.specs.declared.width.Width.{Width}
use Rattle.ic_leb.specs.declared.width.Width.TheVariants.{Wasm32, Wasm64, Candid}

-- the bits of its numbers
abbrev pub bits : Width → ℕ
bits Wasm32 = 32
bits Wasm64 = 64
bits Candid = 128

-- the integer types that have these bits
abbrev pub int_width : Width → integer.Width
int_width Wasm32 = w32
int_width Wasm64 = w64
int_width Candid = w128

-- the most bytes of one number: for WebAssembly the bits by 7, rounded up; for Candid a limit of this replica
abbrev pub most_bytes : Width → ℕ
most_bytes Wasm32 = 5
most_bytes Wasm64 = 10
most_bytes Candid = 24
