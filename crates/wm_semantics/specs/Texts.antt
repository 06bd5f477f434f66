-- The texts of traps.
use Rattle.std.specs.Prelude.{ℕ, List, codes}
use Rattle.wm_semantics.specs.declared.trap.Trap.{Trap}
use Rattle.wm_semantics.specs.declared.trap.Trap.TheVariants as trap

abbrev pub text_of : Trap → List ℕ
text_of trap.Unreachable = codes "unreachable"
text_of trap.DivideByZero = codes "division by zero"
text_of trap.Overflow = codes "integer overflow"
text_of trap.MemoryBounds = codes "memory out of bounds"
text_of trap.TableBounds = codes "table out of bounds"
text_of trap.Uninitialised = codes "uninitialised element"
text_of trap.Signature = codes "signature mismatch"
text_of trap.Depth = codes "call depth"
text_of trap.Limit = codes "instruction limit"
text_of trap.Api = codes "system call"
text_of (trap.Explicit message) = message
