-- The shapes of signatures in the table of instructions; the topmost operand is first.
use Rattle.std.specs.Prelude.{ℕ, Option, Some, None}
use Rattle.wm_tree.specs.declared.types.ValType.{ValType}
use Rattle.wm_tree.specs.declared.types.ValType.TheVariants.{I32}
use Rattle.wm_tree.specs.declared.types.MemArg.{MemArg}
use Rattle.wm_tree.specs.declared.class.Signature.{Signature}
use Rattle.wm_tree.specs.declared.class.Class.{Class}
use Rattle.wm_tree.specs.declared.class.Class.TheVariants.{Access}

-- at most two operands and at most one result
abbrev pub signature : Option ValType → Option ValType → Option ValType → Signature
signature first second gives = record { first = first; second = second; third = None; gives = gives }

abbrev pub nothing : Signature
nothing = signature None None None

abbrev pub constant : ValType → Signature
constant t = signature None None (Some t)

abbrev pub unary : ValType → Signature
unary t = signature (Some t) None (Some t)

abbrev pub binary : ValType → Signature
binary t = signature (Some t) (Some t) (Some t)

abbrev pub test : ValType → Signature
test t = signature (Some t) None (Some I32)

abbrev pub comparison : ValType → Signature
comparison t = signature (Some t) (Some t) (Some I32)

abbrev pub conversion : ValType → ValType → Signature
conversion from to = signature (Some from) None (Some to)

-- a copy takes a size, where from and where to; a fill a size, a value and where to
abbrev pub range_write : Signature
range_write = record { first = Some I32; second = Some I32; third = Some I32; gives = None }

-- a load takes an address and gives a value
abbrev pub load : ValType → MemArg → ℕ → Class
load t arg natural = Access (conversion I32 t) arg natural

-- a store takes a value, and an address below it
abbrev pub store : ValType → MemArg → ℕ → Class
store t arg natural = Access (signature (Some t) (Some I32) None) arg natural
