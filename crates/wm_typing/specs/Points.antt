-- The types of the operands at a point of a body (WebAssembly Core 1.0, 3.3), counted from the start
-- of the block around it. The topmost operand is first.
use Rattle.std.specs.Prelude.{Bool, true, false, List, [], ◌∷◌, Option, Some, None, cond}
use Rattle.ic_base.specs.Reader.{◌>>=◌}
use Rattle.wm_tree.specs.declared.types.ValType.{ValType}
use Rattle.wm_tree.specs.declared.types.ValType.TheVariants.{I32, I64}
use Rattle.wm_typing.specs.declared.operand.Operand.{Operand}
use Rattle.wm_typing.specs.declared.operand.Operand.TheVariants.{Known, Any}

-- the list is open after an instruction that never goes on: below its operands stand any others
pub record Point : Type 0 where
  pub operands : List Operand
  pub is_open : Bool

abbrev pub point : List Operand → Bool → Point
point operands is_open = record { operands = operands; is_open = is_open }

-- where a block or a body starts
abbrev pub start : Point
start = point [] false

-- after `unreachable`, `br`, `br_table` and `return`
abbrev pub unreachable : Point
unreachable = point [] true

-- ---- types

abbrev pub same_type : ValType → ValType → Bool
same_type I32 I32 = true
same_type I64 I64 = true
same_type I32 I64 = false
same_type I64 I32 = false

-- whether the operand may be where one of the type is wanted
abbrev pub fits : ValType → Operand → Bool
fits t Any = true
fits t (Known u) = same_type t u

-- the one type that two operands have
abbrev pub common : Operand → Operand → Option Operand
common Any y = Some y
common (Known t) y = cond (fits t y) (Some (Known t)) None

-- ---- taking and giving

-- the topmost operand, and the point without it
abbrev pub popped : List Operand → Bool → Option (Operand × Point)
popped (x ∷ xs) is_open = Some (x, point xs is_open)
popped [] true = Some (Any, point [] true)
popped [] false = None

abbrev pub pop : Point → Option (Operand × Point)
pop p = popped p.operands p.is_open

abbrev pub take : ValType → Point → Option Point
take t p = pop p >>= λ x. cond (fits t x.0) (Some x.1) None

abbrev pub take_maybe : Option ValType → Point → Option Point
take_maybe None p = Some p
take_maybe (Some t) p = take t p

-- the last of the types is the topmost operand's
abbrev pub take_all : List ValType → Point → Option Point
take_all [] p = Some p
take_all (t ∷ ts) p = take_all ts p >>= take t

abbrev pub give : Operand → Point → Point
give x p = point (x ∷ p.operands) p.is_open

abbrev pub give_maybe : Option ValType → Point → Point
give_maybe None p = p
give_maybe (Some t) p = give (Known t) p

-- the last of the types becomes the topmost operand's
abbrev pub give_all : List ValType → Point → Point
give_all [] p = p
give_all (t ∷ ts) p = give_all ts (give (Known t) p)

-- ---- the end of a block

abbrev pub has_none : List Operand → Bool
has_none [] = true
has_none (x ∷ xs) = false

abbrev pub is_empty : Option Point → Bool
is_empty None = false
is_empty (Some p) = has_none p.operands

-- whether a block of that result may end here: the result is there, and nothing else
abbrev pub ends : Option ValType → Point → Bool
ends t p = is_empty (take_maybe t p)

abbrev pub ends_well : Option ValType → Option Point → Bool
ends_well t None = false
ends_well t (Some p) = ends t p
