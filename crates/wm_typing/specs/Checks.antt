-- What the functions that validate a body answer, beside the typing rules (WebAssembly Core 1.0, 3.3).
use Rattle.std.specs.Prelude.{◌≡◌, ◌≤◌, ◌-◌, ℕ, Bool, true, false, List, [], ◌∷◌, length, take, drop, Option, Some, None, Result, Ok, Err}
use Rattle.wm_tree.specs.declared.class.Shape.{Shape}
use Rattle.wm_tree.specs.declared.class.Shape.TheVariants as shape
use Rattle.wm_tree.specs.declared.types.ValType.{ValType}
use Rattle.wm_typing.specs.declared.operand.Operand.{Operand}
use Rattle.wm_typing.specs.declared.fault.BodyFault.{BodyFault}
use Rattle.wm_typing.specs.declared.fault.BodyFault.TheVariants as fault
use Rattle.wm_typing.specs.declared.checker.ControlFrame.{ControlFrame}
use Rattle.wm_typing.specs.Points.{Point, point, pop, ends}
use Rattle.wm_typing.specs.Flat.{Level, Levels, levels, around}

-- ---- how the stacks are seen

-- the operands above a height
abbrev pub above : ℕ → List Operand → List Operand
above height operands = take (length operands - height) operands

abbrev pub below : ℕ → List Operand → List Operand
below height operands = drop (length operands - height) operands

abbrev pub outer_levels : List Operand → List ControlFrame → List Level
outer_levels operands [] = []
outer_levels operands (f ∷ fs) =
    record { shape = f.shape; target = f.target; result = f.result; point = point (above f.height operands) f.is_unreachable }
    ∷ outer_levels (below f.height operands) fs

unfoldable pub levels_of : List Operand → ControlFrame → List ControlFrame → Levels
levels_of operands f fs =
    levels (point (above f.height operands) f.is_unreachable) (around f.shape f.target f.result (outer_levels (below f.height operands) fs))

-- the heights fall down to 0
abbrev pub Descends : ℕ → List ControlFrame → Type 0
Descends height [] = height ≡ 0
Descends height (f ∷ fs) = (f.height ≤ height) × Descends f.height fs

-- ---- what is answered

-- the fault is that nothing is defined, or memory ran out
abbrev pub Fails : {A : Type 0} → BodyFault → Option A → Type 0
Fails fault.Untyped o = o ≡ None
Fails fault.NoMemory o = Unit {0}
Fails fault.Nesting o = ⊥

-- the point becomes that one, and the blocks stay
abbrev pub Moves : {A : Type 0} → Levels → Levels → Result A BodyFault → Option Point → Type 0
Moves old new (Ok _) o = (o ≡ Some new.point) × (new.around ≡ old.around)
Moves old new (Err e) o = Fails e o

-- the topmost operand is taken away, and the blocks stay
abbrev pub Pops : Levels → Levels → Result Operand BodyFault → Type 0
Pops old new (Ok x) = (pop old.point ≡ Some (x, new.point)) × (new.around ≡ old.around)
Pops old new (Err e) = Fails e (pop old.point)

-- that value, seen by view
abbrev pub Gives : {A B : Type 0} → (A → B) → Result A BodyFault → Option B → Type 0
Gives view (Ok x) o = o ≡ Some (view x)
Gives view (Err e) o = Fails e o

-- those levels
abbrev pub Becomes : {A : Type 0} → Levels → Result A BodyFault → Option Levels → Type 0
Becomes new (Ok _) o = o ≡ Some new
Becomes new (Err e) o = Fails e o

-- the result of the innermost block was there and nothing else, and is taken
abbrev pub EndsWith : Levels → Levels → Result (Unit {0}) BodyFault → Type 0
EndsWith old new (Ok _) = (ends old.around.result old.point ≡ true) × (new.point.operands ≡ []) × (new.around ≡ old.around)
EndsWith old new (Err fault.Untyped) = ends old.around.result old.point ≡ false
EndsWith old new (Err fault.NoMemory) = Unit {0}
EndsWith old new (Err fault.Nesting) = ⊥

-- where there is a block around, its point is the point again
abbrev pub PopsFrame : List Level → Levels → Bool → Type 0
PopsFrame [] new popped = popped ≡ false
PopsFrame (l ∷ ls) new popped = (popped ≡ true) × (new ≡ levels l.point (around l.shape l.target l.result ls))

-- an `if` without `else` gives nothing
abbrev pub has_all_parts : Shape → Option ValType → Bool
has_all_parts shape.If (Some t) = false
has_all_parts shape.If None = true
has_all_parts shape.Block t = true
has_all_parts shape.Loop t = true
