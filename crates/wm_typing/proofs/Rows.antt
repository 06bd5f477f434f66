-- Small bodies, computed from the definitions.
use Rattle.std.proofs.Common.{◌≡◌, ℕ, pos, Bool, true, false, List, [], ◌∷◌, Option, Some, None, refl, lit≤}
use Rattle.wm_tree.specs.declared.types.ValType.{ValType}
use Rattle.wm_tree.specs.declared.types.ValType.TheVariants.{I32, I64}
use Rattle.wm_tree.specs.declared.types.MemArg.{MemArg}
use Rattle.wm_tree.specs.declared.instr.Instr.{Instr}
use Rattle.wm_tree.specs.declared.instr.Instr.TheVariants as i
use Rattle.wm_tree.specs.TreeOf.{tree_of}
use Rattle.wm_typing.specs.declared.op.Op.TheVariants as op
use Rattle.wm_typing.specs.Context.{Context}
use Rattle.wm_typing.specs.Typed.{is_typed}
use Rattle.wm_typing.specs.Nesting.{nesting}
use Rattle.wm_typing.specs.Ops.{ops_of}
use Rattle.wm_typing.specs.Runs.{frame_of, IsSound, branch, jump}

-- a function () -> () with a local of type i64 in a module that has a memory, a table and a type (i32) -> i64
abbrev simple : Option ValType → Context
simple result =
    record {
      types = record { params = I32 ∷ []; results = I64 ∷ [] } ∷ [];
      functions = 0 ∷ 0 ∷ [];
      hosts = 7 ∷ [];
      globals = record { kind = I32; mutable = false } ∷ record { kind = I64; mutable = true } ∷ [];
      has_table = true;
      has_memory = true;
      locals = I64 ∷ [];
      params = 0;
      result = result;
    }

abbrev typing : Option ValType → List Instr → Bool
typing result words = is_typed (simple result) (tree_of words)

abbrev one : Instr
one = i.I32Const (pos 1)

abbrev arg : ℕ → MemArg
arg align = record { align = align; offset = 0 }

nothing : typing None [] ≡ true
nothing = refl

no_result : typing (Some I32) [] ≡ false
no_result = refl

a_result : typing (Some I32) (one ∷ []) ≡ true
a_result = refl

too_many : typing None (one ∷ []) ≡ false
too_many = refl

too_few : typing None (one ∷ i.I32Add ∷ i.Drop ∷ []) ≡ false
too_few = refl

of_any_type : typing None (i.Unreachable ∷ i.I32Add ∷ i.Drop ∷ []) ≡ true
of_any_type = refl

left_behind_unreachable : typing None (i.Unreachable ∷ one ∷ []) ≡ false
left_behind_unreachable = refl

other_type : typing None (i.LocalGet 0 ∷ i.I32Eqz ∷ i.Drop ∷ []) ≡ false
other_type = refl

same_types_chosen : typing None (one ∷ one ∷ one ∷ i.Select ∷ i.Drop ∷ []) ≡ true
same_types_chosen = refl

other_types_chosen : typing None (one ∷ i.LocalGet 0 ∷ one ∷ i.Select ∷ i.Drop ∷ []) ≡ false
other_types_chosen = refl

-- a block's own operands are all that it may take
from_outside : typing None (one ∷ i.Block None ∷ i.Drop ∷ i.End ∷ []) ≡ false
from_outside = refl

loop_label : typing None (i.Loop (Some I32) ∷ i.Br 0 ∷ i.End ∷ i.Drop ∷ []) ≡ true
loop_label = refl

block_label : typing None (i.Block (Some I32) ∷ i.Br 0 ∷ i.End ∷ i.Drop ∷ []) ≡ false
block_label = refl

no_else : typing None (one ∷ i.If (Some I32) ∷ one ∷ i.End ∷ i.Drop ∷ []) ≡ false
no_else = refl

with_else : typing None (one ∷ i.If (Some I32) ∷ one ∷ i.Else ∷ one ∷ i.End ∷ i.Drop ∷ []) ≡ true
with_else = refl

-- all labels of a table take one type, also where the table can't be reached
labels_differ : typing None (i.Unreachable ∷ i.Block (Some I32) ∷ i.Unreachable ∷ i.BrTable (0 ∷ []) 1 ∷ i.End ∷ i.Drop ∷ []) ≡ false
labels_differ = refl

calls : typing (Some I64) (one ∷ i.Call 0 ∷ []) ≡ true
calls = refl

no_function : typing None (one ∷ i.Call 2 ∷ i.Drop ∷ []) ≡ false
no_function = refl

constant_global : typing None (one ∷ i.GlobalSet 0 ∷ []) ≡ false
constant_global = refl

variable_global : typing None (i.LocalGet 0 ∷ i.GlobalSet 1 ∷ []) ≡ true
variable_global = refl

natural_alignment : typing None (one ∷ i.I64Load (arg 3) ∷ i.Drop ∷ []) ≡ true
natural_alignment = refl

past_alignment : typing None (one ∷ i.I64Load (arg 4) ∷ i.Drop ∷ []) ≡ false
past_alignment = refl

two_deep : nesting (tree_of (i.Block None ∷ i.Loop None ∷ i.End ∷ i.End ∷ i.Block None ∷ i.End ∷ [])) ≡ 2
two_deep = refl

-- a branch out of a block, over an operand that goes, with one that stays
leaves_a_block : IsSound (record {
  context = simple (Some I32);
  words = i.Block (Some I32) ∷ i.LocalGet 0 ∷ one ∷ i.Br 0 ∷ i.End ∷ [];
  code = record {
    ops = op.Block ∷ op.LocalGet 0 ∷ op.I32Const (pos 1) ∷ op.Br ∷ op.End ∷ op.Finish ∷ [];
    constants = [];
    entries = jump 0 ∷ jump 0 ∷ jump 0 ∷ branch 5 0 (Some I32) ∷ jump 0 ∷ [];
    arms = [];
    frame = frame_of (simple (Some I32)) 2;
  };
})
leaves_a_block = record {
  ops = record { ops_are = refl; constants_are = refl };
  entries = refl;
  fills = refl;
  frame = refl;
  room = lit≤ tt;
  runs = (lit≤ tt, refl, (lit≤ tt, refl, (I64, refl, (lit≤ tt, refl, (_, refl, (lit≤ tt, refl, (_, refl, refl, (_, refl, tt))))))), refl, (lit≤ tt, refl));
}

-- a call of an imported function, and of the first defined one
calls_run : ops_of (simple None) 0 (i.Call 0 ∷ i.Call 1 ∷ []) ≡ op.CallHost 7 ∷ op.Call 0 ∷ op.Finish ∷ []
calls_run = refl

-- each constant of 64 bits by its place
constants_run : ops_of (simple None) 0 (i.I64Const (pos 5) ∷ i.Drop ∷ i.I64Const (pos 6) ∷ []) ≡ op.I64Const 0 ∷ op.Drop ∷ op.I64Const 1 ∷ op.Finish ∷ []
constants_run = refl

-- there is room for the result, though nothing gives it
never_ends : IsSound (record {
  context = simple (Some I32);
  words = i.Unreachable ∷ [];
  code = record { ops = op.Unreachable ∷ op.Finish ∷ []; constants = []; entries = jump 0 ∷ []; arms = []; frame = frame_of (simple (Some I32)) 1 };
})
never_ends = record { ops = record { ops_are = refl; constants_are = refl }; entries = refl; fills = refl; frame = refl; room = lit≤ tt; runs = (lit≤ tt, refl, tt) }
