-- Validation of a body by its nested blocks (WebAssembly Core 1.0, 3.3). Each point fixes the next,
-- so a body has a typing exactly where these functions go through it.
use Rattle.std.specs.Prelude.{◌≡◌, ℕ, Bool, true, false, List, [], ◌∷◌, Option, Some, None, nat_le, slice_get, ◌&&◌, cond}
use Rattle.std.specs.List.{list_all}
use Rattle.ic_base.specs.Reader.{◌>>=◌}
use Rattle.wm_tree.specs.declared.types.ValType.{ValType}
use Rattle.wm_tree.specs.declared.types.ValType.TheVariants.{I32}
use Rattle.wm_tree.specs.declared.types.FuncType.{FuncType}
use Rattle.wm_tree.specs.declared.class.Signature.{Signature}
use Rattle.wm_tree.specs.declared.class.Class.{Class}
use Rattle.wm_tree.specs.declared.class.Class.TheVariants.{Fixed, Memory, Access, Special}
use Rattle.wm_tree.specs.declared.instr.Instr.{Instr}
use Rattle.wm_tree.specs.declared.instr.Instr.TheVariants as op
use Rattle.wm_tree.specs.Row.{row_of}
use Rattle.wm_tree.specs.Seq.{Seq, Empty, Plain, BlockOf, LoopOf, IfOf, IfElseOf}
use Rattle.wm_tree.specs.TreeOf.{tree_of}
use Rattle.wm_typing.specs.declared.operand.Operand.TheVariants.{Known}
use Rattle.wm_typing.specs.Context.{Context, type_of, indirect_type}
use Rattle.wm_typing.specs.Points.{Point, start, unreachable, same_type, common, pop, take, take_maybe, take_all, give, give_maybe, give_all, ends, ends_well}

-- ---- one instruction; a label is the type that a branch to it takes, the innermost first

abbrev pub by_signature : Signature → Point → Option Point
by_signature s p = do
  p1 ← take_maybe s.first p
  p2 ← take_maybe s.second p1
  p3 ← take_maybe s.third p2
  Some (give_maybe s.gives p3)

abbrev pub by_type : FuncType → Point → Option Point
by_type f p = do
  q ← take_all f.params p
  Some (give_all f.results q)

abbrev pub select : Point → Option Point
select p = do
  p1 ← take I32 p
  x ← pop p1
  y ← pop x.1
  t ← common x.0 y.0
  Some (give t y.1)

-- whether a label is there and takes that type
abbrev pub label_has : Option ValType → Option (Option ValType) → Bool
label_has t None = false
label_has None (Some None) = true
label_has None (Some (Some u)) = false
label_has (Some t) (Some None) = false
label_has (Some t) (Some (Some u)) = same_type t u

abbrev pub branch_table : List (Option ValType) → List ℕ → ℕ → Point → Option Point
branch_table labels ls other p = do
  p1 ← take I32 p
  t ← slice_get labels other
  _ ← take_maybe t p1
  cond (list_all (λ l. label_has t (slice_get labels l)) ls) (Some unreachable) None

abbrev pub branch_if : List (Option ValType) → ℕ → Point → Option Point
branch_if labels l p = do
  p1 ← take I32 p
  t ← slice_get labels l
  p2 ← take_maybe t p1
  Some (give_maybe t p2)

-- a `br` or a `return`, which takes that type
abbrev pub leaving : Option ValType → Point → Option Point
leaving t p = do
  _ ← take_maybe t p
  Some unreachable

abbrev pub indirect : FuncType → Point → Option Point
indirect t p = do
  q ← take I32 p
  by_type t q

-- the instructions for locals and globals (3.3.3)
abbrev pub variable : Context → Instr → Point → Option Point
variable context (op.LocalGet n) p = do
  t ← slice_get context.locals n
  Some (give (Known t) p)
variable context (op.LocalSet n) p = do
  t ← slice_get context.locals n
  take t p
variable context (op.LocalTee n) p = do
  t ← slice_get context.locals n
  q ← take t p
  Some (give (Known t) q)
variable context (op.GlobalGet n) p = do
  g ← slice_get context.globals n
  Some (give (Known g.kind) p)
variable context (op.GlobalSet n) p = do
  g ← slice_get context.globals n
  cond g.mutable (take g.kind p) None
variable context _ p = None

-- an instruction with a rule of its own
abbrev pub special : Context → List (Option ValType) → Instr → Point → Option Point
special context labels op.Unreachable p = Some unreachable
special context labels (op.Br l) p = do
  t ← slice_get labels l
  leaving t p
special context labels (op.BrIf l) p = branch_if labels l p
special context labels (op.BrTable ls other) p = branch_table labels ls other p
special context labels op.Return p = leaving context.result p
special context labels (op.Call f) p = do
  t ← type_of context f
  by_type t p
special context labels (op.CallIndirect n) p = do
  t ← indirect_type context n
  indirect t p
special context labels op.Drop p = do
  x ← pop p
  Some x.1
special context labels op.Select p = select p
special context labels i p = variable context i p

-- an instruction of that class
abbrev pub plain : Context → List (Option ValType) → Class → Instr → Point → Option Point
plain context labels (Fixed s) i p = by_signature s p
plain context labels (Memory s) i p = cond context.has_memory (by_signature s p) None
plain context labels (Access s arg natural) i p =
    cond (context.has_memory && nat_le arg.align natural) (by_signature s p) None
plain context labels Special i p = special context labels i p
plain context labels _ i p = None

-- ---- sequences

-- the point after a sequence; blocks have labels and points of their own
abbrev pub typed : Context → List (Option ValType) → Seq → Point → Option Point
typed context labels Empty p = Some p
typed context labels (Plain i rest) p = do
  q ← plain context labels (row_of i).class i p
  typed context labels rest q
typed context labels (BlockOf t body rest) p =
    cond (ends_well t (typed context (t ∷ labels) body start)) (typed context labels rest (give_maybe t p)) None
typed context labels (LoopOf t body rest) p =
    cond (ends_well t (typed context (None ∷ labels) body start)) (typed context labels rest (give_maybe t p)) None
typed context labels (IfOf t body rest) p = do
  q ← take I32 p
  cond (ends_well t (typed context (t ∷ labels) body start) && ends t start) (typed context labels rest (give_maybe t q)) None
typed context labels (IfElseOf t body other rest) p = do
  q ← take I32 p
  cond (ends_well t (typed context (t ∷ labels) body start) && ends_well t (typed context (t ∷ labels) other start))
      (typed context labels rest (give_maybe t q))
      None

-- the body has a typing: its label and its end have the function's result
abbrev pub is_typed : Context → Seq → Bool
is_typed context body = ends_well context.result (typed context (context.result ∷ []) body start)

abbrev pub Typed : Context → List Instr → Type 0
Typed context words = is_typed context (tree_of words) ≡ true
