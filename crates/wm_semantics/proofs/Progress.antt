-- A sound configuration of a valid module reduces, and stays sound.
use Rattle.std.proofs.Common.{◌≡◌, ℕ, suc, Bool, true, false, List, [], ◌∷◌, Option, refl}
use Rattle.std.specs.Prelude.{◌==◌}
use Rattle.wm_tree.specs.declared.types.ValType.{ValType}
use Rattle.wm_tree.specs.declared.instr.Instr.{Instr}
use Rattle.wm_tree.specs.declared.instr.Instr.TheVariants as op
use Rattle.wm_tree.specs.Row.{row_of}
use Rattle.wm_tree.specs.Seq.{Seq, Empty, Plain, BlockOf, LoopOf, IfOf, IfElseOf, past}
use Rattle.wm_typing.specs.Runs.{Body}
use Rattle.wm_valid.specs.IsValid.{Validated, IsValid}
use Rattle.wm_store.specs.Lists.{Lists}
use Rattle.wm_store.specs.Meaning.{meaning_of}
use Rattle.wm_store.specs.MeaningLaws.{global_kinds}
use Rattle.wm_store.proofs.MeaningTable.{meaning_is_typed}
use Rattle.wm_semantics.specs.Values.{Value}
use Rattle.wm_semantics.specs.Configs.{Label, Frame, Config}
use Rattle.wm_semantics.specs.Reduce.{reduce, leave}
use Rattle.wm_semantics.specs.Sound.{Spot, spot, SoundAt, StoreWell}
use Rattle.wm_semantics.proofs.Moves.{GoesWell, goes_well, well_as, conf, Topped}
use Rattle.wm_semantics.proofs.Blocks.{block_on, loop_on, if_top, if_taken, if_passed, if_else_top, if_else_taken, if_else_passed, block_end, frame_end, leaves}
use Rattle.wm_semantics.proofs.Arms.{drop_well, select_well, local_get_well, local_set_well, local_tee_well, br_well, br_if_well, br_table_well, return_well, call_well, indirect_well}
use Rattle.wm_semantics.proofs.Rowed.{by_class}
use Rattle.wm_semantics.proofs.Growth.{grow_well, global_get_well, global_set_well}

module _ (v : Validated) (valid : IsValid v) (s : Lists) (well : StoreWell v.module s)
    (result : Option ValType) (locals : List Value) (labels : List Label) (values : List Value) (callers : List Frame)
    (b : Body) (place : ℕ) (spots : List Spot) where
  abbrev at_rest : Seq → Config
  at_rest rest = conf result locals labels values rest callers

  abbrev At : Seq → Type 0
  At rest = SoundAt v.module (at_rest rest) (spot b place) spots []

  abbrev Well : Seq → Type 0
  Well rest = GoesWell v.module (reduce v.module s (at_rest rest) rest)

  pub plain_well : (i : Instr) (rest : Seq) → At (Plain i rest) → Well (Plain i rest)
  plain_well op.Unreachable rest at = tt
  plain_well (op.Block t) rest at = absurd at.frame.runs.2
  plain_well (op.Loop t) rest at = absurd at.frame.runs.2
  plain_well (op.If t) rest at = absurd at.frame.runs.2
  plain_well op.Else rest at = absurd at.frame.runs.2
  plain_well op.End rest at = absurd at.frame.runs.2
  plain_well (op.Br l) rest at = br_well v valid s well result locals labels values callers b place spots rest l at
  plain_well (op.BrIf l) rest at = br_if_well v valid s well result locals labels values callers b place spots rest l at
  plain_well (op.BrTable ls l) rest at = br_table_well v valid s well result locals labels values callers b place spots rest ls l at
  plain_well op.Return rest at = return_well v valid s well result locals labels values callers b place spots rest at
  plain_well (op.Call f) rest at = call_well v valid s well result locals labels values callers b place spots rest f at
  plain_well (op.CallIndirect t) rest at = indirect_well v valid s well result locals labels values callers b place spots rest t at
  plain_well op.Drop rest at = drop_well v valid s well result locals labels values callers b place spots rest at
  plain_well op.Select rest at = select_well v valid s well result locals labels values callers b place spots rest at
  plain_well (op.LocalGet x) rest at = local_get_well v valid s well result locals labels values callers b place spots rest x at
  plain_well (op.LocalSet x) rest at = local_set_well v valid s well result locals labels values callers b place spots rest x at
  plain_well (op.LocalTee x) rest at = local_tee_well v valid s well result locals labels values callers b place spots rest x at
  plain_well (op.GlobalGet x) rest at = global_get_well v.module s well result locals labels values callers b place spots rest x at
  plain_well (op.GlobalSet x) rest at = global_set_well v.module s well result locals labels values callers b place spots rest x at
  plain_well op.MemoryGrow rest at = grow_well v.module s well result locals labels values callers b place spots rest at
  plain_well i rest at =
      by_class v.module s well result locals labels values callers b place spots rest i at (row_of i).class (meaning_of (global_kinds v.module) i) tt refl refl (meaning_is_typed (global_kinds v.module) i) at.frame.runs.2

  end_well : (ls : List Label) → SoundAt v.module (conf result locals ls values Empty callers) (spot b place) spots []
      → GoesWell v.module (reduce v.module s (conf result locals ls values Empty callers) Empty)
  end_well [] at =
      let e = frame_end v.module s result locals values callers (spot b place) spots at in
      well_as v.module _ (leave s values callers) e.0 (leaves v.module s result values callers spots well e.1 at.waiting)
  end_well (l ∷ ls) at =
      let e = block_end v.module s well result locals ls values callers b place spots l at in
      goes_well v.module _ s _ (spot b e.0) spots e.2

  if_well : (t : Option ValType) (body rest : Seq) (at : At (IfOf t body rest)) (d : Topped at.frame.runs.4.0 values) (test : Bool) → (d.number == 0) ≡ test → Well (IfOf t body rest)
  if_well t body rest at d false e =
      goes_well v.module _ s _ (spot b (suc place)) spots (if_taken v.module s well result locals labels values callers b place spots t body rest at d e)
  if_well t body rest at d true e =
      goes_well v.module _ s _ (spot b (suc (past body (suc place)))) spots (if_passed v.module s well result locals labels values callers b place spots t body rest at d e)

  if_else_well : (t : Option ValType) (body other rest : Seq) (at : At (IfElseOf t body other rest)) (d : Topped at.frame.runs.6.0 values) (test : Bool) → (d.number == 0) ≡ test → Well (IfElseOf t body other rest)
  if_else_well t body other rest at d false e =
      goes_well v.module _ s _ (spot b (suc place)) spots (if_else_taken v.module s well result locals labels values callers b place spots t body other rest at d e)
  if_else_well t body other rest at d true e =
      goes_well v.module _ s _ (spot b (suc (past body (suc place)))) spots (if_else_passed v.module s well result locals labels values callers b place spots t body other rest at d e)

  pub sequence_well : (rest : Seq) → At rest → Well rest
  sequence_well Empty at = end_well labels at
  sequence_well (Plain i rest) at = plain_well i rest at
  sequence_well (BlockOf t body rest) at =
      goes_well v.module _ s _ (spot b (suc place)) spots (block_on v.module s well result locals labels values callers b place spots t body rest at)
  sequence_well (LoopOf t body rest) at =
      goes_well v.module _ s _ (spot b (suc place)) spots (loop_on v.module s well result locals labels values callers b place spots t body rest at)
  sequence_well (IfOf t body rest) at =
      let d = if_top v.module s well result locals labels values callers b place spots t body rest at in
      if_well t body rest at d (d.number == 0) refl
  sequence_well (IfElseOf t body other rest) at =
      let d = if_else_top v.module s well result locals labels values callers b place spots t body other rest at in
      if_else_well t body other rest at d (d.number == 0) refl

-- the reduction of a sound configuration
pub reduces_well : (v : Validated) (s : Lists) (c : Config) (here : Spot) (spots : List Spot) → IsValid v → StoreWell v.module s → SoundAt v.module c here spots []
    → GoesWell v.module (reduce v.module s c c.frame.rest)
reduces_well v s c here spots valid well at =
    sequence_well v valid s well c.frame.result c.frame.locals c.frame.labels c.frame.values c.callers here.body here.place spots c.frame.rest at
