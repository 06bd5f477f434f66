use Rattle.std.proofs.Common.{◌≡◌, ◌-◌}
use Rattle.cd_types.specs.declared.primitive.Primitive.TheVariants.{Nat8}
use Rattle.cd_types.specs.declared.entry.TyRef.TheVariants.{Prim}
use Rattle.ct_values.specs.Steps.{reading}
use Rattle.ct_values.specs.Spelled.{annotated_at, parts_at, byte_at}
use Rattle.ct_values.proofs.reader.Reader.bytes.Given as goal

-- what is still to be read is what is read in all
abbrev pub invariant-loop-depth : goal.invariant-loop-depth
invariant-loop-depth l =
    let read = annotated_at (Prim Nat8) (byte_at l.self.admitted l.depth) in
    parts_at read (l.most - l.count) l.count (reading l.cursor) ≡ parts_at read l.most 0 (reading l.fn.cursor)

abbrev pub decreases-loop-depth : goal.decreases-loop-depth
decreases-loop-depth l = l.most - l.count
