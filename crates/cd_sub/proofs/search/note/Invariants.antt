use Rattle.std.proofs.Common.{◌≡◌, take}
use Rattle.std.specs.List.{AllByRecursion}
use Rattle.cd_sub.specs.declared.search.Mark.TheVariants.{Holds}
use Rattle.cd_sub.specs.Marks.{Notes, mark_at}
use Rattle.cd_sub.proofs.search.note.Given as goal

-- the parts up to here are noted
abbrev pub invariant-loop-part : goal.invariant-loop-part
invariant-loop-part l =
    record {
      notes : Notes l.initial.marks l.marks l.initial.met.items l.met.items l.parts;
      noted : AllByRecursion (λ part. mark_at l.marks part ≡ Holds) (take l.part-index l.parts);
    }
