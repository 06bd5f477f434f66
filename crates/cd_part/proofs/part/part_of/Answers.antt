use Rattle.std.proofs.Common.{List, arith}
use Rattle.cd_types.specs.declared.entry.TyRef.{TyRef}
use Rattle.cd_types.specs.declared.entry.Entry.{Entry}
use Rattle.cd_part.specs.IsPart.{IsPart}
use Rattle.cd_part.proofs.PartLaws.{part_inside, part_types}
use Rattle.cd_part.proofs.PartValues.{same_values}
use Rattle.cd_part.proofs.part.part_of.Goals as goal

pub of-requires : goal.of-requires
of-requires c =
    let part : List Entry × List TyRef = (c.in_ok-entries.entries, c.in_ok-entries.references.items) in
    record {
      inside = part_inside c.args.table.now c.args.types.now part c.in_ok-entries.ensures;
      few = omega (arith, part_types c.args.table.now c.args.types.now part c.in_ok-entries.ensures);
    }

pub returns-clause-values : goal.returns-clause-values
returns-clause-values c =
    let part : List Entry × List TyRef = (c.in_ok-entries.entries, c.in_ok-entries.references.items) in
    let is : IsPart c.args.table.now c.args.types.now part = c.in_ok-entries.ensures in
    λ values. rw c.of.ensures (same_values c.args.table.now c.args.types.now part is values)
