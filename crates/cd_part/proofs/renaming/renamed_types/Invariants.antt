use Rattle.std.proofs.Common.{◌≡◌, map, take}
use Rattle.cd_part.specs.Places.{renamed}
use Rattle.cd_part.proofs.renaming.renamed_types.Given as goal

abbrev pub invariant-loop-ty : goal.invariant-loop-ty
invariant-loop-ty l = l.made.items ≡ map (renamed l.meeting.1) (take l.ty-index l.types)
