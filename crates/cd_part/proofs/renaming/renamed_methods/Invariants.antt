use Rattle.std.proofs.Common.{◌≡◌, take}
use Rattle.cd_part.specs.Places.{renamed_under}
use Rattle.cd_part.proofs.renaming.renamed_methods.Given as goal

abbrev pub invariant-loop-name : goal.invariant-loop-name
invariant-loop-name l = l.items.items ≡ renamed_under l.meeting.1 (take l.name-index l.methods)
