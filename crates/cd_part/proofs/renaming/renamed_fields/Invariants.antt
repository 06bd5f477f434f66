use Rattle.std.proofs.Common.{◌≡◌, take}
use Rattle.cd_part.specs.Places.{renamed_under}
use Rattle.cd_part.proofs.renaming.renamed_fields.Given as goal

abbrev pub invariant-loop-id : goal.invariant-loop-id
invariant-loop-id l = l.items.items ≡ renamed_under l.meeting.1 (take l.id-index l.fields)
