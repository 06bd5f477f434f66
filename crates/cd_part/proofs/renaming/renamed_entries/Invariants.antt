use Rattle.std.proofs.Common.{◌≡◌, map, take, Some}
use Rattle.std.specs.Prelude.{slice_get}
use Rattle.std.specs.Option.{option_map}
use Rattle.cd_part.specs.Places.{renamed_entry}
use Rattle.cd_part.proofs.renaming.renamed_entries.Given as goal

-- the first of the entries that were met
abbrev pub invariant-loop-number : goal.invariant-loop-number
invariant-loop-number l = map (λ number. option_map (renamed_entry l.meeting.1) (slice_get l.table number)) (take l.number-index l.met) ≡ map (λ entry. Some entry) l.made.items
