use Rattle.std.proofs.Common.{◌≡◌, true, false, List, refl, sym, ap, ◌∙◌, subst}
use Rattle.std.specs.Prelude.{slice_get, is_some, IsTrue}
use Rattle.std.specs.List.{list_all}
use Rattle.cd_types.specs.declared.entry.Entry.{Entry}
use Rattle.cd_types.specs.IsTable.{is_table}
use Rattle.cd_part.specs.IsPart.{entries_at}
use Rattle.cd_part.proofs.Closed.{all_there}
use Rattle.cd_part.proofs.PartTable.{part_formed}
use Rattle.cd_part.proofs.part.table_and_types.Goals as goal

pub renamed_entries-requires : goal.renamed_entries-requires
renamed_entries-requires c =
    subst (λ (table : List Entry). list_all (λ number. is_some (slice_get table number)) c.in_ok-meeting.meeting.1 ≡ true) (sym c.in_ok-meeting.ensures.table)
    (all_there c.args.table.now c.in_ok-meeting.ensures.met refl)

pub unreachable-requires : goal.unreachable-requires
unreachable-requires c =
    let table = c.args.table.now in
    let met = c.in_ok-meeting.meeting.1 in
    let entries = c.in_ok-entries.entries.items in
    let are = ap (λ (t : List Entry). entries_at t met) (sym c.in_ok-meeting.ensures.table) ∙ c.in_ok-entries.ensures in
    let formed : IsTrue (is_table entries) = part_formed table met entries are c.args.types.now c.in_ok-meeting.ensures.met c.in_ok-meeting.ensures.formed in
    let not : is_table entries ≡ false = c.in-Err.ensures.no_table in
    absurd (cc)
