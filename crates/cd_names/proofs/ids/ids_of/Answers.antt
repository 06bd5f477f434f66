use Rattle.std.proofs.Common.{sym, arith}
use Rattle.cd_names.specs.Names.{is_used}
use Rattle.cd_names.proofs.Found.{entry_more, past_end}
use Rattle.cd_names.proofs.ids.ids_of.Goals.{in-Some+in_ok-add_entry, in_default}
use Rattle.cd_names.proofs.ids.ids_of.Goals as goal

pub loop-index-preserved : goal.loop-index-preserved
loop-index-preserved c =
    let table = c.args.table.now in
    let i = c.loop-index.index in
    elim c.match-entry.branch [
      | in-Some+in_ok-add_entry w ↦ λ id. rw w.ids-is (entry_more table i _ id _ _ (is_used table id) (sym w.in-Some.ensures.value) (w.in_ok-add_entry.ensures id) (c.loop-index.invariant id))
      | in_default w ↦ absurd (omega (arith, past_end table i (sym w.in_default.ensures.value), c.loop-index-test.true, c.len-index-end.ensures.value))
    ]
