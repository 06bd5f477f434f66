use Rattle.std.proofs.Common.{sym, arith}
use Rattle.cd_codec.specs.HeaderSpelling.{entry_spelling}
use Rattle.cd_codec.proofs.Written.{after_entry, past_end}
use Rattle.cd_codec.proofs.header_writer.write_table.Goals.{in-Some+in_ok-write_entry, in_default}
use Rattle.cd_codec.proofs.header_writer.write_table.Goals as goal

pub loop-index-preserved : goal.loop-index-preserved
loop-index-preserved c =
    let table = c.args.table.now in
    let i = c.loop-index.index in
    elim c.match-entry.branch [
      | in-Some+in_ok-write_entry w ↦ rw w.out-is (after_entry entry_spelling table i _ c.args.out.now.items _ _ (sym w.in-Some.ensures.value) c.loop-index.invariant w.in_ok-write_entry.ensures)
      | in_default w ↦ absurd (omega (arith, past_end table i (sym w.in_default.ensures.value), c.loop-index-test.true, c.len-index-end.ensures.value))
    ]
