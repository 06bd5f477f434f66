use Rattle.std.proofs.Common.{sym, arith}
use Rattle.cd_types.proofs.EntryLemmas.{entry_ordered}
use Rattle.cd_text.proofs.walk.Walk.+walk.Goals as goal

pub pass_indexed-pass_entry-requires : goal.pass_indexed-pass_entry-requires
pass_indexed-pass_entry-requires t c = (omega arith, entry_ordered _ c.args.index c.in-Some.entry.now c.entry.ensures.well_formed (sym c.in-Some.ensures.value))
