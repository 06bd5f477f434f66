use Rattle.std.proofs.Common.{◌/◌, ◌%◌, sym}
use Rattle.cd_types.proofs.EntryLemmas.{entry_ordered}
use Rattle.cd_sub.proofs.parts.Side.pair.Goals as goal

pub entries-requires-clause-x : goal.entries-requires-clause-x
entries-requires-clause-x c =
    let x = c.in-Some-Some in
    entry_ordered c.args.self.now.lower.now (c.args.number / c.len-width.result) x.x.now x.ensures.well_formed (sym x.ensures.value)

pub entries-requires-clause-y : goal.entries-requires-clause-y
entries-requires-clause-y c =
    let y = c.in-Some-Some in
    entry_ordered c.args.self.now.upper.now (c.args.number % c.len-width.result) y.y.now y.ensures'.well_formed (sym y.ensures'.value)
