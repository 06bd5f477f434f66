use Rattle.std.proofs.Common.{◌∙◌}
use Rattle.ic_keep.proofs.Stays.{more_ranges, memory_stays}
use Rattle.ic_keep.proofs.keeper.Keeper.keep_store.Goals as goal

pub returns-in_err-from_slice-2-clause-grows : goal.returns-in_err-from_slice-2-clause-grows
returns-in_err-from_slice-2-clause-grows c =
    more_ranges c.args.self.now c.self.inside.ranges c.self.inside.codes c.keep.new.self c.keep-2.new.self c.self.view_is c.keep.ensures.stays c.keep-2.ensures.stays

pub returns-clause-grows : goal.returns-clause-grows
returns-clause-grows c =
    more_ranges c.args.self.now c.self.inside.ranges c.self.inside.codes c.keep.new.self c.keep-2.new.self c.self.view_is c.keep.ensures.stays c.keep-2.ensures.stays

pub returns-clause-memory : goal.returns-clause-memory
returns-clause-memory c =
    memory_stays c.keep.new.self c.keep-2.new.self c.in_ok-memory.memory c.memory-2.inside.items.items c.args.store.now.lists.memory
    c.keep-2.ensures.stays c.in_ok-memory.ensures.numbers (c.in_ok-memory.ensures.bytes ∙ c.memory.ensures) c.memory-2.view_is
