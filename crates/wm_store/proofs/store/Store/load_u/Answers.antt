use Rattle.std.proofs.Common.{◌+◌, ◌^◌}
use Rattle.wm_store.proofs.MeaningBytes.{number_at_below}
use Rattle.wm_store.proofs.store.Store.load_u.Goals as goal

pub returns-clause-range : goal.returns-clause-range
returns-clause-range c =
    rw (c.ok_or.ensures.value, c.load.ensures)
    (number_at_below c.args.size (λ n. n) (c.args.address + c.from.result) c.args.self.now.lists.memory (256 ^ c.args.size) c.requires.size c.holds_bytes.ensures.memory (λ n p. p))
