use Rattle.ic_round_tests.proofs.picks.orders.is_told.Goals as goal

pub key-requires : goal.key-requires
key-requires c =
    (c.growth_keeps.ensures c.keep.new.self c.keep-2.new.self c.keep-2.ensures.grows c.in_ok-kept.kept c.in_ok-kept.ensures.kept).0

pub same_state-requires-clause-first : goal.same_state-requires-clause-first
same_state-requires-clause-first c =
    (c.growth_keeps.ensures c.keep.new.self c.keep-2.new.self c.keep-2.ensures.grows c.in_ok-kept.kept c.in_ok-kept.ensures.kept).0
