use Rattle.ic_round_tests.proofs.picks.keeping.is_turned_back.Goals as goal

pub turn-requires-clause-to : goal.turn-requires-clause-to
turn-requires-clause-to c =
    (c.growth_keeps.ensures c.keep.new.self c.keep-2.new.self c.keep-2.ensures.grows c.in_ok-first.first c.in_ok-first.ensures.kept).0

pub same-requires-clause-first : goal.same-requires-clause-first
same-requires-clause-first c =
    (c.growth_keeps.ensures c.keep-2.new.self c.keep-3.new.self c.keep-3.ensures.grows c.in_ok-last.last c.in_ok-last.ensures.kept).0

pub same-requires-then-same-clause-first : goal.same-requires-then-same-clause-first
same-requires-then-same-clause-first c =
    let between = c.growth_keeps.ensures c.keep.new.self c.keep-2.new.self c.keep-2.ensures.grows c.in_ok-first.first c.in_ok-first.ensures.kept in
    (c.growth_keeps.ensures c.keep-2.new.self c.keep-3.new.self c.keep-3.ensures.grows c.in_ok-first.first between.0).0
