use Rattle.ic_round_tests.proofs.picks.keeping.is_one_state.Goals as goal

pub make-requires : goal.make-requires
make-requires c =
    (c.growth_keeps.ensures c.keep.new.self c.keep-2.new.self c.keep-2.ensures.grows c.in_ok-first.first c.in_ok-first.ensures.kept).0

pub same-requires-clause-first : goal.same-requires-clause-first
same-requires-clause-first c =
    (c.growth_keeps.ensures c.keep-2.new.self c.keep-3.new.self c.keep-3.ensures.grows c.in_ok-kept_forth.kept_forth c.in_ok-kept_forth.ensures.kept).0

pub same-requires-then-same-clause-first : goal.same-requires-then-same-clause-first
same-requires-then-same-clause-first c =
    let between = c.growth_keeps.ensures c.keep.new.self c.keep-2.new.self c.keep-2.ensures.grows c.in_ok-first.first c.in_ok-first.ensures.kept in
    (c.growth_keeps.ensures c.keep-2.new.self c.keep-3.new.self c.keep-3.ensures.grows c.in_ok-first.first between.0).0
