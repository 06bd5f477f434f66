use Rattle.std.proofs.Common.{◌∙◌, sym, true≢false}
use Rattle.ic_keep.proofs.Unique.{one_rest}
use Rattle.ic_keep.proofs.keeper.Keeper.same_state.Goals as goal

pub returns-else-has_same_rest : goal.returns-else-has_same_rest
returns-else-has_same_rest c = (
  λ yes. absurd (true≢false (sym yes ∙ c.if-has_same_rest.false)),
  λ same. c.has_same_rest.ensures.1 (one_rest c.args.self.now c.are_tables.ensures c.same_states_are_alike.ensures.counts c.args.a.now c.args.b.now c.requires.first c.requires.second same),
)
