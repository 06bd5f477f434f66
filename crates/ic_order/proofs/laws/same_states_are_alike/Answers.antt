use Rattle.ic_order.proofs.Same.{reflexive, symmetric, transitive, equal, counts_same, exchanged_same, one_way_equal}
use Rattle.ic_order.proofs.laws.same_states_are_alike.Goals as goal

pub returns-clause-reflexive : goal.returns-clause-reflexive
returns-clause-reflexive c = reflexive

pub returns-clause-symmetric : goal.returns-clause-symmetric
returns-clause-symmetric c = symmetric

pub returns-clause-transitive : goal.returns-clause-transitive
returns-clause-transitive c = transitive

pub returns-clause-equal : goal.returns-clause-equal
returns-clause-equal c = equal

pub returns-clause-counts : goal.returns-clause-counts
returns-clause-counts c = counts_same

pub returns-clause-exchanged : goal.returns-clause-exchanged
returns-clause-exchanged c = exchanged_same

pub returns-clause-one_way : goal.returns-clause-one_way
returns-clause-one_way c = one_way_equal
