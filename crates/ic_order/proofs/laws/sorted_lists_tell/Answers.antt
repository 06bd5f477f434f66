use Rattle.ic_order.proofs.Sorts.{same_sorted, sorted_same}
use Rattle.ic_order.proofs.laws.sorted_lists_tell.Goals as goal

pub returns-clause-same : goal.returns-clause-same
returns-clause-same c = λ ms ns sorted others left right same. same_sorted ms ns sorted others left right same

pub returns-clause-back : goal.returns-clause-back
returns-clause-back c = λ ms ns sorted others left right is. sorted_same ms ns sorted others left right is
