use Rattle.std.proofs.Common.{[], length, sym, ap, subst, ◌∙◌}
use Rattle.std.proofs.lemmas.List.{append-nil}
use Rattle.ic_exact.specs.Ranges.{Extends}
use Rattle.ic_exact.proofs.Once.{extended, distinct}
use Rattle.ic_exact.proofs.ranges.Ranges.number.Goals as goal

pub returns-in_err-number-clause-stays : goal.returns-in_err-number-clause-stays
returns-in_err-number-clause-stays c = ([], c.in_err-number.ensures.err ∙ c.self-2.view_is ∙ sym (append-nil c.args.self.now))

pub invariant_of-self-2 : goal.invariant_of-self-2
invariant_of-self-2 c =
    distinct c.self-2.inside.set.keys c.insert_full.new.self.keys _ c.in_ok-number.ensures.keys c.self-2.invariant
    (ap length c.in_ok-from_slice.ensures.items ∙ c.requires) c.insert_full.ensures.unique

pub returns-clause-stays : goal.returns-clause-stays
returns-clause-stays c = subst (λ xs. Extends xs c.insert_full.new.self.keys) c.self-2.view_is (extended c.self-2.inside.set.keys c.insert_full.new.self.keys _ c.in_ok-number.ensures.keys)
