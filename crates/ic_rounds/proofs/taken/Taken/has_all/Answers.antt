use Rattle.std.proofs.Common.{length, ap, subst, arith}
use Rattle.std.specs.List.Sorted.{IsStrictlySortedBy}
use Rattle.std.specs.Ordering.{nat_cmp}
use Rattle.std.specs.Cmp.Lexicographic.{slice_cmp}
use Rattle.std.specs.Map.{keys_of}
use Rattle.std.proofs.lemmas.Bool.{leb-true}
use Rattle.ic_rounds.specs.Taking.{Taking}
use Rattle.ic_rounds.proofs.Gathers.{all_have}
use Rattle.ic_rounds.proofs.taken.Taken.has_all.Goals as goal

pub returns : goal.returns
returns c = λ many.
    let rise = subst (λ (w : Taking). IsStrictlySortedBy (slice_cmp nat_cmp) (keys_of w.firsts)) c.self.view_is c.len-first.ensures.ordered in
    all_have c.args.canisters.now.entries c.args.self.now rise c.requires.theirs
    (omega (arith, leb-true c.len-all.result c.len-first.result many, c.len-all.ensures.len, c.len-first.ensures.len, ap (λ (w : Taking). length w.firsts) c.self.view_is))
