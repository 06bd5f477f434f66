use Rattle.std.proofs.Common.{not, ap, rules, tests}
use Rattle.std.proofs.lemmas.Iterator.{YieldsList-from_slice}
use Rattle.std.proofs.lemmas.Iterator.Search.{any_from_yields_List}
use Rattle.ic_behaviour.specs.Steps.{same_way}
use Rattle.ic_schedule.proofs.eligibility.goes_first.Goals as goal

pub returns : goal.returns
returns c =
    ap not (any_from_yields_List (same_way c.args.message.now) _ _ c.any.result c.any.ensures.ran (YieldsList-from_slice c.args.earlier.now cc) (λ x b q k. search (rules, tests)))
