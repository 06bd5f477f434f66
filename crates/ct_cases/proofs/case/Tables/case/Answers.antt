use Rattle.ct_cases.proofs.Stays.{grows_further}
use Rattle.ct_cases.proofs.case.Tables.case.Goals as goal

pub returns-clause-grows : goal.returns-clause-grows
returns-clause-grows c = grows_further c.args.self.now c.keep.new.self c.number.new.self c.in_ok-kept.ensures.grows c.in_ok-meaning.ensures.grows
