use Rattle.std.proofs.Common.{rules, tests}
use Rattle.std.proofs.lemmas.Iterator.{YieldsList-from_slice}
use Rattle.std.proofs.lemmas.Iterator.Search.{any_from_yields_List}
use Rattle.ic_behaviour.specs.State.{at, callee_of}
use Rattle.ic_behaviour.specs.declared.call.Message.{Message}
use Rattle.ct_run.proofs.hearing.has_one.Goals as goal

pub returns : goal.returns
returns c =
    any_from_yields_List (λ (m : Message). at c.args.id.now (callee_of m)) _ _ c.any.result c.any.ensures.ran (YieldsList-from_slice c.args.messages.now cc) (λ x b q k. search (rules, tests))
