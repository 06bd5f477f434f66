use Rattle.std.proofs.Common.{List, get_or}
use Rattle.cd_tokens.specs.Token.{Token}
use Rattle.ct_outcomes.specs.Standings.{IsReadAt}
use Rattle.ct_outcomes.proofs.Found.{read_more, read_none}
use Rattle.ct_outcomes.proofs.filling.meanings_of.Goals as goal

pub returns-in-None : goal.returns-in-None
returns-in-None c =
    let none : (tokens : List Token) → IsReadAt c.args.names.now (get_or c.args.slots.now c.loop-index.index 0) tokens → ⊥ = rw c.in-None.is at c.in_ok-meaning_at.ensures in
    read_none c.args.names.now c.args.slots.now c.loop-index.index c.loop-index-test.true none

pub loop-index-preserved : goal.loop-index-preserved
loop-index-preserved c =
    let is : IsReadAt c.args.names.now (get_or c.args.slots.now c.loop-index.index 0) c.in-Some.meaning = rw c.in-Some.is at c.in_ok-meaning_at.ensures in
    rw c.in_ok-push-in-Some.ensures.items (read_more c.args.names.now c.args.slots.now c.loop-index.meanings.items c.loop-index.index c.in-Some.meaning c.loop-index-test.true c.loop-index.invariant is)
