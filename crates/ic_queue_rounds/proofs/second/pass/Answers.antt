use Rattle.std.proofs.Common.{refl, sym, ap, ◌∙◌}
use Rattle.ic_queues.specs.Queued.{Walked}
use Rattle.ic_queue_rounds.proofs.Passes.{went_on, same_ids}
use Rattle.ic_queue_rounds.proofs.second.pass.Goals as goal

pub returns-then-is_steady-clause-passing : goal.returns-then-is_steady-clause-passing
returns-then-is_steady-clause-passing c = λ start facing.
    let w = c.args.walk in
    let done = c.in_ok-rest.ensures w.kept w.todo facing.reaches.keeps in
    went_on c.args.limit start c.args.rest c.in_ok-rest.rest w w c.args.message facing done refl refl
    (same_ids c.args.limit start c.args.rest c.in_ok-rest.rest w c.args.message facing done (sym c.is_steady.ensures ∙ c.if-is_steady.true))

pub returns-clause-passing : goal.returns-clause-passing
returns-clause-passing c = λ start facing.
    let w = c.args.walk in
    let is = c.in_ok-walk.ensures in
    went_on c.args.limit start c.args.rest c.in_ok-rest-2.rest w c.in_ok-walk.walk c.args.message facing (c.in_ok-rest-2.ensures w.kept w.todo facing.reaches.keeps)
    (ap (λ (v : Walked). v.kept) is) (ap (λ (v : Walked). v.todo) is) (sym (ap (λ (v : Walked). v.canisters) is))
