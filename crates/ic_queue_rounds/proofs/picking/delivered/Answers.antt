use Rattle.std.proofs.Common.{◌≡◌, true, sym, ap, ◌∙◌, rules, tests}
use Rattle.std.specs.Prelude.{is_some}
use Rattle.std.specs.Map.{lookup}
use Rattle.ic_behaviour.specs.State.{at}
use Rattle.ic_queue_rounds.proofs.Picks.{takes_in, delivered_by}
use Rattle.ic_queue_rounds.proofs.picking.delivered.Goals as goal

pub deliver-requires : goal.deliver-requires
deliver-requires c =
    let next = c.requires.next in
    record {
      ready = λ a found. rw c.at-env.ensures
          (takes_in c.args.charge.limit c.args.charge.price next.0 c.args.message next.1.0 c.args.rest next.1.1 a (ap (λ k. lookup (at k) c.args.rest.canisters.entries) (sym c.callee-callee.ensures) ∙ found));
    }

pub returns : goal.returns
returns c = λ kept todo is.
    let there : is_some (lookup (at c.callee-callee.result) c.args.rest.canisters.entries) ≡ true = search (rules, tests) in
    delivered_by c.args.charge.limit c.args.charge.price kept c.args.message todo c.args.rest is c.at-env.result c.callee-callee.result c.deliver.new.parts
    c.at-env.ensures c.callee-callee.ensures there c.in_ok-deliver.ensures.handled
