use Rattle.std.proofs.Common.{◌≡◌, sym, ◌∙◌, arith}
use Rattle.ct_run.specs.Called.{most_rounds, rules_of}
use Rattle.ic_queue_rounds.proofs.Roundings.{Rounding-start, Rounding-more, Rounding-none, Rounding-all}
use Rattle.ct_run.proofs.runner.Runner.heard_rounds.Goals as goal

pub loop-init : goal.loop-init
loop-init g c = Rounding-start (rules_of c.args.self.now.charge) most_rounds c.args.world

pub loop-preserved : goal.loop-preserved
loop-preserved g c =
    Rounding-more _ _ _ _ c.loop.world c.loop.invariant c.loop-test.true (λ none. c.if-message_count-eq0.false (c.message_count.ensures ∙ none)) c.in_ok-world.world c.in_ok-world.ensures

pub returns-then-message_count-eq0 : goal.returns-then-message_count-eq0
returns-then-message_count-eq0 g c = (Rounding-none _ _ _ _ c.loop.world c.loop.invariant (sym c.message_count.ensures ∙ c.if-message_count-eq0.true)).0

pub returns : goal.returns
returns g c =
    let all : c.loop.counter ≡ most_rounds = omega arith in
    (Rounding-all _ _ _ _ c.loop.world c.loop.invariant all).0
