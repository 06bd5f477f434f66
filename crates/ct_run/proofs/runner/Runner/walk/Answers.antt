use Rattle.std.proofs.Common.{◌≡◌, ◌∙◌, ◌+◌, ap, length, arith}
use Rattle.ic_behaviour.specs.Submitted.{empty}
use Rattle.ct_check.specs.declared.checked.CheckedTest.{CheckedTest}
use Rattle.ct_run.specs.Runs.{without_interleaves}
use Rattle.ct_run.proofs.Walks.{runs_both, stops_before, stops_after, stops_within, few_statements}
use Rattle.ct_run.proofs.runner.Runner.walk.Goals as goal

pub returns-in-Some : goal.returns-in-Some
returns-in-Some g c =
    let same : c.deref.result.now ≡ c.args.preamble.now = c.deref.ensures.value ∙ c.preamble.view_is in
    let first = rw (c.new-world.ensures, same, c.in-Some.is) at c.in_ok-world.ensures in
    stops_before c.args.self.now empty c.args.names.now _ c.args.preamble.now (without_interleaves c.args.test.now.steps) c.in-Some.failure.place c.in-Some.failure.unmet.came first

pub overflow_add-failure : goal.overflow_add-failure
overflow_add-failure g c =
    let steps : c.deref-2.result.now ≡ c.args.test.now.steps = c.deref-2.ensures.value ∙ ap (λ (t : CheckedTest). t.steps) c.test.view_is in
    let stops = rw (steps, c.in-Some-failure.is) at c.in_ok-world-2.ensures in
    let own = without_interleaves c.args.test.now.steps in
    let unless_too_long = stops_within c.args.self.now c.in_ok-world.world c.statements.new.names _ own c.in-Some-failure.failure.place c.in-Some-failure.failure.unmet.came stops in
    let few = few_statements c.args.test.now.steps in
    let many : length c.deref-2.result.now ≡ length c.args.test.now.steps = ap length steps in
    omega (arith, unless_too_long, few, many, c.deref-2.ensures.len, c.test.inside.0.1.0.items.ok, c.test.inside.0.1.0.items.small, c.len.ensures, c.preamble.inside.items.ok, c.preamble.inside.items.small)

pub returns-in-None : goal.returns-in-None
returns-in-None g c =
    let same : c.deref.result.now ≡ c.args.preamble.now = c.deref.ensures.value ∙ c.preamble.view_is in
    let steps : c.deref-2.result.now ≡ c.args.test.now.steps = c.deref-2.ensures.value ∙ ap (λ (t : CheckedTest). t.steps) c.test.view_is in
    let first = rw (c.new-world.ensures, same, c.in_default.is) at c.in_ok-world.ensures in
    let then = rw (steps, c.in-None.is) at c.in_ok-world-2.ensures in
    runs_both c.args.self.now empty c.in_ok-world.world c.in_ok-world-2.world c.args.names.now _ _ c.args.preamble.now (without_interleaves c.args.test.now.steps) first.0 then.0 first.1 then.1

pub returns-in-Some-failure : goal.returns-in-Some-failure
returns-in-Some-failure g c =
    let same : c.deref.result.now ≡ c.args.preamble.now = c.deref.ensures.value ∙ c.preamble.view_is in
    let steps : c.deref-2.result.now ≡ c.args.test.now.steps = c.deref-2.ensures.value ∙ ap (λ (t : CheckedTest). t.steps) c.test.view_is in
    let first = rw (c.new-world.ensures, same, c.in_default.is) at c.in_ok-world.ensures in
    let stops = rw (steps, c.in-Some-failure.is) at c.in_ok-world-2.ensures in
    let front : length c.preamble.inside.items.items ≡ length c.args.preamble.now = ap length c.preamble.view_is in
    let place : c.in-Some-failure.failure.place + c.len.result ≡ length c.args.preamble.now + c.in-Some-failure.failure.place =
    omega (arith, front, c.len.ensures, c.preamble.inside.items.ok) in
    stops_after c.args.self.now empty c.in_ok-world.world c.args.names.now _ _ c.args.preamble.now (without_interleaves c.args.test.now.steps) first.0
    c.in-Some-failure.failure.place (c.in-Some-failure.failure.place + c.len.result) c.in-Some-failure.failure.unmet.came place first.1 stops
