use Rattle.std.proofs.Common.{◌≡◌, ◌+◌, ◌-◌, ◌<◌, ℕ, length, sym, subst, arith, not-suc-le-zero}
use Rattle.std.specs.List.{concat}
use Rattle.ic_behaviour.specs.Steps.{along}
use Rattle.ic_behaviour.specs.Round.{rounds}
use Rattle.ic_mgmt_laws.specs.Managed.{managed_rules}
use Rattle.ic_queue_rounds.proofs.Roundings.{Rounding-more}
use Rattle.ic_queue_rounds.proofs.rounds.listed_rounds.Goals as goal

pub loop-made-preserved : goal.loop-made-preserved
loop-made-preserved g c =
    Rounding-more _ _ _ _ c.loop-made.world c.loop-made.invariant c.loop-made-test.true
    (λ none. let no : 0 < 0 = omega (arith, none, c.has_messages.ensures c.if-not-has_messages.false) in not-suc-le-zero no) c.in_ok-next.next c.in_ok-next.ensures.state

pub returns-then-not-has_messages-clause-state : goal.returns-then-not-has_messages-clause-state
returns-then-not-has_messages-clause-state g c = sym c.loop-made.invariant.state

pub returns-then-not-has_messages-clause-made : goal.returns-then-not-has_messages-clause-made
returns-then-not-has_messages-clause-made g c = sym c.loop-made.invariant.many

pub returns-clause-state : goal.returns-clause-state
returns-clause-state g c =
    let rules = managed_rules c.args.charge.limit c.args.charge.price in
    let now = c.loop-made.world in
    let all : c.loop-made.made ≡ c.args.count = omega arith in
    subst (λ (n : ℕ). along rules now (concat (rounds rules (c.args.count - n) now)) ≡ along rules c.args.world (concat (rounds rules c.args.count c.args.world))) all (sym c.loop-made.invariant.state)

pub returns-clause-made : goal.returns-clause-made
returns-clause-made g c =
    let rules = managed_rules c.args.charge.limit c.args.charge.price in
    let now = c.loop-made.world in
    let all : c.loop-made.made ≡ c.args.count = omega arith in
    subst (λ (n : ℕ). n + length (rounds rules (c.args.count - n) now) ≡ length (rounds rules c.args.count c.args.world)) all (sym c.loop-made.invariant.many)
