use Rattle.std.proofs.Common.{◌≡◌, ℕ, ◌+◌, ◌-◌, ◌≤◌, ◌<◌, arith, ap, subst, ◌∙◌, slice_index}
use Rattle.wm_store.specs.Meaning.{finished, stored}
use Rattle.wm_semantics.specs.declared.trap.Trap.TheVariants as trap
use Rattle.wm_words.specs.Agree.{none_answers, alone_at}
use Rattle.wm_words.specs.Ranges.{range_written}
use Rattle.wm_run.specs.Activations.{ended_range, trapped_by}
use Rattle.wm_run.proofs.Follow.{charge_fits, charge_fails, follows_as}
use Rattle.wm_run.proofs.Ranging.{written_by, within_at, there_at, limit_range_at, range_follows_at}
use Rattle.wm_run.proofs.UnderWay.{trap_same, range_same}
use Rattle.wm_run.proofs.ranges.run_range.Goals as goal

pub operand-size-requires-clause-within : goal.operand-size-requires-clause-within
operand-size-requires-clause-within c =
    let x = c.requires.stopped in
    within_at x.0 c.args.here x.1 c.args.stack.now c.args.store.now.lists c.args.meter.now.used c.args.meter.now.limit c.args.range x.2 x.3

pub returns-then-not-charge-clause-follows : goal.returns-then-not-charge-clause-follows
returns-then-not-charge-clause-follows c =
    λ v callers d x.
    let limit = c.args.meter.now.limit in
    let used = c.args.meter.now.used in
    let s = c.args.store.now.lists in
    let stack = c.args.stack.now in
    let p = charge_fails c.charge.result used limit (1 + c.from.result) c.charge.new.self.used c.if-not-charge.true c.charge.ensures.fits c.charge.ensures.used in
    follows_as none_answers v limit (alone_at s used d) (trapped_by trap.Limit) c.trapped.result callers stack tt s used c.charge.new.self.used c.trapped.ensures p.1
    (limit_range_at v c.args.here callers stack s used limit c.args.range d x (subst (λ (k : ℕ). limit < used + (1 + k)) (c.from.ensures ∙ c.operand-size.ensures) p.0))

pub operand-source-requires-clause-there : goal.operand-source-requires-clause-there
operand-source-requires-clause-there c =
    let x = c.requires.stopped in
    omega (arith, there_at x.0 c.args.here x.1 c.args.stack.now c.args.store.now.lists c.args.meter.now.used c.args.meter.now.limit c.args.range x.2 x.3)

pub operand-source-requires-clause-within : goal.operand-source-requires-clause-within
operand-source-requires-clause-within c =
    let x = c.requires.stopped in
    within_at x.0 c.args.here x.1 c.args.stack.now c.args.store.now.lists c.args.meter.now.used c.args.meter.now.limit c.args.range x.2 x.3

pub operand-to-requires-clause-there : goal.operand-to-requires-clause-there
operand-to-requires-clause-there c =
    let x = c.requires.stopped in
    omega (arith, there_at x.0 c.args.here x.1 c.args.stack.now c.args.store.now.lists c.args.meter.now.used c.args.meter.now.limit c.args.range x.2 x.3)

pub operand-to-requires-clause-within : goal.operand-to-requires-clause-within
operand-to-requires-clause-within c =
    let x = c.requires.stopped in
    within_at x.0 c.args.here x.1 c.args.stack.now c.args.store.now.lists c.args.meter.now.used c.args.meter.now.limit c.args.range x.2 x.3

pub end_range-requires-clause-there : goal.end_range-requires-clause-there
end_range-requires-clause-there c =
    let x = c.requires.stopped in
    omega (arith, there_at x.0 c.args.here x.1 c.args.stack.now c.args.store.now.lists c.args.meter.now.used c.args.meter.now.limit c.args.range x.2 x.3)

pub returns-clause-follows : goal.returns-clause-follows
returns-clause-follows c =
    λ v callers d x.
    let limit = c.args.meter.now.limit in
    let used = c.args.meter.now.used in
    let here = c.args.here in
    let s = c.args.store.now.lists in
    let t = c.write_range.new.store.lists in
    let stack = c.args.stack.now in
    let size = slice_index stack (here.top - 1) in
    let done = c.in_ok-done.done in
    let p = charge_fits c.charge.result used limit (1 + c.from.result) c.charge.new.self.used c.if-not-charge.false c.charge.ensures.fits c.charge.ensures.used in
    let wrote : finished done t ≡ written_by v here callers stack s used limit c.args.range =
    c.in_ok-done.ensures.runs
    ∙ ap (λ (n : ℕ). stored (range_written c.args.range n c.operand-source.result c.operand-size.result s.memory) s) c.operand-to.ensures
    ∙ ap (λ (n : ℕ). stored (range_written c.args.range (slice_index stack (here.top - 3)) n c.operand-size.result s.memory) s) c.operand-source.ensures
    ∙ ap (λ (n : ℕ). stored (range_written c.args.range (slice_index stack (here.top - 3)) (slice_index stack (here.top - 2)) n s.memory) s) c.operand-size.ensures in
    follows_as none_answers v limit (alone_at s used d) (ended_range here done) c.end_range.result callers stack tt t (used + (1 + size)) c.charge.new.self.used c.end_range.ensures
    (p.1 ∙ ap (λ (k : ℕ). used + (1 + k)) (c.from.ensures ∙ c.operand-size.ensures))
    (range_follows_at v here callers stack s used limit c.args.range d x done t (subst (λ (k : ℕ). used + (1 + k) ≤ limit) (c.from.ensures ∙ c.operand-size.ensures) p.0) wrote c.in_ok-done.ensures.failed)

pub returns-then-not-charge-clause-same : goal.returns-then-not-charge-clause-same
returns-then-not-charge-clause-same c = trap_same c.args.here trap.Limit c.trapped.result c.trapped.ensures

pub returns-clause-same : goal.returns-clause-same
returns-clause-same c = range_same c.args.here c.in_ok-done.done c.end_range.result c.end_range.ensures
