use Rattle.std.proofs.Common.{◌≤◌, ◌+◌, ◌-◌, ℕ, List, Ok, Err, length, arith, refl, sym, subst, reverse}
use Rattle.wm_typing.specs.declared.op.Op.TheVariants as op
use Rattle.wm_semantics.specs.declared.trap.Trap.TheVariants as trap
use Rattle.wm_semantics.specs.Steps.{state}
use Rattle.wm_run.specs.declared.activation.Activation.{Activation}
use Rattle.wm_run.specs.Activations.{Follows, trapped_by}
use Rattle.wm_run.proofs.Follow.{charge_fits, charge_fails, if_ok, follows_as, follows_with}
use Rattle.wm_run.proofs.Going.{word_there, called}
use Rattle.wm_run.proofs.ByTable.{found_with, expected_at, positive_at, within_at, limit_at, trap_at, can_enter_at, enter_at, ask_at}
use Rattle.wm_run.proofs.UnderWay.{goes_on, traps, stays, still_same}
use Rattle.wm_run.proofs.indirect.call_indirect.Goals as goal

pub returns-then-not-charge-clause-follows : goal.returns-then-not-charge-clause-follows
returns-then-not-charge-clause-follows g c =
    λ d i x.
    let v = c.args.valid.now in
    let host = c.args.host.now in
    let limit = c.args.meter.now.limit in
    let used = c.args.meter.now.used in
    let s = c.args.store.now.lists in
    let callers = reverse c.args.stacks.now.callers.items in
    let stack = c.args.stacks.now.operands.items in
    let p = charge_fails c.charge.result used limit 1 c.charge.new.self.used c.if-not-charge.true c.charge.ensures.fits c.charge.ensures.used in
    follows_as g.H.Host.answers v limit (state host s used d) (trapped_by trap.Limit) c.trapped.result callers stack host s used c.charge.new.self.used c.trapped.ensures p.1
    (follows_with g.H.Host.answers v.module limit host v refl s used d (trapped_by trap.Limit) callers stack s used
    (limit_at v c.args.here callers stack s used limit i d x p.0))

pub number_at-index-requires : goal.number_at-index-requires
number_at-index-requires g c =
    let x = c.requires.stopped in
    word_there c.args.valid.now c.args.here (reverse c.args.stacks.now.callers.items) c.args.stacks.now.operands.items c.args.store.now.lists c.args.meter.now.used x.0 (λ n. op.CallIndirect n) (λ n. refl) (x.1, x.2)

pub topmost-place-requires-clause-there : goal.topmost-place-requires-clause-there
topmost-place-requires-clause-there g c =
    let x = c.requires.stopped in
    let at = called c.args.valid.now c.args.here (reverse c.args.stacks.now.callers.items) c.args.stacks.now.operands.items c.args.store.now.lists c.args.meter.now.used x.0 (λ n. op.CallIndirect n) (λ n. refl) (x.1, x.2) c.number_at-index.result c.number_at-index.ensures in
    positive_at c.args.valid.now c.args.here (reverse c.args.stacks.now.callers.items) c.args.stacks.now.operands.items c.args.store.now.lists c.args.meter.now.used c.args.meter.now.limit c.number_at-index.result x.0 at

pub topmost-place-requires-clause-within : goal.topmost-place-requires-clause-within
topmost-place-requires-clause-within g c =
    let x = c.requires.stopped in
    let at = called c.args.valid.now c.args.here (reverse c.args.stacks.now.callers.items) c.args.stacks.now.operands.items c.args.store.now.lists c.args.meter.now.used x.0 (λ n. op.CallIndirect n) (λ n. refl) (x.1, x.2) c.number_at-index.result c.number_at-index.ensures in
    subst (λ (ns : List ℕ). c.args.here.top ≤ length ns) (sym c.as_slice.ensures.value)
    (within_at c.args.valid.now c.args.here (reverse c.args.stacks.now.callers.items) c.args.stacks.now.operands.items c.args.store.now.lists c.args.meter.now.used c.args.meter.now.limit c.number_at-index.result x.0 at)

pub overflow_sub-below : goal.overflow_sub-below
overflow_sub-below g c =
    let x = c.requires.stopped in
    let at = called c.args.valid.now c.args.here (reverse c.args.stacks.now.callers.items) c.args.stacks.now.operands.items c.args.store.now.lists c.args.meter.now.used x.0 (λ n. op.CallIndirect n) (λ n. refl) (x.1, x.2) c.number_at-index.result c.number_at-index.ensures in
    omega (arith, positive_at c.args.valid.now c.args.here (reverse c.args.stacks.now.callers.items) c.args.stacks.now.operands.items c.args.store.now.lists c.args.meter.now.used c.args.meter.now.limit c.number_at-index.result x.0 at)

pub look_up-requires-clause-index : goal.look_up-requires-clause-index
look_up-requires-clause-index g c =
    let x = c.requires.stopped in
    let at = called c.args.valid.now c.args.here (reverse c.args.stacks.now.callers.items) c.args.stacks.now.operands.items c.args.store.now.lists c.args.meter.now.used x.0 (λ n. op.CallIndirect n) (λ n. refl) (x.1, x.2) c.number_at-index.result c.number_at-index.ensures in
    expected_at c.args.valid.now c.args.here (reverse c.args.stacks.now.callers.items) c.args.stacks.now.operands.items c.args.store.now.lists c.args.meter.now.used c.args.meter.now.limit c.number_at-index.result x.0 at

pub enter-requires-clause-can : goal.enter-requires-clause-can
enter-requires-clause-can g c =
    let x = c.requires.stopped in
    let at = called c.args.valid.now c.args.here (reverse c.args.stacks.now.callers.items) c.args.stacks.now.operands.items c.args.store.now.lists c.args.meter.now.used x.0 (λ n. op.CallIndirect n) (λ n. refl) (x.1, x.2) c.number_at-index.result c.number_at-index.ensures in
    let stack = c.args.stacks.now.operands.items in
    let s = c.args.store.now.lists in
    can_enter_at c.args.valid.now c.args.here (reverse c.args.stacks.now.callers.items) stack s c.args.meter.now.used c.args.meter.now.limit c.number_at-index.result x.0 at c.in-Ok.function
    (found_with c.args.valid.now.module c.number_at-index.result c.table.result.now s.table c.topmost-place.result (c.args.here.top - 1) stack c.as_slice.result.now (Ok c.in-Ok.function) c.table.ensures c.as_slice.ensures.value c.topmost-place.ensures c.in-Ok.ensures)
    c.in-Own.number c.in-Own.ensures

pub ask-requires-clause-asking : goal.ask-requires-clause-asking
ask-requires-clause-asking g c =
    let x = c.requires.stopped in
    let at = called c.args.valid.now c.args.here (reverse c.args.stacks.now.callers.items) c.args.stacks.now.operands.items c.args.store.now.lists c.args.meter.now.used x.0 (λ n. op.CallIndirect n) (λ n. refl) (x.1, x.2) c.number_at-index.result c.number_at-index.ensures in
    let stack = c.args.stacks.now.operands.items in
    let s = c.args.store.now.lists in
    let v = c.args.valid.now in
    let callers = reverse c.args.stacks.now.callers.items in (
      v,
      callers,
      x.0,
      ask_at v c.args.here callers stack s c.args.meter.now.used c.args.meter.now.limit c.number_at-index.result x.0 at c.in-Ok.function
          (found_with c.args.valid.now.module c.number_at-index.result c.table.result.now s.table c.topmost-place.result (c.args.here.top - 1) stack c.as_slice.result.now (Ok c.in-Ok.function) c.table.ensures c.as_slice.ensures.value c.topmost-place.ensures c.in-Ok.ensures)
          c.in-Host.number c.in-Host.ensures,
    )

pub returns-in-Own-clause-follows : goal.returns-in-Own-clause-follows
returns-in-Own-clause-follows g c =
    let v = c.args.valid.now in
    let here = c.args.here in
    let host = c.args.host.now in
    let limit = c.args.meter.now.limit in
    let used = c.args.meter.now.used in
    let s = c.args.store.now.lists in
    let callers = reverse c.args.stacks.now.callers.items in
    let callers' = reverse c.enter.new.stacks.callers.items in
    let stack = c.args.stacks.now.operands.items in
    let stack' = c.enter.new.stacks.operands.items in
    let p = charge_fits c.charge.result used limit 1 c.charge.new.self.used c.if-not-charge.false c.charge.ensures.fits c.charge.ensures.used in
    if_ok c.enter.result _ _ (λ to e d i found.
    let x = called v here callers stack s used d (λ n. op.CallIndirect n) (λ n. refl) (i, found) c.number_at-index.result c.number_at-index.ensures in
    follows_as g.H.Host.answers v limit (state host s used d) to to callers' stack' host s (used + 1) c.charge.new.self.used refl p.1
    (follows_with g.H.Host.answers v.module limit host v refl s used d to callers' stack' s (used + 1)
    (enter_at v here callers stack s used limit c.number_at-index.result d x c.in-Ok.function
    (found_with c.args.valid.now.module c.number_at-index.result c.table.result.now s.table c.topmost-place.result (c.args.here.top - 1) stack c.as_slice.result.now (Ok c.in-Ok.function) c.table.ensures c.as_slice.ensures.value c.topmost-place.ensures c.in-Ok.ensures)
    c.in-Own.number c.in-Own.ensures p.0 callers' stack' to e))) c.enter.ensures.entered

pub returns-in-Host-clause-follows : goal.returns-in-Host-clause-follows
returns-in-Host-clause-follows g c =
    let v = c.args.valid.now in
    let here = c.args.here in
    let host = c.args.host.now in
    let limit = c.args.meter.now.limit in
    let used = c.args.meter.now.used in
    let s = c.args.store.now.lists in
    let callers = reverse c.args.stacks.now.callers.items in
    let stack = c.args.stacks.now.operands.items in
    let p = charge_fits c.charge.result used limit 1 c.charge.new.self.used c.if-not-charge.false c.charge.ensures.fits c.charge.ensures.used in
    if_ok c.ask.result _ _ (λ to e d i found.
    let x = called v here callers stack s used d (λ n. op.CallIndirect n) (λ n. refl) (i, found) c.number_at-index.result c.number_at-index.ensures in
    subst (λ (k : ℕ). Follows g.H.Host.answers v k (state host s used d) to callers c.ask.new.stack.items c.ask.new.host c.ask.new.store.lists c.ask.new.meter.used) c.charge.ensures.limit
    (e v callers d used (subst (λ (k : ℕ). used + 1 ≤ k) (sym c.charge.ensures.limit) p.0) (sym p.1)
    (ask_at v here callers stack s used limit c.number_at-index.result d x c.in-Ok.function
    (found_with c.args.valid.now.module c.number_at-index.result c.table.result.now s.table c.topmost-place.result (c.args.here.top - 1) stack c.as_slice.result.now (Ok c.in-Ok.function) c.table.ensures c.as_slice.ensures.value c.topmost-place.ensures c.in-Ok.ensures)
    c.in-Host.number c.in-Host.ensures))) c.ask.ensures.follows

pub returns-in-Err-clause-follows : goal.returns-in-Err-clause-follows
returns-in-Err-clause-follows g c =
    λ d i found.
    let v = c.args.valid.now in
    let here = c.args.here in
    let host = c.args.host.now in
    let limit = c.args.meter.now.limit in
    let used = c.args.meter.now.used in
    let s = c.args.store.now.lists in
    let callers = reverse c.args.stacks.now.callers.items in
    let stack = c.args.stacks.now.operands.items in
    let x = called v here callers stack s used d (λ n. op.CallIndirect n) (λ n. refl) (i, found) c.number_at-index.result c.number_at-index.ensures in
    let p = charge_fits c.charge.result used limit 1 c.charge.new.self.used c.if-not-charge.false c.charge.ensures.fits c.charge.ensures.used in
    follows_as g.H.Host.answers v limit (state host s used d) (trapped_by c.in-Err.trap) c.trapped-in-Err.result callers stack host s (used + 1) c.charge.new.self.used c.trapped-in-Err.ensures p.1
    (follows_with g.H.Host.answers v.module limit host v refl s used d (trapped_by c.in-Err.trap) callers stack s (used + 1)
    (trap_at v here callers stack s used limit c.number_at-index.result d x p.0 c.in-Err.trap
    (found_with c.args.valid.now.module c.number_at-index.result c.table.result.now s.table c.topmost-place.result (c.args.here.top - 1) stack c.as_slice.result.now (Err c.in-Err.trap) c.table.ensures c.as_slice.ensures.value c.topmost-place.ensures c.in-Err.ensures)))

-- ---- the functions under way

pub returns-then-not-charge-clause-under_way : goal.returns-then-not-charge-clause-under_way
returns-then-not-charge-clause-under_way g c =
    λ first u.
    traps c.args.valid.now first c.args.here (reverse c.args.stacks.now.callers.items) trap.Limit c.trapped.result c.trapped.ensures u

pub returns-in-Own-clause-under_way : goal.returns-in-Own-clause-under_way
returns-in-Own-clause-under_way g c =
    let v = c.args.valid.now in
    let here = c.args.here in
    let below : Activation = record here { top = here.top - 1 } in
    let callers = reverse c.args.stacks.now.callers.items in
    if_ok c.enter.result _ _ (λ to e first u.
    still_same v first below here (reverse c.enter.new.stacks.callers.items) to refl (e first (goes_on v first here below callers refl u))) c.enter.ensures.under_way

pub returns-in-Host-clause-under_way : goal.returns-in-Host-clause-under_way
returns-in-Host-clause-under_way g c =
    let v = c.args.valid.now in
    let here = c.args.here in
    let below : Activation = record here { top = here.top - 1 } in
    let callers = reverse c.args.stacks.now.callers.items in
    if_ok c.ask.result _ _ (λ to same first u.
    still_same v first below here callers to refl (stays v first below callers to same (goes_on v first here below callers refl u))) c.ask.ensures.same

pub returns-in-Err-clause-under_way : goal.returns-in-Err-clause-under_way
returns-in-Err-clause-under_way g c =
    λ first u.
    traps c.args.valid.now first c.args.here (reverse c.args.stacks.now.callers.items) c.in-Err.trap c.trapped-in-Err.result c.trapped-in-Err.ensures u
