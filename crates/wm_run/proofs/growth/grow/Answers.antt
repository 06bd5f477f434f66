use Rattle.std.proofs.Common.{◌≡◌, ◌≤◌, ◌+◌, ◌-◌, ◌<◌, ℕ, cond, List, arith, refl, sym, ap, ◌∙◌, subst, slice_index, slice_set, length}
use Rattle.std.specs.Prelude.{nat_le}
use Rattle.wm_semantics.specs.declared.trap.Trap.TheVariants as trap
use Rattle.wm_run.specs.declared.activation.Next.TheVariants.{On}
use Rattle.wm_words.specs.Agree.{none_answers, alone_at}
use Rattle.wm_run.specs.Activations.{behind, Follows, trapped_by}
use Rattle.wm_run.proofs.Follow.{charge_fits, charge_fails, follows_as}
use Rattle.wm_run.proofs.Growing.{cost_at, within_at, positive_at, small_at, limit_grow_at, grow_follows_at}
use Rattle.wm_run.proofs.UnderWay.{trap_same}
use Rattle.wm_run.proofs.growth.grow.Goals as goal

pub topmost-more-requires-clause-there : goal.topmost-more-requires-clause-there
topmost-more-requires-clause-there c =
    let x = c.requires.stopped in
    positive_at x.0 c.args.here x.1 c.args.stack.now.items c.args.store.now.lists c.args.meter.now.used c.args.meter.now.limit x.2 x.3

pub topmost-more-requires-clause-within : goal.topmost-more-requires-clause-within
topmost-more-requires-clause-within c =
    let x = c.requires.stopped in
    subst (λ (ns : List ℕ). c.args.here.top ≤ length ns) (sym c.as_slice.ensures.value) (within_at x.0 c.args.here x.1 c.args.stack.now.items c.args.store.now.lists c.args.meter.now.used c.args.meter.now.limit x.2 x.3)

pub overflow_cast-more : goal.overflow_cast-more
overflow_cast-more c =
    let x = c.requires.stopped in
    omega (arith, small_at x.0 c.args.here x.1 c.args.stack.now.items c.args.store.now.lists c.args.meter.now.used c.args.meter.now.limit x.2 x.3, c.topmost-more.ensures ∙ ap (λ (ns : List ℕ). slice_index ns (c.args.here.top - 1)) c.as_slice.ensures.value)

pub returns-then-not-charge-clause-follows : goal.returns-then-not-charge-clause-follows
returns-then-not-charge-clause-follows c =
    λ v callers d x.
    let limit = c.args.meter.now.limit in
    let used = c.args.meter.now.used in
    let s = c.args.store.now.lists in
    let stack = c.args.stack.now.items in
    let most = c.page_limit.result in
    let more = c.topmost-more.result in
    let cost : c.growth_cost.result ≡ cost_at s most more = c.growth_cost.ensures.cost ∙ ap (λ (k : ℕ). cond (nat_le (k + more) most) (1 + more) 1) c.pages.ensures.pages in
    let p = charge_fails c.charge.result used limit c.growth_cost.result c.charge.new.self.used c.if-not-charge.true c.charge.ensures.fits c.charge.ensures.used in
    follows_as none_answers v limit (alone_at s used d) (trapped_by trap.Limit) c.trapped.result callers stack tt s used c.charge.new.self.used c.trapped.ensures p.1
    (limit_grow_at v c.args.here callers stack s used limit d x most more c.page_limit.ensures.limit (c.topmost-more.ensures ∙ ap (λ (ns : List ℕ). slice_index ns (c.args.here.top - 1)) c.as_slice.ensures.value) (subst (λ (k : ℕ). limit < used + k) cost p.0))

pub replace_topmost-requires-clause-there : goal.replace_topmost-requires-clause-there
replace_topmost-requires-clause-there c =
    let x = c.requires.stopped in
    positive_at x.0 c.args.here x.1 c.args.stack.now.items c.args.store.now.lists c.args.meter.now.used c.args.meter.now.limit x.2 x.3

pub replace_topmost-requires-clause-within : goal.replace_topmost-requires-clause-within
replace_topmost-requires-clause-within c =
    let x = c.requires.stopped in
    within_at x.0 c.args.here x.1 c.args.stack.now.items c.args.store.now.lists c.args.meter.now.used c.args.meter.now.limit x.2 x.3

pub returns-clause-follows : goal.returns-clause-follows
returns-clause-follows c =
    λ v callers d x.
    let here = c.args.here in
    let limit = c.args.meter.now.limit in
    let used = c.args.meter.now.used in
    let s = c.args.store.now.lists in
    let t = c.grow_memory.new.store.lists in
    let stack = c.args.stack.now.items in
    let most = c.page_limit.result in
    let more = c.topmost-more.result in
    let cost : c.growth_cost.result ≡ cost_at s most more = c.growth_cost.ensures.cost ∙ ap (λ (k : ℕ). cond (nat_le (k + more) most) (1 + more) 1) c.pages.ensures.pages in
    let p = charge_fits c.charge.result used limit c.growth_cost.result c.charge.new.self.used c.if-not-charge.false c.charge.ensures.fits c.charge.ensures.used in
    subst (λ (ns : List ℕ). Follows none_answers v limit (alone_at s used d) (On (behind here here.top)) callers ns tt t c.charge.new.self.used) (sym c.replace_topmost.ensures)
    (follows_as none_answers v limit (alone_at s used d) (On (behind here here.top)) (On (behind here here.top)) callers (slice_set stack (here.top - 1) c.in_ok-number.number) tt t (used + cost_at s most more) c.charge.new.self.used
    refl (p.1 ∙ ap (λ (k : ℕ). used + k) cost)
    (grow_follows_at v here callers stack s used limit d x most more c.page_limit.ensures.limit (c.topmost-more.ensures ∙ ap (λ (ns : List ℕ). slice_index ns (c.args.here.top - 1)) c.as_slice.ensures.value) (subst (λ (k : ℕ). used + k ≤ limit) cost p.0) t c.in_ok-number.number c.in_ok-number.ensures.grew))

pub returns-then-not-charge-clause-same : goal.returns-then-not-charge-clause-same
returns-then-not-charge-clause-same c = trap_same c.args.here trap.Limit c.trapped.result c.trapped.ensures
