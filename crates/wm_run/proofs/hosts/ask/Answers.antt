use Rattle.std.proofs.Common.{◌≡◌, ◌≤◌, ◌+◌, ◌-◌, ℕ, List, refl, sym, ap, ◌∙◌, subst, take, drop, length}
use Rattle.wm_semantics.specs.Hosts.{IsAsked}
use Rattle.wm_run.proofs.Asking.{named, few, said_as, is_asked, can_answer, answer_follows}
use Rattle.wm_run.proofs.UnderWay.{answered_same}
use Rattle.wm_run.proofs.hosts.ask.Goals as goal

between_is : (top low : ℕ) (stack stack' ns : List ℕ) → stack' ≡ stack → ns ≡ take (top - low) (drop low stack') → ns ≡ take (top - low) (drop low stack)
between_is top low stack stack' ns e is = is ∙ ap (λ (xs : List ℕ). take (top - low) (drop low xs)) e

pub parameters-requires : goal.parameters-requires
parameters-requires g c =
    let x = c.requires.asking in
    named x.0 c.args.here x.1 c.args.stack.now.items c.args.store.now.lists x.2 c.args.number x.3

pub overflow_sub-low : goal.overflow_sub-low
overflow_sub-low g c =
    let x = c.requires.asking in
    subst (λ (k : ℕ). k ≤ c.args.here.top) (sym (c.parameters.ensures x.3.call x.3.call_is))
    (few x.0 c.args.here x.1 c.args.stack.now.items c.args.store.now.lists x.2 c.args.number x.3 x.3.call x.3.call_is)

pub between-requires-clause-within : goal.between-requires-clause-within
between-requires-clause-within g c = subst (λ (ns : List ℕ). c.args.here.top ≤ length ns) (sym c.as_slice.ensures.value) c.requires.asking.3.within

pub call-requires : goal.call-requires
call-requires g c =
    let x = c.requires.asking in
    subst (λ (ns : List ℕ). IsAsked c.args.number ns) (sym (between_is c.args.here.top (c.args.here.top - c.parameters.result) c.args.stack.now.items c.as_slice.result.now c.between.result.now c.as_slice.ensures.value c.between.ensures))
    (is_asked x.0 c.args.here x.1 c.args.stack.now.items c.args.store.now.lists x.2 c.args.number x.3 c.parameters.result c.parameters.ensures)

pub take_answer-requires-clause-room : goal.take_answer-requires-clause-room
take_answer-requires-clause-room g c =
    let x = c.requires.asking in
    let limit = c.args.meter.now.limit in
    let before = c.requires.paid.0 in
    let s = c.args.store.now.lists in
    can_answer x.0 c.args.here x.1 c.args.stack.now.items s x.2 c.args.number x.3 c.parameters.result c.parameters.ensures g.H.Host.answers g.met.H.Host.lawful limit before c.args.host.now c.in_ok-answer.answer
    c.call.new.self c.call.new.store.lists c.call.new.meter.used
    (said_as g.H.Host.answers c.args.host.now c.args.number _ c.between.result.now s limit limit (before + 1) c.args.meter.now.used c.in_ok-answer.answer c.call.new.self c.call.new.store.lists c.call.new.meter.used
    (between_is c.args.here.top (c.args.here.top - c.parameters.result) c.args.stack.now.items c.as_slice.result.now c.between.result.now c.as_slice.ensures.value c.between.ensures) refl (sym c.requires.paid.1) c.in_ok-answer.ensures.answers)

pub returns-clause-follows : goal.returns-clause-follows
returns-clause-follows g c =
    λ v callers d before fits paid x.
    let limit = c.args.meter.now.limit in
    let s = c.args.store.now.lists in
    answer_follows v c.args.here callers c.args.stack.now.items s d c.args.number x c.parameters.result c.parameters.ensures g.H.Host.answers g.met.H.Host.lawful limit before c.args.host.now c.in_ok-answer.answer
    c.call.new.self c.call.new.store.lists c.call.new.meter.used
    (said_as g.H.Host.answers c.args.host.now c.args.number _ c.between.result.now s limit limit (before + 1) c.args.meter.now.used c.in_ok-answer.answer c.call.new.self c.call.new.store.lists c.call.new.meter.used
    (between_is c.args.here.top (c.args.here.top - c.parameters.result) c.args.stack.now.items c.as_slice.result.now c.between.result.now c.as_slice.ensures.value c.between.ensures) refl (sym paid) c.in_ok-answer.ensures.answers)
    fits c.take_answer.new.stack.items c.take_answer.result c.take_answer.ensures

pub returns-clause-same : goal.returns-clause-same
returns-clause-same g c =
    answered_same c.in_ok-answer.answer c.args.here (c.args.here.top - c.parameters.result) c.args.stack.now.items c.take_answer.new.stack.items c.take_answer.result c.take_answer.ensures
