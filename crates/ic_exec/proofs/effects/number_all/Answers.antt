use Rattle.std.proofs.Common.{rules, sym, ◌∙◌}
use Rattle.ic_exec.proofs.Numbers.{next_fits, next_numbered, all_numbered}
use Rattle.ic_exec.proofs.effects.number_all.Goals as goal

pub loop-call-init : goal.loop-call-init
loop-call-init c = record {
  messages_so_far = c.new.ensures.items;
  number_so_far = search rules;
  whole = sym (c.into_iter-call-iterator.ensures.into_iter_gives.0 ∙ c.calls.view_is);
}

pub overflow_add-number : goal.overflow_add-number
overflow_add-number c =
    let l = c.loop-call in
    record { fits = next_fits _ _ _ _ _ _ _ _ l.invariant c.in-Some.call c.next.new.self.rest.items c.in-Some.ensures.steps.0 c.requires }

pub loop-call-preserved : goal.loop-call-preserved
loop-call-preserved c =
    let l = c.loop-call in
    next_numbered _ _ _ _ _ _ _ _ l.invariant c.in-Some.call c.next.new.self.rest.items c.push.new.self c.number_call.result c.in-Some.ensures.steps.0 c.in_ok-push.ensures c.number_call.ensures

pub returns : goal.returns
returns c = all_numbered _ _ _ _ _ _ _ _ c.loop-call.invariant (sym c.loop-call.call-iterator.rest.ok.0 ∙ c.in-None.ensures.steps.0)
