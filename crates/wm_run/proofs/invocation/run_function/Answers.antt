use Rattle.std.proofs.Common.{◌≡◌, ℕ, List, length, arith, sym, subst, reverse}
use Rattle.wm_semantics.specs.Steps.{state, outcome, Reaches}
use Rattle.wm_semantics.specs.Begin.{calling}
use Rattle.wm_run.specs.declared.activation.Activation.{Activation}
use Rattle.wm_words.specs.Stacks.{SameBelow}
use Rattle.wm_run.specs.Activations.{Laid, Running}
use Rattle.wm_run.specs.Firsts.{i32s, AsksAlone}
use Rattle.wm_run.specs.UnderWay.{TrappedIn}
use Rattle.wm_run.proofs.ByTable.{own_index}
use Rattle.wm_run.proofs.Firsts.{first, there, params_there, params_fit, runs, ends_in, asks, asks_in}
use Rattle.wm_run.proofs.invocation.run_function.Goals as goal

pub frame_of-requires : goal.frame_of-requires
frame_of-requires g c = there c.args.valid.now c.args.store.now.lists c.args.function c.args.stacks.now.operands.items c.requires.first c.in-Own.number c.in-Own.ensures

pub push_frame-requires-clause-arguments : goal.push_frame-requires-clause-arguments
push_frame-requires-clause-arguments g c =
    omega (
      arith,
      c.len-top.ensures,
      c.args.stacks.now.operands.ok.0,
      params_there c.args.valid.now c.args.store.now.lists c.args.function c.args.stacks.now.operands.items c.requires.first c.in-Own.number c.in-Own.ensures c.frame_of.result c.frame_of.ensures,
    )

pub push_frame-requires-clause-locals : goal.push_frame-requires-clause-locals
push_frame-requires-clause-locals g c =
    params_fit c.args.valid.now c.args.store.now.lists c.args.function c.args.stacks.now.operands.items c.requires.first c.in-Own.number c.in-Own.ensures c.frame_of.result c.frame_of.ensures

pub run-requires : goal.run-requires
run-requires g c =
    let v = c.args.valid.now in
    let s = c.args.store.now.lists in
    let f = c.args.function in
    let args = c.args.stacks.now.operands.items in
    let n = c.in-Own.number in
    let b = c.in_ok-first-in-Own.first in
    let stack = c.push_frame.new.stack.items in
    let used = c.args.meter.now.used in
    let top : c.len-top.result ≡ length args = omega (arith, c.len-top.ensures, c.args.stacks.now.operands.ok.0) in
    record {
      running = (
        first v s f args c.requires.first n c.in-Own.ensures,
        subst (λ (as' : List Activation). Running v b (reverse as') stack s used (first v s f args c.requires.first n c.in-Own.ensures)) (sym c.requires.alone)
            (runs v s f args c.requires.first n c.in-Own.ensures c.frame_of.result c.frame_of.ensures stack b
            (subst (λ (k : ℕ). Laid c.frame_of.result n k stack b) top c.in_ok-first-in-Own.ensures.laid)
            (subst (λ (k : ℕ). SameBelow k args stack) top c.in_ok-first-in-Own.ensures.same) used),
      );
      alone = c.requires.alone;
    }

pub call_alone-requires : goal.call_alone-requires
call_alone-requires g c =
    let v = c.args.valid.now in
    let s = c.args.store.now.lists in
    let f = c.args.function in
    let n = c.in-Host.number in
    record {
      asks = (v, f, subst (λ (ns : List ℕ). AsksAlone v s f ns n) (sym c.as_slice.ensures.value) (asks v s f c.args.stacks.now.operands.items c.requires.first n c.in-Host.ensures));
    }

pub returns-in_ok-ended-in-Own-clause-ends : goal.returns-in_ok-ended-in-Own-clause-ends
returns-in_ok-ended-in-Own-clause-ends g c =
    let v = c.args.valid.now in
    let s = c.args.store.now.lists in
    let f = c.args.function in
    let args = c.args.stacks.now.operands.items in
    let n = c.in-Own.number in
    let b = c.in_ok-first-in-Own.first in
    let stack = c.push_frame.new.stack.items in
    let used = c.args.meter.now.used in
    let limit = c.args.meter.now.limit in
    let host = c.args.host.now in
    let top : c.len-top.result ≡ length args = omega (arith, c.len-top.ensures, c.args.stacks.now.operands.ok.0) in
    let laid : Laid c.frame_of.result n (length args) stack b = subst (λ (k : ℕ). Laid c.frame_of.result n k stack b) top c.in_ok-first-in-Own.ensures.laid in
    let same : SameBelow (length args) args stack = subst (λ (k : ℕ). SameBelow k args stack) top c.in_ok-first-in-Own.ensures.same in
    ends_in v s f args c.requires.first n c.in-Own.ensures c.frame_of.result c.frame_of.ensures stack b laid same used g.H.Host.answers limit host
    (outcome c.in_ok-ended-in-Own.field-0.ended c.run.new.host c.run.new.store.lists c.run.new.meter.used)
    (c.in_ok-ended-in-Own.ensures.reaches (first v s f args c.requires.first n c.in-Own.ensures)
    (subst (λ (as' : List Activation). Running v b (reverse as') stack s used (first v s f args c.requires.first n c.in-Own.ensures)) (sym c.requires.alone)
    (runs v s f args c.requires.first n c.in-Own.ensures c.frame_of.result c.frame_of.ensures stack b laid same used)))

pub returns-in_ok-ended-in-Host-clause-ends : goal.returns-in_ok-ended-in-Host-clause-ends
returns-in_ok-ended-in-Host-clause-ends g c =
    let v = c.args.valid.now in
    let s = c.args.store.now.lists in
    let f = c.args.function in
    let args = c.args.stacks.now.operands.items in
    let n = c.in-Host.number in
    let used = c.args.meter.now.used in
    let limit = c.args.meter.now.limit in
    let host = c.args.host.now in
    asks_in v s f args c.requires.first n c.in-Host.ensures g.H.Host.answers limit host used (outcome c.in_ok-ended-in-Host.ended c.call_alone.new.host c.call_alone.new.store.lists c.call_alone.new.meter.used)
    (subst (λ (ns : List ℕ). Reaches g.H.Host.answers v.module limit (state host s used (calling f (i32s ns))) (outcome c.in_ok-ended-in-Host.ended c.call_alone.new.host c.call_alone.new.store.lists c.call_alone.new.meter.used)) c.as_slice.ensures.value
    (c.in_ok-ended-in-Host.ensures.reaches v f (subst (λ (ns : List ℕ). AsksAlone v s f ns n) (sym c.as_slice.ensures.value) (asks v s f args c.requires.first n c.in-Host.ensures))))

pub returns-in_ok-ended-in-Own-clause-under_way : goal.returns-in_ok-ended-in-Own-clause-under_way
returns-in_ok-ended-in-Own-clause-under_way g c =
    let v = c.args.valid.now in
    let done = c.in_ok-ended-in-Own.field-0 in (
      c.in-Own.number,
      own_index v c.args.function c.in-Own.number c.requires.first.valid c.in-Own.ensures,
      subst (λ (n : ℕ). TrappedIn v n done.at (reverse c.run.new.stacks.callers.items) done.ended) c.in_ok-first-in-Own.ensures.laid.function_is c.in_ok-ended-in-Own.ensures.under_way,
    )
