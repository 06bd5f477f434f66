use Rattle.std.proofs.Common.{◌<◌, ◌^◌, refl, sym, arith}
use Rattle.ic_behaviour.specs.Executing.{view}
use Rattle.ic_state.specs.declared.canister.Canister.{Canister}
use Rattle.ic_state.specs.Seen.{seen}
use Rattle.ic_exec.proofs.Rooms.{Sees, sees_view, sees_answer, cycles_seen, room_of}
use Rattle.ic_exec.proofs.AnswerRuns.{returns_done, traps_done}
use Rattle.ic_exec.proofs.answers.run_callback.Goals as goal

pub attempt-requires-clause-cycles : goal.attempt-requires-clause-cycles
attempt-requires-clause-cycles c =
    let a : Canister = c.args.canister.now in
    let x = c.args.context.now in
    let v = c.with_answer-view.result in
    let sees : Sees a x v = sees_answer a x c.view_in.result v c.args.answer.response c.args.answer.refund (sees_view a x c.env-env.result c.view_in.result c.view_in.ensures) c.with_answer-view.ensures in
    cycles_seen a c.args.place x v c.requires.keeps c.requires.place c.requires.there sees

pub returned-requires-clause-room : goal.returned-requires-clause-room
returned-requires-clause-room c =
    let a : Canister = c.args.canister.now in
    let x = c.args.context.now in
    let v = c.with_answer-view.result in
    let sees : Sees a x v = sees_answer a x c.view_in.result v c.args.answer.response c.args.answer.refund (sees_view a x c.env-env.result c.view_in.result c.view_in.ensures) c.with_answer-view.ensures in
    let small : a.next_call < 2 ^ 64 = omega arith in
    room_of a c.args.place x v c.requires.keeps c.requires.place c.requires.there c.attempt.new.store c.kind_of-kind.result c.in_ok-ended.field-0.ended c.in-Ok.effects sees small c.in_ok-ended.ensures.lawful (cc)

pub clean_up-requires-clause-cycles : goal.clean_up-requires-clause-cycles
clean_up-requires-clause-cycles c =
    let a : Canister = c.args.canister.now in
    let x = c.args.context.now in
    cycles_seen a c.args.place x (view c.env-env.result (seen a) x) c.requires.keeps c.requires.place c.requires.there (sees_view a x c.env-env.result (view c.env-env.result (seen a) x) refl)

pub returns-in-Ok-clause-work : goal.returns-in-Ok-clause-work
returns-in-Ok-clause-work c =
    rw (sym c.env-env.ensures.value) (returns_done c.args.canister.now c.args.context.now c.env-env.result c.args.answer.callback c.args.answer.response c.args.answer.refund c.target_of-target.result c.kind_of-kind.result c.view_in.result c.with_answer-view.result
    c.attempt.new.store c.in_ok-ended.field-0 c.in-Some.code c.target_of-target.ensures c.kind_of-kind.ensures c.view_in.ensures c.with_answer-view.ensures c.in-Some.is (rw (sym c.get.ensures) c.in_ok-ended.ensures.entered) (rw (sym c.get.ensures) c.in_ok-ended.ensures.store)
    c.returned.new.canister c.in-Ok.effects c.returned.result (cc) c.returned.ensures.work)

pub returns-in_ok-more-in-Err-clause-work : goal.returns-in_ok-more-in-Err-clause-work
returns-in_ok-more-in-Err-clause-work c =
    rw (sym c.env-env.ensures.value) (traps_done c.args.canister.now c.args.context.now c.env-env.result c.args.answer.callback c.args.answer.response c.args.answer.refund c.target_of-target.result c.kind_of-kind.result c.view_in.result c.with_answer-view.result
    c.attempt.new.store c.in_ok-ended.field-0 c.in-Some.code c.target_of-target.ensures c.kind_of-kind.ensures c.view_in.ensures c.with_answer-view.ensures c.in-Some.is (rw (sym c.get.ensures) c.in_ok-ended.ensures.entered) (rw (sym c.get.ensures) c.in_ok-ended.ensures.store)
    c.clean_up.new.canister c.clean_up.new.canister.store c.silent.result c.in-Err.cause c.in_ok-more-in-Err.more (cc) c.in_ok-more-in-Err.ensures.rest c.in_ok-more-in-Err.ensures.store c.silent.ensures)
