use Rattle.std.proofs.Common.{◌<◌, ◌^◌, sym, arith}
use Rattle.ic_state.specs.declared.canister.Canister.{Canister}
use Rattle.ic_exec.proofs.Rooms.{Sees, sees_view, sees_call, cycles_seen, room_of, room_alone}
use Rattle.ic_exec.proofs.CallRuns.{query_done}
use Rattle.ic_exec.proofs.calls.run_call.Goals as goal

pub attempt-requires-clause-cycles : goal.attempt-requires-clause-cycles
attempt-requires-clause-cycles c =
    let a : Canister = c.args.canister.now in
    let x = c.args.context.now in
    let sees : Sees a x c.with_call-view.result = sees_call a x c.view_in.result c.with_call-view.result c.args.method.name c.args.method.arg (sees_view a x c.args.env c.view_in.result c.view_in.ensures) c.with_call-view.ensures in
    cycles_seen a c.args.place x c.with_call-view.result c.requires.keeps c.requires.place c.requires.there sees

pub returned-requires-clause-room : goal.returned-requires-clause-room
returned-requires-clause-room c =
    let a : Canister = c.args.canister.now in
    let x = c.args.context.now in
    let sees : Sees a x c.with_call-view.result = sees_call a x c.view_in.result c.with_call-view.result c.args.method.name c.args.method.arg (sees_view a x c.args.env c.view_in.result c.view_in.ensures) c.with_call-view.ensures in
    let small : a.next_call < 2 ^ 64 = omega arith in
    room_of a c.args.place x c.with_call-view.result c.requires.keeps c.requires.place c.requires.there c.attempt.new.store c.parts_of-function.result.1 c.in_ok-ended.field-0.ended c.in-Ok.effects sees small c.in_ok-ended.ensures.lawful (cc)

pub returned-requires-else-keeps-clause-room : goal.returned-requires-else-keeps-clause-room
returned-requires-else-keeps-clause-room c =
    let a : Canister = c.args.canister.now in
    let small : a.next_call < 2 ^ 64 = omega arith in
    room_alone a c.args.place c.args.context.now c.with_call-view.result c.requires.keeps c.requires.place c.requires.there c.attempt.new.store c.in-Ok.effects c.in_ok-effects-in-Ok.effects small c.in_ok-effects-in-Ok.ensures

pub returns-in_ok-effects-in-Ok-clause-work : goal.returns-in_ok-effects-in-Ok-clause-work
returns-in_ok-effects-in-Ok-clause-work c =
    query_done c.args.canister.now c.returned-else-keeps.new.canister c.args.context.now c.args.env c.args.method.name c.args.method.arg c.args.method.entry c.parts_of-function.result c.view_in.result c.with_call-view.result
    c.attempt.new.store c.in_ok-ended.field-0 c.in-Ok.effects c.in_ok-effects-in-Ok.effects c.in-Some.code c.returned-else-keeps.result c.parts_of-function.ensures c.if-keeps.false c.view_in.ensures
    c.with_call-view.ensures (c.in_ok-ended.ensures.undone c.if-keeps.false) c.in-Some.is (rw (sym c.get.ensures) c.in_ok-ended.ensures.entered) (cc) c.in_ok-effects-in-Ok.ensures c.returned-else-keeps.ensures.work
