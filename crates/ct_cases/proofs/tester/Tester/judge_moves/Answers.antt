use Rattle.std.proofs.Common.{sym, subst}
use Rattle.ct_cases.proofs.Judgements.{MovesSoFar, moves_none, moves_more, moves_refuted, moves_done}
use Rattle.ct_cases.proofs.tester.Tester.judge_moves.Goals as goal

pub loop-place-init : goal.loop-place-init
loop-place-init g c =
    subst (MovesSoFar c.args.self.now.setting c.args.names.now c.args.world c.args.moves.now c.args.accepted.now 0 c.args.world c.args.names.now) (sym c.new-bound.ensures.items)
    (moves_none c.args.self.now.setting c.args.names.now c.args.world c.args.moves.now c.args.accepted.now)

pub loop-place-preserved : goal.loop-place-preserved
loop-place-preserved g c =
    let judged = rw c.in-None.is at c.in_ok-same.ensures.judged in
    moves_more c.args.self.now.setting c.args.names.now c.args.world c.args.moves.now c.args.accepted.now c.loop-place.place c.loop-place.world c.loop-place.names c.loop-place.bound.items c.loop-place.invariant
    c.index-moves-place.result c.accepted_at-number.result c.loop-place-test.true c.index-moves-place.is c.accepted_at-number.ensures
    c.in_ok-same.same c.judge_move.new.names c.judge_move.new.bound.items c.in_ok-same.ensures.names judged

pub returns-in-Some : goal.returns-in-Some
returns-in-Some g c =
    let judged = rw c.in-Some.is at c.in_ok-same.ensures.judged in
    moves_refuted c.args.self.now.setting c.args.names.now c.args.world c.args.moves.now c.args.accepted.now c.loop-place.place c.loop-place.world c.loop-place.names c.loop-place.bound.items c.loop-place.invariant
    c.index-moves-place.result c.accepted_at-number.result c.loop-place-test.true c.index-moves-place.is c.accepted_at-number.ensures
    c.in_ok-same.same c.judge_move.new.bound.items c.in-Some.unmet.came judged

pub returns : goal.returns
returns g c =
    moves_done c.args.self.now.setting c.args.names.now c.args.world c.args.moves.now c.args.accepted.now c.loop-place.place c.loop-place.world c.loop-place.names c.loop-place.bound.items c.add_names.new.names
    c.loop-place.invariant c.loop-place-test.false c.in_ok-add_names.ensures
