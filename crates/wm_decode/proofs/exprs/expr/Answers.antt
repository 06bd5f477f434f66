use Rattle.std.proofs.Common.{◌≡◌, ◌-◌, length, [], arith}
use Rattle.std.proofs.lemmas.Result.{err_from_is_err_and}
use Rattle.wm_decode.specs.Readers.{words_at, expr_at}
use Rattle.wm_decode.proofs.LoopSteps.{no_words_before, no_word, last_word, wrong_word, one_word, no_end}
use Rattle.wm_decode.proofs.exprs.expr.Goals as goal

pub loop-init : goal.loop-init
unfolding expr_at
loop-init c =
    let whole : length c.args.bytes.now - 0 ≡ length c.args.bytes.now = omega arith in
    rw (c.new-items.ensures.items, c.new-blocks.ensures, whole) (no_words_before (words_at c.args.profile.float (length c.args.bytes.now) [] c.args.bytes.now))

pub returns-in_err-instr : goal.returns-in_err-instr
returns-in_err-instr c =
    let p = err_from_is_err_and c.from_residual.result c.from_residual.ensures.1 in
    rw (p.1, p.2) (no_word c.in_err-instr.field-0.0 c.args.profile.float c.loop.items.items (length c.args.bytes.now) c.loop.counter c.loop.blocks c.loop.rest.now _ c.loop-test.true c.in_err-instr.ensures c.loop.invariant)

pub returns-in-Done : goal.returns-in-Done
returns-in-Done c =
    last_word c.args.profile.float c.loop.items.items (length c.args.bytes.now) c.loop.counter c.loop.blocks c.loop.rest.now c.in_ok-instr.after.now c.in_ok-instr.instr _ c.loop-test.true
    c.in_ok-instr.ensures (rw c.class_of.ensures at (rw c.in-Done.is at c.in_ok-go_on.ensures)) c.loop.invariant

pub returns-in-Wrong : goal.returns-in-Wrong
returns-in-Wrong c =
    wrong_word c.args.profile.float c.loop.items.items (length c.args.bytes.now) c.loop.counter c.loop.blocks c.loop.rest.now c.in_ok-instr.after.now c.in_ok-instr.instr _ c.loop-test.true
    c.in_ok-instr.ensures (rw c.class_of.ensures at (rw c.in-Wrong.is at c.in_ok-go_on.ensures)) c.loop.invariant

pub loop-preserved : goal.loop-preserved
loop-preserved c =
    rw c.in_ok-push-in-On.ensures.items
    (one_word c.args.profile.float c.loop.items.items (length c.args.bytes.now) c.loop.counter c.loop.blocks c.go_on.new.blocks c.loop.rest.now c.in_ok-instr.after.now c.in_ok-instr.instr _ c.loop-test.true
    c.in_ok-instr.ensures (rw c.class_of.ensures at (rw c.in-On.is at c.in_ok-go_on.ensures)) c.loop.invariant)

pub returns : goal.returns
returns c = no_end c.args.profile.float c.loop.items.items (length c.args.bytes.now) c.loop.counter c.loop.blocks c.loop.rest.now _ c.loop-test.false c.loop.invariant
