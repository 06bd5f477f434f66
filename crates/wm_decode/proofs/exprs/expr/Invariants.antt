use Rattle.std.proofs.Common.{◌≡◌, ◌-◌, length}
use Rattle.ic_base.proofs.Loops.{with_front}
use Rattle.wm_decode.specs.Readers.{words_at, expr_at}
use Rattle.wm_decode.proofs.exprs.expr.Given as goal

abbrev pub invariant-loop : goal.invariant-loop
invariant-loop l =
    with_front l.items.items (words_at l.profile.float (length l.bytes - l.counter) l.blocks l.rest) ≡ expr_at l.profile.float l.bytes
