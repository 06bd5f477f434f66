use Rattle.wm_typing.proofs.Lists.{table_done}
use Rattle.wm_typing.proofs.rules.br_table.Goals as goal

pub returns-then-all_take : goal.returns-then-all_take
returns-then-all_take c =
    table_done c.args.checker.now c.take.new.self c.take_maybe.new.self c.set_unreachable.new.self c.in_ok-t.t c.args.ls.now c.args.other
    c.in_ok-take.ensures c.in_ok-t.ensures c.in_ok-take_maybe.ensures c.if-all_take.ensures c.set_unreachable.ensures
