use Rattle.ct_search.proofs.Downward.{down_further}
use Rattle.ct_search.proofs.diving.go_down.Goals as goal

pub returns-in-None-clause-down : goal.returns-in-None-clause-down
returns-in-None-clause-down g c =
    down_further g.M.Machine.Holds g.M.Machine.state (g.M.Machine.meaning c.args.machine.now) c.args.most c.args.keeper.now c.loop.keeper c.find_new.new.keeper c.args.met.now.cases.items c.loop.met.cases.items c.find_new.new.met.cases.items
    c.loop.invariant.0 c.in_ok-case.ensures.down

pub loop-preserved : goal.loop-preserved
loop-preserved g c = (
  down_further g.M.Machine.Holds g.M.Machine.state (g.M.Machine.meaning c.args.machine.now) c.args.most c.args.keeper.now c.loop.keeper c.find_new.new.keeper c.args.met.now.cases.items c.loop.met.cases.items c.find_new.new.met.cases.items
      c.loop.invariant.0 c.in_ok-case.ensures.down,
  c.in_ok-put_moves-in-Some.ensures,
  c.in_ok-case.ensures.indexed,
)
