use Rattle.std.proofs.Common.{arith}
use Rattle.ct_check.specs.Naming.{meaning_in}
use Rattle.ct_check.proofs.Names.{meanings_start, meanings_end}
use Rattle.ct_check.proofs.checker.Checker.meanings.Goals as goal

pub loop-index-init : goal.loop-index-init
loop-index-init c = rw c.new-meanings.ensures.items (meanings_start (meaning_in c.args.self.now) c.in_ok-roles.roles.items c.args.tokens.now c.in_ok-roles.ensures)

pub returns : goal.returns
returns c = meanings_end (meaning_in c.args.self.now) c.loop-index.meanings.items _ c.in_ok-roles.roles.items c.args.tokens.now c.loop-index.index (omega (arith, c.loop-index-test.false)) c.loop-index.invariant
