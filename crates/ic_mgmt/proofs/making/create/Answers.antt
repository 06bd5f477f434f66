use Rattle.std.proofs.Common.{sym}
use Rattle.ic_state.specs.Seen.{state_of}
use Rattle.ic_mgmt.proofs.Makes.{creates_is}
use Rattle.ic_mgmt.proofs.making.create.Goals as goal

pub returns-clause-does : goal.returns-clause-does
returns-clause-does c =
    creates_is c.args.call.now (state_of c.args.parts.now) (state_of c.add.new.parts) c.args.named c.in_ok-controllers.controllers c.in_ok-controllers.ensures.value (sym c.in_ok-unless_full.ensures)
    c.replied.result c.in_ok-id.id c.in_ok-told.told c.in_ok-id.ensures.id c.in_ok-id.ensures.made c.replied.ensures c.in_ok-told.ensures
