use Rattle.std.proofs.Common.{sym, ◌∙◌}
use Rattle.ic_behaviour.specs.State.{at, callee_of}
use Rattle.ic_behaviour.specs.declared.call.Message.{Message}
use Rattle.ct_run.proofs.Hearings.{first_is, first_end}
use Rattle.ct_run.proofs.hearing.first_place.Goals as goal

pub returns-in-Some : goal.returns-in-Some
returns-in-Some c = first_is (λ (m : Message). at c.args.id.now (callee_of m)) c.args.world.now.messages c.in-Some.place (sym c.first_for.ensures ∙ c.in-Some.is)

pub returns-in-None : goal.returns-in-None
returns-in-None c = c.message_count.ensures ∙ first_end (λ (m : Message). at c.args.id.now (callee_of m)) c.args.world.now.messages (sym c.first_for.ensures ∙ c.in-None.is)
