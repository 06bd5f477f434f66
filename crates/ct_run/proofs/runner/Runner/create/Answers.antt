use Rattle.std.proofs.Common.{◌≡◌, sym, subst, ◌∙◌}
use Rattle.ic_behaviour.specs.State.{State}
use Rattle.ic_behaviour.specs.declared.charge.Charge.{Charge}
use Rattle.ic_behaviour.specs.declared.install.Mode.TheVariants.{Install}
use Rattle.ct_outcomes.specs.declared.came.Came.{Came}
use Rattle.ct_asked.specs.declared.asked.Asked.{Asked}
use Rattle.ct_asked.specs.declared.asked.Asked.TheVariants.{Call}
use Rattle.ct_asked.specs.Asked.{unless_too_long}
use Rattle.ct_asked.specs.Requests.{creating, installing}
use Rattle.ct_run.specs.Called.{doing, after_acts}
use Rattle.ct_run.proofs.Calls.{made_none, made_some}
use Rattle.ct_run.proofs.runner.Runner.create.Goals as goal

-- what came of what is asked
abbrev DoneBy : Charge → State → Asked → State → Came → Type 0
DoneBy charge s asked end came = (end ≡ after_acts charge s (doing charge s asked).acts) × (came ≡ (doing charge s asked).came)

asked_as : (charge : Charge) (s : State) (asked other : Asked) (end : State) (came : Came) → asked ≡ other → DoneBy charge s asked end came → DoneBy charge s other end came
asked_as charge s asked other end came same done = subst (λ (a : Asked). DoneBy charge s a end came) same done

pub returns-in-None : goal.returns-in-None
returns-in-None g c =
    let done = asked_as c.args.self.now.charge c.args.world c.in_ok-asked.asked (unless_too_long Call (creating c.args.creation.0 c.args.cycles)) c.in_ok-world.world c.in_ok-world.came c.in_ok-asked.ensures c.in_ok-world.ensures in
    rw c.not_made.ensures (made_none c.args.self.now.charge c.args.world c.args.creation c.args.cycles c.in_ok-world.world c.in_ok-world.came done (sym c.in_ok-canister_of.ensures ∙ c.in-None.is))

pub returns-in_ok-world-in-Some : goal.returns-in_ok-world-in-Some
returns-in_ok-world-in-Some g c =
    let done = asked_as c.args.self.now.charge c.args.world c.in_ok-asked.asked (unless_too_long Call (creating c.args.creation.0 c.args.cycles)) c.in_ok-world.world c.in_ok-world.came c.in_ok-asked.ensures c.in_ok-world.ensures in
    let second = asked_as c.args.self.now.charge c.in_ok-world.world c.in_ok-asked-in-Some.asked (unless_too_long Call (installing c.args.creation.0 c.in-Some.id Install c.args.creation.1)) c.in_ok-world-in-Some.world c.in_ok-world-in-Some.came c.in_ok-asked-in-Some.ensures c.in_ok-world-in-Some.ensures in
    made_some c.args.self.now.charge c.args.world c.args.creation c.args.cycles c.in_ok-world.world c.in_ok-world.came c.in-Some.id done (sym c.in_ok-canister_of.ensures ∙ c.in-Some.is) c.in_ok-world-in-Some.world c.in_ok-world-in-Some.came second
