use Rattle.std.proofs.Common.{◌≡◌, ◌<◌, ◌≤◌, ℕ, length, Option, Some, None, ap, sym, ◌∙◌, arith}
use Rattle.std.specs.Prelude.{Result, Ok, Err, IfOk}
use Rattle.ic_behaviour.specs.State.{State}
use Rattle.ic_behaviour.specs.declared.charge.Charge.{Charge}
use Rattle.ic_script.specs.declared.Ask.{Ask}
use Rattle.ct_outcomes.specs.declared.came.Came.{Came}
use Rattle.ct_run.specs.Called.{Done, most_calls, acts_of_rounds, after_acts, called, came_now, if_accepted}
use Rattle.ct_run.proofs.Calls.{call_accepted, call_refused, call_too_many}
use Rattle.ct_run.proofs.runner.Runner.call.Goals as goal

finished : {E : Type 0} (charge : Charge) (s : State) (ask : Ask) (t : State) (number : ℕ) (r : Result (State × Came) E) → length s.requests < most_calls → ◌≡◌ {A = State × Option ℕ} (t, Some number) (if_accepted charge s ask)
    → IfOk r (λ done. done.0 ≡ after_acts charge t (acts_of_rounds charge t)) → IfOk r (λ done. done.1 ≡ came_now number done.0) → Done charge s (called charge s ask) r
finished charge s ask t number (Ok done) few is state came = call_accepted charge s ask few t number is done.0 done.1 state came
finished charge s ask t number (Err e) few is state came = tt

pub returns-then-calls_made-ge-MOST_CALLS : goal.returns-then-calls_made-ge-MOST_CALLS
returns-then-calls_made-ge-MOST_CALLS g c =
    let many : most_calls ≤ length c.args.world.requests = omega (arith, c.if-calls_made-ge-MOST_CALLS.true, c.calls_made.ensures) in
    call_too_many c.args.self.now.charge c.args.world c.args.ask many

pub returns-in-Some : goal.returns-in-Some
returns-in-Some g c =
    let few : length c.args.world.requests < most_calls = omega (arith, c.if-calls_made-ge-MOST_CALLS.false, c.calls_made.ensures) in
    let is : ◌≡◌ {A = State × Option ℕ} (c.in_ok-world.world, Some c.in-Some.number) (if_accepted c.args.self.now.charge c.args.world c.args.ask) = ap (λ (n : Option ℕ). (c.in_ok-world.world, n)) (sym c.in-Some.is) ∙ c.in_ok-world.ensures in
    finished c.args.self.now.charge c.args.world c.args.ask c.in_ok-world.world c.in-Some.number c.finish.result few is c.finish.ensures.state c.finish.ensures.came

pub returns-in-None : goal.returns-in-None
returns-in-None g c =
    let few : length c.args.world.requests < most_calls = omega (arith, c.if-calls_made-ge-MOST_CALLS.false, c.calls_made.ensures) in
    let is : ◌≡◌ {A = State × Option ℕ} (c.in_ok-world.world, None) (if_accepted c.args.self.now.charge c.args.world c.args.ask) = ap (λ (n : Option ℕ). (c.in_ok-world.world, n)) (sym c.in-None.is) ∙ c.in_ok-world.ensures in
    call_refused c.args.self.now.charge c.args.world c.args.ask few c.in_ok-world.world is
