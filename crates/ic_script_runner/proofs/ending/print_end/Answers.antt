use Rattle.std.proofs.Common.{◌≡◌, ◌++◌, List, subst, rules}
use Rattle.ic_behaviour.specs.declared.request.Request.{Request}
use Rattle.ic_script_runner.specs.declared.status.Status.TheVariants.{Done}
use Rattle.ic_script_runner.specs.Acts.{Concludes}
use Rattle.ic_script_runner.specs.EndPart.{answers_from}
use Rattle.ic_output.specs.Texts.{closing}
use Rattle.ic_script_runner.specs.Sending.{sink_at}
use Rattle.ic_script_runner.proofs.Gathering.{Concludes-more, Concludes-never}
use Rattle.ic_script_runner.proofs.ending.print_end.Goals as goal

pub returns-in-Ok : goal.returns-in-Ok
returns-in-Ok g c =
    let is : c.deref.result.now ≡ c.args.world.now.requests = search rules in
    let old = sink_at g.K.Sink.taken g.K.Sink.fits g.K.Sink.faults c.args.sink.now in
    let new = sink_at g.K.Sink.taken g.K.Sink.fits g.K.Sink.faults c.print_state.new.sink in
    let P = λ (rs : List Request). Concludes old new (record { bytes = c.args.gathered.now ++ (answers_from 0 rs ++ closing c.args.world.now); status = Done }) c.print_state.result in
    subst P is (Concludes-more old (sink_at g.K.Sink.taken g.K.Sink.fits g.K.Sink.faults c.print_answers.new.sink) new c.in-Ok.ensures.0 c.args.gathered.now (answers_from 0 c.deref.result.now)
    c.print_answers.new.gathered (closing c.args.world.now) Done c.print_state.result c.in-Ok.ensures.1 c.in-Ok.ensures.2 c.print_state.ensures)

pub returns-in-Err : goal.returns-in-Err
returns-in-Err g c =
    let is : c.deref.result.now ≡ c.args.world.now.requests = search rules in
    let old = sink_at g.K.Sink.taken g.K.Sink.fits g.K.Sink.faults c.args.sink.now in
    let new = sink_at g.K.Sink.taken g.K.Sink.fits g.K.Sink.faults c.print_answers.new.sink in
    let P = λ (rs : List Request). Concludes old new (record { bytes = c.args.gathered.now ++ (answers_from 0 rs ++ closing c.args.world.now); status = Done }) c.in-Err.status in
    subst P is (Concludes-never old new c.args.gathered.now (answers_from 0 c.deref.result.now) (closing c.args.world.now) Done c.in-Err.status c.in-Err.ensures)
