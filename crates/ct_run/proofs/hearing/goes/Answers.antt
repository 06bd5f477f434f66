use Rattle.std.proofs.Common.{sym, ap, ◌∙◌, ◌&&◌, Bool, take}
use Rattle.std.specs.Prelude.{not, slice_get}
use Rattle.ic_schedule.specs.Picks.{goes_first}
use Rattle.ct_run.proofs.Hearings.{goes_is}
use Rattle.ct_run.proofs.hearing.goes.Goals as goal

pub returns-then-is_inside : goal.returns-then-is_inside
returns-then-is_inside c =
    let s = c.args.world.now in
    let message = slice_get s.messages c.args.place in
    sym (goes_is s c.args.place message ∙ ap (λ (b : Bool). not b && goes_first (take c.args.place s.messages) message) (sym c.is_inside.ensures ∙ c.if-is_inside.true))

pub returns : goal.returns
returns c =
    let s = c.args.world.now in
    let message = slice_get s.messages c.args.place in
    c.eligible.ensures.value ∙ sym (goes_is s c.args.place message ∙ ap (λ (b : Bool). not b && goes_first (take c.args.place s.messages) message) (sym c.is_inside.ensures ∙ c.if-is_inside.false))
