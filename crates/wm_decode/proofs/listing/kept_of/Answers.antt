use Rattle.std.proofs.Common.{ap, subst}
use Rattle.ic_base.specs.Gives.{Fails}
use Rattle.wm_decode.specs.Mod.{Section}
use Rattle.wm_decode.specs.Readers.{section_at}
use Rattle.wm_decode.proofs.ListingSteps.{no_more_kept, one_kept, all_kept}
use Rattle.wm_decode.proofs.listing.kept_of.Goals as goal

pub returns-in-Err-Refused : goal.returns-in-Err-Refused
returns-in-Err-Refused c =
    let none = subst (λ e. Fails e (section_at c.loop.rest.now)) c.in-Err-Refused.field-0-is c.in-Err-Refused.ensures in
    no_more_kept c.args.all c.loop.counter c.args.all c.loop.rest.now c.loop.listing _ c.loop-test.true none c.loop.invariant

pub loop-preserved : goal.loop-preserved
loop-preserved c =
    rw (c.in_ok-keep-in-Ok.ensures, c.saturating_sub-at.ensures, c.saturating_sub.ensures, ap (λ (s : Section). s.content) c.section.view_is)
    (one_kept c.args.all c.loop.counter c.args.all c.loop.rest.now c.in-Ok.after.now c.in-Ok.section c.loop.listing _ c.loop-test.true c.in-Ok.ensures c.loop.invariant)

pub returns : goal.returns
returns c = all_kept c.args.all c.loop.counter c.args.all c.loop.rest.now c.loop.listing _ c.loop-test.false c.loop.invariant
