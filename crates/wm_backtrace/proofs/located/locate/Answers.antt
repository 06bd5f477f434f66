use Rattle.std.proofs.Common.{ap, sym, ◌∙◌}
use Rattle.std.specs.Option.{option_copied}
use Rattle.wm_run.specs.declared.backtrace.Backtrace.{Backtrace}
use Rattle.wm_backtrace.proofs.located.locate.Goals as goal

pub returns-clause-places : goal.returns-clause-places
returns-clause-places c =
    let sites = c.deref.ensures.value ∙ ap (λ (b : Backtrace). b.sites) c.backtrace.view_is in
    (option_copied c.listing.result, rw (sym c.module.ensures.same, sym sites) c.in_ok-places_of.ensures)
