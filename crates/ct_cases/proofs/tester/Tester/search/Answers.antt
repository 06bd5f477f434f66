use Rattle.std.proofs.Common.{List, map, refl, sym, ap, ◌∙◌, subst}
use Rattle.std.specs.Prelude.{All}
use Rattle.ct_search.specs.declared.case.Case.{Case as Met}
use Rattle.ct_search.specs.Visits.{IsVisit, IsMore}
use Rattle.ct_search.specs.Search.{all_seen, AreHeld}
use Rattle.ct_worlds.specs.declared.worlds.NamedWorld.{NamedWorld}
use Rattle.ct_worlds.specs.Worlds.{worlds, IsKeptNamed, named_at}
use Rattle.ct_cases.specs.Holding.{Testing}
use Rattle.ct_cases.proofs.Searched.{grows_kept, grows_both, met_by, complete_by, more_by, kept_again, both_held, both_sound}
use Rattle.ct_cases.proofs.tester.Tester.search.Goals as goal

pub returns-then-met-clause-grows : goal.returns-then-met-clause-grows
returns-then-met-clause-grows g c = grows_kept c.args.tables.now _ c.in_ok-met.ensures.stays refl

pub returns-then-met-clause-complete : goal.returns-then-met-clause-complete
returns-then-met-clause-complete g c =
    complete_by c.worlds-worlds.result.charge c.args.self.now.setting.charge c.worlds-worlds.ensures (map (named_at c.args.tables.now.keeper) c.args.starts.items) _ _ c.in_ok-met.met.all
    c.in_ok-met.ensures.met c.if-met.true

pub dive-requires : goal.dive-requires
dive-requires g c =
    kept_again c.args.tables.now.keeper c.explore.new.keeper c.in_ok-met.ensures.stays c.args.starts.items c.in_ok-again.again.items (c.in_ok-again.ensures ∙ c.deref.ensures.value) c.requires

pub returns-clause-grows : goal.returns-clause-grows
returns-clause-grows g c = grows_both c.args.tables.now _ c.explore.new.keeper c.in_ok-met.ensures.stays c.in_ok-others.ensures.stays refl

pub returns-clause-held : goal.returns-clause-held
returns-clause-held g c =
    subst (AreHeld IsKeptNamed c.dive.new.keeper) (sym c.in_ok-append.ensures.items)
    (both_held c.args.tables.now.keeper c.explore.new.keeper c.dive.new.keeper c.in_ok-met.ensures.stays c.in_ok-others.ensures.stays c.in_ok-met.met.cases.items c.in_ok-others.others.items
    c.in_ok-met.ensures.held c.in_ok-others.ensures.held)

pub returns-clause-sound : goal.returns-clause-sound
returns-clause-sound g c =
    let old = c.args.tables.now.keeper in
    let mid = c.explore.new.keeper in
    let charge = c.args.self.now.setting.charge in
    let starts = map (named_at old) c.args.starts.items in
    let cases = c.in_ok-met.met.cases.items in
    let others = c.in_ok-others.others.items in
    let same = c.worlds-worlds.ensures in
    let first = met_by c.worlds-worlds.result.charge charge same starts 0 (all_seen named_at mid cases) c.in_ok-met.ensures.met.met in
    let then = met_by c.worlds-worlds.result.charge charge same (map (named_at mid) c.in_ok-again.again.items) 0 (all_seen named_at c.dive.new.keeper others) c.in_ok-others.ensures.met in
    subst (λ (l : List (Met NamedWorld)). All (IsVisit (worlds charge.limit charge.price) starts) (all_seen named_at c.dive.new.keeper l)) (sym c.in_ok-append.ensures.items)
    (both_sound old mid c.dive.new.keeper c.in_ok-met.ensures.stays c.in_ok-others.ensures.stays cases others charge c.args.starts.items c.in_ok-again.again.items
    (c.in_ok-again.ensures ∙ c.deref.ensures.value) c.requires c.in_ok-met.ensures.held first.visits then.visits)

pub returns-clause-more : goal.returns-clause-more
returns-clause-more g c =
    let charge = c.args.self.now.setting.charge in
    let starts = map (named_at c.args.tables.now.keeper) c.args.starts.items in
    subst (IsMore (worlds charge.limit charge.price) starts) (ap (λ (t : Testing). t.most) c.self.view_is)
    (more_by c.worlds-worlds.result.charge charge c.worlds-worlds.ensures starts c.self.inside.most _ c.in_ok-met.met.all c.in_ok-met.ensures.met c.if-met.false)
