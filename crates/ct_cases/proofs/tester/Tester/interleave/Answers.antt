use Rattle.std.proofs.Common.{◌≡◌, List, map, sym, ◌∙◌, subst, inl}
use Rattle.std.specs.Prelude.{All, IfOk}
use Rattle.std.specs.List.{Any}
use Rattle.ct_check.specs.Moving.{Moving}
use Rattle.ct_worlds.specs.Worlds.{named_at}
use Rattle.ct_cases.specs.declared.interleaving.Interleaved.{Interleaved}
use Rattle.ct_cases.specs.Reached.{Reached}
use Rattle.ct_cases.specs.Cases.{AreBegun, Begins, IsStuckIn, all_reached}
use Rattle.ct_cases.specs.Answers.{IsInterleaved}
use Rattle.ct_cases.proofs.Stays.{all_reached_stay}
use Rattle.ct_cases.proofs.Ending.{all_as_they_were, ok_further}
use Rattle.ct_cases.proofs.tester.Tester.interleave.Goals as goal

pub explored-requires-clause-kept : goal.explored-requires-clause-kept
explored-requires-clause-kept g c κs known = let started = rw c.in-None.is at c.in_ok-starts.ensures.started in started.0

pub explored-requires-clause-begun : goal.explored-requires-clause-begun
explored-requires-clause-begun g c κs known =
    let started = rw c.in-None.is at c.in_ok-starts.ensures.started in
    let new = c.start.new.tables in
    let same = all_reached_stay c.args.tables.now new c.in_ok-starts.ensures.grows c.args.cases.now c.requires in
    subst (λ (cs : List Reached). AreBegun c.args.self.now.setting c.as_slice-moves.result.now new.meanings cs (map (named_at new.keeper) c.in_ok-starts.field-0.starts.items)) (sym same) started.1

pub returns-in-None-clause-grows : goal.returns-in-None-clause-grows
returns-in-None-clause-grows g c = ok_further c.args.tables.now c.start.new.tables c.explored.new.tables c.explored.result c.in_ok-starts.ensures.grows c.explored.ensures.grows

pub returns-in-None-clause-interleaved : goal.returns-in-None-clause-interleaved
returns-in-None-clause-interleaved g c =
    let setting = c.args.self.now.setting in
    let most = c.args.self.now.most in
    let old = c.args.tables.now in
    let new = c.explored.new.tables in
    let cases = c.args.cases.now in
    let moves : c.as_slice-moves.result.now ≡ c.args.interleave.now = c.as_slice-moves.ensures.value ∙ c.interleave.view_is in
    let same = all_reached_stay old c.start.new.tables c.in_ok-starts.ensures.grows cases c.requires in
    subst (λ (ms : List Moving). IfOk c.explored.result (λ (done : Interleaved). IsInterleaved setting most old new cases ms done.cases.items done.failing done.all)) moves
    (all_as_they_were setting most c.as_slice-moves.result.now cases old c.start.new.tables new same c.explored.result c.explored.ensures.interleaved)

pub returns-in-Some-clause-interleaved : goal.returns-in-Some-clause-interleaved
returns-in-Some-clause-interleaved g c =
    let started = rw c.in-Some.is at c.in_ok-starts.ensures.started in
    let f = c.in-Some.failing in
    let moves : c.as_slice-moves.result.now ≡ c.args.interleave.now = c.as_slice-moves.ensures.value ∙ c.interleave.view_is in
    let cases = all_reached c.args.tables.now c.args.cases.now in
    let place = started.0 in
    inl (
      place,
      subst (λ (ms : List Moving). Any (IsStuckIn c.args.self.now.setting ms place f.order.items f.names f.unmet.came) cases) moves started.1.0,
      subst (λ (ms : List Moving). All (Begins c.args.self.now.setting ms place) cases) moves started.1.1,
    )
