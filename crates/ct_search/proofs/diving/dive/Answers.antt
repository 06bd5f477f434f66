use Rattle.std.proofs.Common.{◌≡◌, [], map, sym, subst, arith, rules}
use Rattle.std.proofs.lemmas.Grind.{common_steps}
use Rattle.ct_search.specs.Search.{seen, all_seen, AreKeyed}
use Rattle.ct_search.proofs.Downward.{Dived, dived_none, dived_visit, dived_down}
use Rattle.ct_search.proofs.diving.dive.Goals as goal

pub loop-case-init : goal.loop-case-init
loop-case-init g c =
    let state = g.M.Machine.state in
    let m = g.M.Machine.meaning c.args.machine.now in
    let q = c.args.keeper.now in
    let starts = map (state q) c.args.starts.items in
    let rest = c.into_iter-case-iterator.result.rest.items in
    let same : rest ≡ c.in_ok-first.first.items = first_of (search rules, grind (arith, common_steps)) in
    let begun = dived_none g.M.Machine.Holds state m starts c.args.most q c.in_ok-first.first.items c.in_ok-first.ensures.held c.in_ok-first.ensures.starts in (
      subst (λ l. Dived g.M.Machine.Holds state m starts c.args.most q q l rest) (sym c.new-met.ensures.none)
          (subst (λ l. Dived g.M.Machine.Holds state m starts c.args.most q q [] l) (sym same) begun),
      c.new-met.ensures.indexed,
    )

pub visit-requires-clause-key : goal.visit-requires-clause-key
visit-requires-clause-key g c =
    let state = g.M.Machine.state in
    let m = g.M.Machine.meaning c.args.machine.now in
    let q = c.loop-case.keeper in
    (subst (λ l. AreKeyed m (all_seen state q l)) c.in-Some.ensures.steps.0 c.loop-case.invariant.0.rest_keyed) 0 (seen state q c.in-Some.case) (omega arith)

pub loop-case-preserved-in-Continue-branch-3 : goal.loop-case-preserved-in-Continue-branch-3
loop-case-preserved-in-Continue-branch-3 g c =
    let Holds = g.M.Machine.Holds in
    let state = g.M.Machine.state in
    let m = g.M.Machine.meaning c.args.machine.now in
    let a = c.args.keeper.now in
    let q = c.loop-case.keeper in
    let starts = map (state a) c.args.starts.items in
    let dived = subst (Dived Holds state m starts c.args.most a q c.loop-case.met.cases.items) c.in-Some.ensures.steps.0 c.loop-case.invariant.0 in
    let visited = dived_visit Holds state m starts c.args.most a q c.loop-case.met.cases.items c.visit.new.met.cases.items c.in-Some.case c.next.new.self.rest.items c.in_ok-visit.field-0 dived c.in_ok-visit.ensures.visited c.in_ok-visit.ensures.held in (
      dived_down Holds state m starts c.args.most a q c.go_down.new.keeper c.visit.new.met.cases.items c.go_down.new.met.cases.items c.next.new.self.rest.items visited c.in_ok-go_down.ensures.down,
      c.in_ok-go_down.ensures.indexed,
    )

pub loop-case-preserved : goal.loop-case-preserved
loop-case-preserved g c =
    let Holds = g.M.Machine.Holds in
    let state = g.M.Machine.state in
    let m = g.M.Machine.meaning c.args.machine.now in
    let a = c.args.keeper.now in
    let q = c.loop-case.keeper in
    let starts = map (state a) c.args.starts.items in
    let dived = subst (Dived Holds state m starts c.args.most a q c.loop-case.met.cases.items) c.in-Some.ensures.steps.0 c.loop-case.invariant.0 in (
      dived_visit Holds state m starts c.args.most a q c.loop-case.met.cases.items c.visit.new.met.cases.items c.in-Some.case c.next.new.self.rest.items c.in_ok-visit.field-0 dived c.in_ok-visit.ensures.visited c.in_ok-visit.ensures.held,
      c.in_ok-visit.ensures.indexed,
    )
