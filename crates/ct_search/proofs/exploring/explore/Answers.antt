use Rattle.std.proofs.Common.{◌≤◌, ◌<◌, true, false, length, map, sym, ap, subst, arith}
use Rattle.ct_search.specs.Search.{seen, all_seen, AreKeyed, HaveVisited}
use Rattle.ct_search.proofs.Keeping.{held_stay}
use Rattle.ct_search.proofs.Orders.{keyed_after}
use Rattle.ct_search.proofs.Complete.{starts_keyed}
use Rattle.ct_search.proofs.Going.{first_goes, first_ends, goes_on, ends_here, seen_anew, all_done}
use Rattle.ct_search.proofs.exploring.explore.Goals as goal

pub visit_all-requires-clause-found : goal.visit_all-requires-clause-found
visit_all-requires-clause-found g c =
    starts_keyed (g.M.Machine.meaning c.args.machine.now) 0 (map (g.M.Machine.state c.args.keeper.now) c.args.starts.items) (all_seen g.M.Machine.state c.args.keeper.now c.in_ok-first.first.items) c.in_ok-first.ensures.starts

pub returns-then-not-branch-clause-met : goal.returns-then-not-branch-clause-met
returns-then-not-branch-clause-met g c =
    let state = g.M.Machine.state in
    let m = g.M.Machine.meaning c.args.machine.now in
    let q = c.args.keeper.now in
    let first = all_seen state q c.in_ok-first.first.items in
    let new = c.visit_all.new.met.cases.items in
    let none = ap (all_seen state q) c.new-met.ensures.none in
    first_ends g.M.Machine.Holds state m (map (state q) c.args.starts.items) c.args.most q first new c.in_ok-first.ensures.starts
    (subst (λ l. HaveVisited m c.args.most l first false (all_seen state q new)) none
    (subst (λ room. HaveVisited m c.args.most (all_seen state q c.new-met.result.cases.items) first room (all_seen state q new)) c.if-not-branch.true c.in_ok-visit_all.ensures.visited))

pub loop-next-init : goal.loop-next-init
loop-next-init g c =
    let state = g.M.Machine.state in
    let m = g.M.Machine.meaning c.args.machine.now in
    let q = c.args.keeper.now in
    let first = all_seen state q c.in_ok-first.first.items in
    let new = c.visit_all.new.met.cases.items in
    let none = ap (all_seen state q) c.new-met.ensures.none in (
      first_goes g.M.Machine.Holds state m (map (state q) c.args.starts.items) c.args.most q first new c.in_ok-first.ensures.starts
          (subst (λ l. HaveVisited m c.args.most l first true (all_seen state q new)) none
          (subst (λ room. HaveVisited m c.args.most (all_seen state q c.new-met.result.cases.items) first room (all_seen state q new)) c.if-not-branch.false c.in_ok-visit_all.ensures.visited))
          c.in_ok-visit_all.ensures.held,
      c.in_ok-visit_all.ensures.indexed,
    )

pub visit_all-requires-in-loop-next-clause-all_held : goal.visit_all-requires-in-loop-next-clause-all_held
visit_all-requires-in-loop-next-clause-all_held g c =
    held_stay g.M.Machine.Holds g.M.Machine.state c.loop-next.keeper c.cases_after.new.keeper c.cases_after.ensures.stays c.loop-next.met.cases.items c.loop-next.invariant.0.held

pub visit_all-requires-in-loop-next-clause-found : goal.visit_all-requires-in-loop-next-clause-found
visit_all-requires-in-loop-next-clause-found g c =
    keyed_after (g.M.Machine.meaning c.args.machine.now) (seen g.M.Machine.state c.loop-next.keeper c.index.result.now) (all_seen g.M.Machine.state c.cases_after.new.keeper c.in_ok-found.found.items) c.in_ok-found.ensures.after

pub visit_all-requires-in-loop-next-clause-keyed : goal.visit_all-requires-in-loop-next-clause-keyed
visit_all-requires-in-loop-next-clause-keyed g c =
    let state = g.M.Machine.state in
    let m = g.M.Machine.meaning c.args.machine.now in
    let within : c.loop-next.next < length c.loop-next.met.cases.items = omega (arith, c.loop-next.met.cases.ok.0) in
    subst (AreKeyed m)
    (sym (seen_anew g.M.Machine.Holds state m (map (state c.args.keeper.now) c.args.starts.items) c.args.most (g.met.M.Machine.lawful c.args.machine.now) c.args.keeper.now c.loop-next.keeper c.cases_after.new.keeper c.loop-next.met.cases.items c.loop-next.next c.index.result.now c.loop-next.invariant.0 within c.index.ensures c.cases_after.ensures.stays))
    c.loop-next.invariant.0.keyed

pub returns-then-not-branch-2-clause-met : goal.returns-then-not-branch-2-clause-met
returns-then-not-branch-2-clause-met g c =
    let state = g.M.Machine.state in
    let m = g.M.Machine.meaning c.args.machine.now in
    let r = c.cases_after.new.keeper in
    let cases = c.loop-next.met.cases.items in
    let found = c.in_ok-found.found.items in
    let new = c.visit_all-in-loop-next.new.met.cases.items in
    let within : c.loop-next.next < length cases = omega (arith, c.loop-next.met.cases.ok.0) in
    ends_here g.M.Machine.Holds state m (map (state c.args.keeper.now) c.args.starts.items) c.args.most (g.met.M.Machine.lawful c.args.machine.now) c.args.keeper.now c.loop-next.keeper r cases c.loop-next.next c.index.result.now
    c.loop-next.invariant.0 within c.index.ensures c.cases_after.ensures.stays found new c.in_ok-found.ensures.after
    (subst (λ room. HaveVisited m c.args.most (all_seen state r cases) (all_seen state r found) room (all_seen state r new)) c.if-not-branch-2.true c.in_ok-visit_all-2.ensures.visited)

pub loop-next-preserved : goal.loop-next-preserved
loop-next-preserved g c =
    let state = g.M.Machine.state in
    let m = g.M.Machine.meaning c.args.machine.now in
    let r = c.cases_after.new.keeper in
    let cases = c.loop-next.met.cases.items in
    let found = c.in_ok-found.found.items in
    let new = c.visit_all-in-loop-next.new.met.cases.items in
    let within : c.loop-next.next < length cases = omega (arith, c.loop-next.met.cases.ok.0) in (
      goes_on g.M.Machine.Holds state m (map (state c.args.keeper.now) c.args.starts.items) c.args.most (g.met.M.Machine.lawful c.args.machine.now) c.args.keeper.now c.loop-next.keeper r cases c.loop-next.next c.index.result.now
          c.loop-next.invariant.0 within c.index.ensures c.cases_after.ensures.stays found new c.in_ok-found.ensures.after c.in_ok-found.ensures.moves
          (subst (λ room. HaveVisited m c.args.most (all_seen state r cases) (all_seen state r found) room (all_seen state r new)) c.if-not-branch-2.false c.in_ok-visit_all-2.ensures.visited)
          c.in_ok-visit_all-2.ensures.held,
      c.in_ok-visit_all-2.ensures.indexed,
    )

pub returns-clause-met : goal.returns-clause-met
returns-clause-met g c =
    let state = g.M.Machine.state in
    let m = g.M.Machine.meaning c.args.machine.now in
    let past : length c.loop-next.met.cases.items ≤ c.loop-next.next = omega (arith, c.loop-next.met.cases.ok.0) in
    all_done g.M.Machine.Holds state m (map (state c.args.keeper.now) c.args.starts.items) c.args.most (g.met.M.Machine.lawful c.args.machine.now) c.args.keeper.now c.loop-next.keeper c.loop-next.met.cases.items c.loop-next.next c.loop-next.invariant.0 past
