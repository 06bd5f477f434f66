use Rattle.std.proofs.Common.{◌≡◌, true, false, [], ◌∷◌, ◌++◌, sym, ap, ◌∙◌, subst, arith, append_assoc, rules}
use Rattle.std.proofs.lemmas.Grind.{common_steps}
use Rattle.std.proofs.lemmas.List.{map-append}
use Rattle.std.proofs.lemmas.List.Elements.{All-tail}
use Rattle.ct_search.specs.Search.{seen, all_seen, AreHeld, AreKeyed, HasVisited, HaveVisited}
use Rattle.ct_search.proofs.Further.{visited_more, visited_end}
use Rattle.ct_search.proofs.visiting.visit_all.Goals as goal

pub visit-requires-clause-key : goal.visit-requires-clause-key
visit-requires-clause-key g c =
    let state = g.M.Machine.state in
    let m = g.M.Machine.meaning c.args.machine.now in
    let q = c.args.keeper.now in
    (subst (λ l. AreKeyed m (all_seen state q l)) c.in-Some.ensures.steps.0 c.loop-case.invariant.rest) 0 (seen state q c.in-Some.case) (omega arith)

pub returns-then-not-branch-clause-visited : goal.returns-then-not-branch-clause-visited
returns-then-not-branch-clause-visited g c =
    let state = g.M.Machine.state in
    let m = g.M.Machine.meaning c.args.machine.now in
    let q = c.args.keeper.now in
    let it = seen state q c.in-Some.case in
    let mid = all_seen state q c.loop-case.met.cases.items in
    let new = all_seen state q c.visit.new.met.cases.items in
    let old = all_seen state q c.args.met.now.cases.items in
    let whole =
    ap (all_seen state q) (c.loop-case.invariant.whole ∙ ap (λ l. c.loop-case.yielded ++ l) c.in-Some.ensures.steps.0)
    ∙ map-append (seen state q) c.loop-case.yielded (c.in-Some.case ∷ c.next.new.self.rest.items) in
    let last = subst (λ room. HasVisited m c.args.most mid it room new) c.if-not-branch.true c.in_ok-visit.ensures.visited in
    subst (λ some. HaveVisited m c.args.most old some false new) (sym whole)
    (visited_end m c.args.most old (all_seen state q c.loop-case.yielded) mid it new c.loop-case.invariant.visited (all_seen state q c.next.new.self.rest.items) last)

pub loop-case-preserved : goal.loop-case-preserved
loop-case-preserved g c =
    let state = g.M.Machine.state in
    let m = g.M.Machine.meaning c.args.machine.now in
    let q = c.args.keeper.now in
    let it = seen state q c.in-Some.case in
    let mid = all_seen state q c.loop-case.met.cases.items in
    let new = all_seen state q c.visit.new.met.cases.items in
    let old = all_seen state q c.args.met.now.cases.items in
    let whole = c.loop-case.invariant.whole ∙ ap (λ l. c.loop-case.yielded ++ l) c.in-Some.ensures.steps.0 in
    let last = subst (λ room. HasVisited m c.args.most mid it room new) c.if-not-branch.false c.in_ok-visit.ensures.visited in
    record {
      visited =
          subst (λ some. HaveVisited m c.args.most old some true new) (sym (map-append (seen state q) c.loop-case.yielded (c.in-Some.case ∷ [])))
          (visited_more m c.args.most old (all_seen state q c.loop-case.yielded) mid it new c.loop-case.invariant.visited last);
      indexed = c.in_ok-visit.ensures.indexed;
      held = c.in_ok-visit.ensures.held;
      whole = whole ∙ sym (append_assoc c.loop-case.yielded (c.in-Some.case ∷ []) c.next.new.self.rest.items);
      rest =
          All-tail (λ x. x.key ≡ m.key x.kept) it (all_seen state q c.next.new.self.rest.items)
          (subst (λ l. AreKeyed m (all_seen state q l)) c.in-Some.ensures.steps.0 c.loop-case.invariant.rest);
      rest_held = (subst (AreHeld g.M.Machine.Holds q) c.in-Some.ensures.steps.0 c.loop-case.invariant.rest_held).1;
    }

pub returns-clause-visited : goal.returns-clause-visited
returns-clause-visited g c =
    let state = g.M.Machine.state in
    let m = g.M.Machine.meaning c.args.machine.now in
    let q = c.args.keeper.now in
    let whole : c.args.found.items ≡ c.loop-case.yielded = first_of (search rules, grind (arith, common_steps)) in
    subst (λ some. HaveVisited m c.args.most (all_seen state q c.args.met.now.cases.items) (all_seen state q some) true (all_seen state q c.loop-case.met.cases.items)) (sym whole) c.loop-case.invariant.visited
