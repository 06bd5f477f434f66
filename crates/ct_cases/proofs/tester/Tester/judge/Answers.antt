use Rattle.std.proofs.Common.{◌≡◌, ◌++◌, List, [], ◌∷◌, sym, ap, ◌∙◌, subst, append_assoc, arith, rules}
use Rattle.std.specs.List.{AllByRecursion}
use Rattle.std.proofs.lemmas.Grind.{common_steps}
use Rattle.ct_search.specs.declared.case.Case.{Case as Met}
use Rattle.ct_worlds.specs.declared.worlds.NamedWorld.{NamedWorld}
use Rattle.ct_cases.specs.Cases.{IsMetBehind, all_stages}
use Rattle.ct_cases.specs.Answers.{AreFoundTo}
use Rattle.ct_cases.proofs.Stays.{met_stays}
use Rattle.ct_cases.proofs.Finding.{found_more, found_of, behind_front}
use Rattle.ct_cases.proofs.tester.Tester.judge.Goals as goal

pub judge_case-requires-after_bounds : goal.judge_case-requires-after_bounds
judge_case-requires-after_bounds g c κs known =
    let rest = subst (AllByRecursion (IsMetBehind c.args.tables.now c.args.moves.now)) c.in-Some.ensures.steps.0 c.loop-case.invariant.rest in
    behind_front c.args.self.now.setting c.args.moves.now c.loop-case.tables c.in-Some.case c.loop-case.judged
    (met_stays c.args.tables.now c.loop-case.tables c.loop-case.invariant.so_far.grows c.args.moves.now c.in-Some.case rest.0)

pub loop-case-preserved : goal.loop-case-preserved
loop-case-preserved g c =
    let rest = subst (AllByRecursion (IsMetBehind c.args.tables.now c.args.moves.now)) c.in-Some.ensures.steps.0 c.loop-case.invariant.rest in
    record {
      so_far =
          found_more c.args.self.now.setting c.args.moves.now c.args.tables.now c.loop-case.tables c.judge_case.new.tables c.args.cases.now c.loop-case.yielded c.in-Some.case
          c.loop-case.ends.items c.add_found.new.ends.items c.loop-case.failing c.add_found.new.failing c.loop-case.judged c.add_found.new.judged
          c.loop-case.invariant.so_far c.in_ok-found.ensures.grows rest.0 c.in_ok-found.found c.in_ok-found.ensures.found c.in_ok-add_found.ensures;
      whole = c.loop-case.invariant.whole ∙ ap (λ (l : List (Met NamedWorld)). c.loop-case.yielded ++ l) c.in-Some.ensures.steps.0 ∙ sym (append_assoc c.loop-case.yielded (c.in-Some.case ∷ []) c.next.new.self.rest.items);
      rest = rest.1;
    }

pub returns-clause-found : goal.returns-clause-found
returns-clause-found g c =
    let whole : c.args.met.items ≡ c.loop-case.yielded = first_of (search rules, grind (arith, common_steps)) in
    found_of c.args.self.now.setting c.args.moves.now c.loop-case.tables (all_stages c.args.tables.now c.args.cases.now c.args.met.items) c.loop-case.ends.items c.loop-case.judged c.loop-case.failing
    (subst (λ (l : List (Met NamedWorld)). AreFoundTo c.args.self.now.setting c.args.moves.now c.loop-case.tables (all_stages c.args.tables.now c.args.cases.now l) c.loop-case.ends.items c.loop-case.judged c.loop-case.failing)
    (sym whole) c.loop-case.invariant.so_far.found)
