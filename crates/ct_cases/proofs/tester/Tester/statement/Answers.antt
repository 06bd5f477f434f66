use Rattle.std.proofs.Common.{◌++◌, List, [], ◌∷◌, sym, ap, ◌∙◌, subst, append_assoc}
use Rattle.std.specs.List.{Any, AllByRecursion}
use Rattle.ct_cases.specs.declared.case.Case.{Case}
use Rattle.ct_cases.specs.Cases.{IsHeld, AreHeld, AreAfter, IsUnmetIn, all_reached}
use Rattle.ct_cases.proofs.Statements.{all_go_to, fails_among}
use Rattle.ct_cases.proofs.Stays.{grows_further, held_stays}
use Rattle.ct_cases.proofs.tester.Tester.statement.Goals as goal

pub statement_in-requires-after_bounds : goal.statement_in-requires-after_bounds
statement_in-requires-after_bounds g c =
    let rest = subst (AllByRecursion (IsHeld c.args.tables.now)) c.in-Some.ensures.steps.0 c.loop-case.invariant.rest in
    λ κs bounds. held_stays c.args.tables.now c.loop-case.tables c.loop-case.invariant.grows c.in-Some.case rest.0

pub loop-case-preserved : goal.loop-case-preserved
loop-case-preserved g c =
    let old = c.args.tables.now in
    let mid = c.loop-case.tables in
    let new = c.statement_in.new.tables in
    let so_far = c.loop-case.invariant in
    let setting = c.args.self.now.setting in
    let rest = subst (AllByRecursion (IsHeld old)) c.in-Some.ensures.steps.0 so_far.rest in
    let goes = rw c.in-To.is at c.in_ok-case.ensures.goes in
    let both =
    all_go_to setting c.args.statement.now old mid new so_far.grows c.in_ok-case.ensures.grows c.loop-case.yielded c.loop-case.after.items c.in-Some.case c.in-To.case
    so_far.held rest.0 so_far.after goes.0 goes.1 in
    record {
      grows = grows_further old mid new so_far.grows c.in_ok-case.ensures.grows;
      held = subst (AreHeld new) (sym c.in_ok-push-in-To.ensures.items) both.0;
      after = subst (λ (cases : List Case). AreAfter setting c.args.statement.now (all_reached old (c.loop-case.yielded ++ c.in-Some.case ∷ [])) (all_reached new cases)) (sym c.in_ok-push-in-To.ensures.items) both.1;
      whole = so_far.whole ∙ ap (λ (l : List Case). c.loop-case.yielded ++ l) c.in-Some.ensures.steps.0 ∙ sym (append_assoc c.loop-case.yielded (c.in-Some.case ∷ []) c.next.new.self.rest.items);
      rest = rest.1;
    }

pub returns-in-Fails : goal.returns-in-Fails
returns-in-Fails g c =
    let old = c.args.tables.now in
    let mid = c.loop-case.tables in
    let new = c.statement_in.new.tables in
    let so_far = c.loop-case.invariant in
    let setting = c.args.self.now.setting in
    let f = c.in-Fails.failing in
    let rest = subst (AllByRecursion (IsHeld old)) c.in-Some.ensures.steps.0 so_far.rest in
    let whole = so_far.whole ∙ ap (λ (l : List Case). c.loop-case.yielded ++ l) c.in-Some.ensures.steps.0 in
    let unmet = rw c.in-Fails.is at c.in_ok-case.ensures.goes in
    let among =
    fails_among setting c.args.statement.now old mid new so_far.grows c.in_ok-case.ensures.grows c.loop-case.yielded c.next.new.self.rest.items c.in-Some.case
    f.order.items f.names f.unmet.came rest.0 unmet in
    record {
      grows = grows_further old mid new so_far.grows c.in_ok-case.ensures.grows;
      goes = subst (λ (cases : List Case). Any (IsUnmetIn setting c.args.statement.now f.order.items f.names f.unmet.came) (all_reached old cases)) (sym whole) among;
    }
