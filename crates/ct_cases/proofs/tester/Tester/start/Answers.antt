use Rattle.std.proofs.Common.{◌≡◌, take, List, Option, sym, subst, ◌∙◌, arith}
use Rattle.std.proofs.lemmas.List.{take_all}
use Rattle.ct_cases.specs.declared.case.Case.{Case}
use Rattle.ct_cases.specs.declared.submitting.Unsent.{Unsent}
use Rattle.ct_cases.specs.Answers.{IsStarted, AreStartedTo}
use Rattle.ct_cases.proofs.Stays.{grows_further, held_stays}
use Rattle.ct_cases.proofs.Starting.{held_at, stuck_place, next_started, next_stuck, started_of}
use Rattle.ct_cases.proofs.tester.Tester.start.Goals.{in-Some+in_ok-unsent_in, in_default}
use Rattle.ct_cases.proofs.tester.Tester.start.Goals as goal

pub unsent_in-requires-clause-held : goal.unsent_in-requires-clause-held
unsent_in-requires-clause-held g c κs known =
    let before = held_at c.args.tables.now c.args.cases.now c.loop-case.case-index c.case-item.result c.loop-case-test.true c.case-item.is c.requires in
    let grows = grows_further c.args.tables.now c.loop-case.tables c.start_in.new.tables c.loop-case.invariant.grows c.in_ok-start.ensures.grows in
    held_stays c.args.tables.now c.start_in.new.tables grows c.case-item.result before

pub unsent_in-requires-clause-place : goal.unsent_in-requires-clause-place
unsent_in-requires-clause-place g c κs known =
    let started = rw c.in-Some.is at c.in_ok-start.ensures.started in
    stuck_place c.args.self.now.setting c.loop-case.tables c.start_in.new.tables c.case-item.result c.args.moves.now c.loop-case.submitted c.in_ok-start.start
    c.in-Some.unsent c.loop-case.invariant.few started

pub loop-case-preserved : goal.loop-case-preserved
loop-case-preserved g c =
    let setting = c.args.self.now.setting in
    let moves = c.args.moves.now in
    let Started = λ (unsent : Option Unsent). IsStarted setting c.loop-case.tables c.start_in.new.tables c.case-item.result (take c.loop-case.submitted moves) c.in_ok-start.start unsent in
    let further = grows_further c.args.tables.now c.loop-case.tables c.start_in.new.tables c.loop-case.invariant.grows c.in_ok-start.ensures.grows in
    elim c.match-unsent-3.branch [
      | in-Some+in_ok-unsent_in w ↦
          let started = subst Started w.in-Some.is c.in_ok-start.ensures.started in
          let within = stuck_place setting c.loop-case.tables c.start_in.new.tables c.case-item.result moves c.loop-case.submitted c.in_ok-start.start w.in-Some.unsent c.loop-case.invariant.few started in
          record {
            grows = further;
            few = omega (arith, within, w.submitted-is);
            all = λ none. absurd (let bad = sym w.failing-is ∙ none in cc);
            started =
                next_stuck setting moves c.args.tables.now c.loop-case.tables c.start_in.new.tables c.args.cases.now c.loop-case.case-index c.case-item.result c.loop-case.starts.items
                c.push.new.self.items c.in_ok-start.start c.loop-case.submitted c.loop-case-test.true c.case-item.is c.in_ok-push.ensures.items c.loop-case.invariant.grows
                c.in_ok-start.ensures.grows c.requires c.in_ok-start.ensures.held c.loop-case.failing c.loop-case.invariant.started w.in-Some.unsent w.in_ok-unsent_in.field-0
                c.loop-case.invariant.few started w.in_ok-unsent_in.ensures.came w.in_ok-unsent_in.ensures.names w.in_ok-unsent_in.ensures.order _ _ w.submitted-is w.failing-is;
          }
      | in_default w ↦ record {
        grows = further;
        few = omega (arith, c.loop-case.invariant.few, w.submitted-is);
        all = λ none. w.submitted-is ∙ c.loop-case.invariant.all (sym w.failing-is ∙ none);
        started =
            next_started setting moves c.args.tables.now c.loop-case.tables c.start_in.new.tables c.args.cases.now c.loop-case.case-index c.case-item.result c.loop-case.starts.items
            c.push.new.self.items c.in_ok-start.start c.loop-case.submitted c.loop-case-test.true c.case-item.is c.in_ok-push.ensures.items c.loop-case.invariant.grows
            c.in_ok-start.ensures.grows c.requires c.in_ok-start.ensures.held c.loop-case.failing c.loop-case.invariant.all c.loop-case.invariant.started
            (subst Started w.in_default.is c.in_ok-start.ensures.started) _ _ w.submitted-is w.failing-is;
      }
    ]

pub returns-clause-started : goal.returns-clause-started
returns-clause-started g c =
    let whole : take c.loop-case.case-index c.args.cases.now ≡ c.args.cases.now = take_all c.loop-case.case-index c.args.cases.now (omega (arith, c.loop-case-test.false)) in
    let Started = λ (cases : List Case). AreStartedTo c.args.self.now.setting c.args.tables.now c.loop-case.tables cases c.args.moves.now c.loop-case.starts.items c.loop-case.submitted c.loop-case.failing in
    started_of c.args.self.now.setting c.args.tables.now c.loop-case.tables c.args.cases.now c.args.moves.now c.loop-case.starts.items c.loop-case.submitted c.loop-case.failing
    (subst Started whole c.loop-case.invariant.started)
