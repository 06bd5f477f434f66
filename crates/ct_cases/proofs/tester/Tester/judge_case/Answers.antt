use Rattle.std.proofs.Common.{ap, ◌∙◌}
use Rattle.ct_cases.specs.Cases.{Stage}
use Rattle.ct_cases.proofs.Stays.{grows_not, known_stays, stage_stays}
use Rattle.ct_cases.proofs.Ending.{ok_further}
use Rattle.ct_cases.proofs.Judgements.{silent_found, unmet_found, all_left_found}
use Rattle.ct_cases.proofs.tester.Tester.judge_case.Goals as goal

pub returns-then-is_silent-clause-grows : goal.returns-then-is_silent-clause-grows
returns-then-is_silent-clause-grows g c = grows_not c.args.tables.now

pub returns-then-is_silent-clause-found : goal.returns-then-is_silent-clause-found
returns-then-is_silent-clause-found g c =
    let is = rw c.if-is_silent.true at c.is_silent.ensures in
    silent_found c.args.self.now.setting c.args.moves.now c.args.tables.now c.args.tables.now c.args.tables.now c.args.cases.now c.args.case is.0 is.1

pub unmet_in-requires-after_bounds : goal.unmet_in-requires-after_bounds
unmet_in-requires-after_bounds g c κs known = known_stays c.args.tables.now c.judge_state.new.tables c.in_ok-names.ensures.grows c.args.case.kept.names c.requires.known

pub returns-in-Some-clause-found : goal.returns-in-Some-clause-found
returns-in-Some-clause-found g c =
    let judged = rw c.in-Some.is at c.in_ok-names.ensures.judged in
    let same = stage_stays c.args.tables.now c.judge_state.new.tables c.in_ok-names.ensures.grows c.args.moves.now c.args.cases.now c.args.case c.requires in
    unmet_found c.args.self.now.setting c.args.moves.now c.args.tables.now c.judge_state.new.tables c.judge_state.new.tables c.args.cases.now c.args.case c.in_ok-names.names c.in-Some.refuted c.in_ok-failing-in-Some.failing judged
    c.in_ok-failing-in-Some.ensures.came (c.in_ok-failing-in-Some.ensures.names ∙ ap (λ (x : Stage). x.meaning.0) same) (c.in_ok-failing-in-Some.ensures.order ∙ ap (λ (x : Stage). x.order) same)

pub left_of-requires : goal.left_of-requires
left_of-requires g c = (c.in_ok-names.ensures.grows.kept c.args.case.kept.kept c.requires.kept).0

pub returns-clause-grows : goal.returns-clause-grows
returns-clause-grows g c = ok_further c.args.tables.now c.judge_state.new.tables c.left_of.new.tables c.left_of.result c.in_ok-names.ensures.grows c.left_of.ensures.grows

pub returns-clause-found : goal.returns-clause-found
returns-clause-found g c =
    let judged = rw c.in-None.is at c.in_ok-names.ensures.judged in
    all_left_found c.args.self.now.setting c.args.moves.now c.args.tables.now c.judge_state.new.tables c.left_of.new.tables c.args.cases.now c.args.case c.in_ok-names.ensures.grows c.requires c.in_ok-names.names
    c.left_of.result judged c.left_of.ensures.left
