use Rattle.std.proofs.Common.{◌≤◌, List, Option, Some, None, ℕ, length, sym, ap, ◌∙◌, subst}
use Rattle.ct_cases.specs.Meanings.{Meaning}
use Rattle.ct_cases.proofs.Stays.{grows_further, known_stays, meaning_stays}
use Rattle.ct_cases.proofs.Judgements.{stage_judged}
use Rattle.ct_cases.proofs.tester.Tester.judge_state.Goals as goal

pub names-requires : goal.names-requires
names-requires g c = known_stays c.args.tables.now c.world.new.self c.in_ok-world.ensures.grows c.args.case.now.kept.names c.requires.known

pub accepted-accepted-requires : goal.accepted-accepted-requires
accepted-accepted-requires g c = known_stays c.args.tables.now c.world.new.self c.in_ok-world.ensures.grows c.args.case.now.kept.names c.requires.known

pub judge_moves-requires-after_bounds : goal.judge_moves-requires-after_bounds
judge_moves-requires-after_bounds g c κs known =
    let same = meaning_stays c.args.tables.now c.world.new.self c.in_ok-world.ensures.grows c.args.case.now.kept.names c.requires.known in
    let there = subst (λ (m : Meaning). length c.args.moves.now ≤ length m.1) (sym same) c.requires.accepted in
    subst (λ (l : List (Option ℕ)). length c.args.moves.now ≤ length l) (sym c.accepted-accepted.ensures) there

pub keep_at_hand-requires-clause-kept : goal.keep_at_hand-requires-clause-kept
keep_at_hand-requires-clause-kept g c = (c.in_ok-world.ensures.grows.kept c.args.case.now.kept.kept c.requires.kept).0

pub keep_at_hand-requires-clause-world : goal.keep_at_hand-requires-clause-world
keep_at_hand-requires-clause-world g c =
    let judged = rw c.in-None.is at c.in_ok-world-2.ensures in
    judged.0 ∙ c.in_ok-world.ensures.world ∙ sym (c.in_ok-world.ensures.grows.kept c.args.case.now.kept.kept c.requires.kept).1

pub returns-in-Some-clause-judged : goal.returns-in-Some-clause-judged
returns-in-Some-clause-judged g c =
    let same = meaning_stays c.args.tables.now c.world.new.self c.in_ok-world.ensures.grows c.args.case.now.kept.names c.requires.known in
    let judged = rw c.in-Some.is at c.in_ok-world-2.ensures in
    stage_judged c.args.self.now.setting c.args.moves.now _ _ c.in_ok-world-2.world _ c.judge_moves.new.names _ _ (Some c.in-Some.refuted) c.in_ok-world.ensures.world (c.in_ok-names.ensures ∙ ap (λ (m : Meaning). m.0) same)
    (c.accepted-accepted.ensures ∙ ap (λ (m : Meaning). m.1) same) judged

pub returns-in_ok-keep_at_hand-in-None-clause-grows : goal.returns-in_ok-keep_at_hand-in-None-clause-grows
returns-in_ok-keep_at_hand-in-None-clause-grows g c = grows_further c.args.tables.now c.world.new.self c.keep_at_hand.new.self c.in_ok-world.ensures.grows c.in_ok-keep_at_hand-in-None.ensures

pub returns-in_ok-keep_at_hand-in-None-clause-judged : goal.returns-in_ok-keep_at_hand-in-None-clause-judged
returns-in_ok-keep_at_hand-in-None-clause-judged g c =
    let same = meaning_stays c.args.tables.now c.world.new.self c.in_ok-world.ensures.grows c.args.case.now.kept.names c.requires.known in
    let judged = rw c.in-None.is at c.in_ok-world-2.ensures in
    stage_judged c.args.self.now.setting c.args.moves.now _ _ c.in_ok-world-2.world _ c.judge_moves.new.names _ _ None c.in_ok-world.ensures.world (c.in_ok-names.ensures ∙ ap (λ (m : Meaning). m.0) same)
    (c.accepted-accepted.ensures ∙ ap (λ (m : Meaning). m.1) same) judged
