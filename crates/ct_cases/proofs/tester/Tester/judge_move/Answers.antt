use Rattle.std.proofs.Common.{sym, ap, ◌∙◌}
use Rattle.ct_check.specs.Moving.{Moving}
use Rattle.ct_run.specs.declared.verdict.Unmet.{Unmet}
use Rattle.ct_cases.specs.Interleaves.{is_query}
use Rattle.ct_cases.proofs.Judgements.{query_moves, call_as_move}
use Rattle.ct_cases.proofs.tester.Tester.judge_move.Goals as goal

pub returns-then-is_query-clause-judged : goal.returns-then-is_query-clause-judged
returns-then-is_query-clause-judged g c =
    query_moves c.args.self.now.setting c.args.names.now c.args.world c.args.made.now c.args.number c.args.bound.now.items (λ (u : Unmet). u.came) c.judge_query.result
    (sym (ap (λ (m : Moving). is_query m.action) c.made.view_is) ∙ sym c.is_query.ensures ∙ c.if-is_query.true) c.judge_query.ensures.judged

pub returns-clause-judged : goal.returns-clause-judged
returns-clause-judged g c =
    call_as_move c.args.self.now.setting c.args.names.now c.args.world c.args.made.now c.args.number c.args.bound.now.items c.judge_call.new.bound.items _
    (sym (ap (λ (m : Moving). is_query m.action) c.made.view_is) ∙ sym c.is_query.ensures ∙ c.if-is_query.false) c.in_ok-unmet.ensures.judged
