use Rattle.std.proofs.Common.{ℕ, ◌++◌, [], drop, ap, sym, ◌∙◌, take, append-nil}
use Rattle.ct_check.specs.Moving.{Moving}
use Rattle.ct_run.specs.Statements.{Setting, expected_of, reply_types}
use Rattle.ct_cases.specs.Holding.{Testing}
use Rattle.ct_cases.proofs.Judgements.{call_judged, call_names}
use Rattle.ct_cases.proofs.tester.Tester.judge_call.Goals as goal

pub returns-then-has_messages-clause-judged : goal.returns-then-has_messages-clause-judged
returns-then-has_messages-clause-judged g c =
    let under = rw c.if-has_messages.true at c.has_messages.ensures.yes in
    ([], sym (append-nil c.args.bound.now.items), λ ended. absurd (under ended))

pub returns-clause-names : goal.returns-clause-names
returns-clause-names g c =
    let setting = ap (λ (t : Testing). t.setting) c.self.view_is in
    let made = ap (λ (m : Moving). m.action) c.made.view_is in
    let typed = c.reply_at-at.ensures ∙ ap (λ (s : Setting). reply_types s.files c.made.inside.action) setting ∙ ap (reply_types c.args.self.now.setting.files) made in
    c.in_ok-move_names.ensures.names ∙ ap (λ (n : ℕ). take n c.judge.new.names) c.count_of-count.ensures
    ∙ call_names c.args.self.now.setting c.args.names.now c.args.world.now c.args.made.now c.args.number _ _ c.in_ok-came.came typed (c.expected_of.ensures ∙ ap expected_of made) c.in_ok-came.ensures
    c.judge.new.names _ c.in_ok-unmet.ensures

pub returns-clause-judged : goal.returns-clause-judged
returns-clause-judged g c =
    let setting = ap (λ (t : Testing). t.setting) c.self.view_is in
    let made = ap (λ (m : Moving). m.action) c.made.view_is in
    let typed = c.reply_at-at.ensures ∙ ap (λ (s : Setting). reply_types s.files c.made.inside.action) setting ∙ ap (reply_types c.args.self.now.setting.files) made in
    let back = c.in_ok-move_names.ensures.others ∙ ap (λ (n : ℕ). c.args.bound.now.items ++ drop n c.judge.new.names) c.count_of-count.ensures in
    let ended = rw c.if-has_messages.false at c.has_messages.ensures.no in
    call_judged c.args.self.now.setting c.args.names.now c.args.world.now c.args.made.now c.args.number _ _ c.in_ok-came.came typed (c.expected_of.ensures ∙ ap expected_of made) c.in_ok-came.ensures
    c.judge.new.names c.args.bound.now.items c.move_names.new.others.items _ ended c.in_ok-unmet.ensures back
