use Rattle.std.proofs.Common.{◌≡◌, ap, ◌∙◌, take}
use Rattle.ct_cases.specs.Holding.{Testing}
use Rattle.ct_cases.proofs.Judgements.{query_judged, names_back}
use Rattle.ct_cases.proofs.tester.Tester.judge_query.Goals as goal

pub returns-clause-names : goal.returns-clause-names
returns-clause-names g c =
    let steps = c.in_ok-world.ensures in
    c.cut_names.ensures ∙ ap (λ n. take n c.moved.new.names) c.count_of-count.ensures
    ∙ names_back c.self.inside.runner c.args.names.now c.args.world c.args.made.now c.in_ok-world.world c.moved.new.names _ steps

pub returns-clause-judged : goal.returns-clause-judged
returns-clause-judged g c =
    let setting : c.self.inside.runner ≡ c.args.self.now.setting = ap (λ (t : Testing). t.setting) c.self.view_is in
    let steps = rw setting at c.in_ok-world.ensures in
    query_judged c.args.self.now.setting c.args.names.now c.args.world c.args.made.now c.in_ok-world.world c.moved.new.names _ c.requires steps
