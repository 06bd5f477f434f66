use Rattle.std.proofs.Common.{refl}
use Rattle.ic_exec.proofs.Applies.{few_there, applied_is, applied_keeps}
use Rattle.ic_exec.proofs.effects.returned.Goals as goal

pub serve_at-requires-clause-few : goal.serve_at-requires-clause-few
serve_at-requires-clause-few c =
    let r = c.requires in
    few_there c.args.canister.now c.args.place c.args.context.now c.args.effects r.keeps r.place r.there r.room c.args.context.now c.is_some-answered.result c.count_calls-count.result c.is_some-answered.ensures c.count_calls-count.ensures

pub returns-clause-work : goal.returns-clause-work
returns-clause-work c =
    let r = c.requires in
    applied_is c.args.canister.now c.args.place c.args.context.now c.args.effects r.keeps r.place r.there r.room _ c.is_some-answered.result c.count_calls-count.result c.is_some-answered.ensures c.count_calls-count.ensures
    refl c.serve_at.new.contexts c.serve_at.ensures c.in_ok-calls.calls c.in_ok-answers.answers c.args.used c.in_ok-calls.ensures c.in_ok-answers.ensures

pub returns-clause-keeps : goal.returns-clause-keeps
returns-clause-keeps c =
    let r = c.requires in
    applied_keeps c.args.canister.now c.args.place c.args.context.now c.args.effects r.keeps r.place r.there r.room _ c.is_some-answered.result c.count_calls-count.result c.is_some-answered.ensures c.count_calls-count.ensures
    refl c.serve_at.new.contexts c.serve_at.ensures
