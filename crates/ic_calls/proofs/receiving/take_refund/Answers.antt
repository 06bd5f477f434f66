use Rattle.std.proofs.Common.{ap, sym, ◌∙◌, ◌-◌, ◌+◌}
use Rattle.ic_behaviour.specs.Executing.{is_own}
use Rattle.ic_calls.proofs.Receives.{some_place, outstanding_there, outstanding_all, lessened, same_place, same_within, answer_keeps}
use Rattle.ic_calls.proofs.receiving.take_refund.Goals as goal

pub unreachable-requires : goal.unreachable-requires
unreachable-requires c = some_place (is_own c.args.own.now) _ c.args.canister.now.contexts (sym c.find_context.ensures ∙ c.in_default.is) c.requires.expected

pub overflow_sub-lessened : goal.overflow_sub-lessened
overflow_sub-lessened c =
    outstanding_there c.args.canister.now c.args.own.now c.in-Some.place c.context_at-context.result c.requires.keeps c.requires.expected (sym c.find_context.ensures ∙ c.in-Some.is) c.context_at-context.ensures

pub overflow_sub-canister : goal.overflow_sub-canister
overflow_sub-canister c =
    outstanding_all c.args.canister.now c.args.own.now c.in-Some.place c.context_at-context.result c.requires.keeps c.requires.expected (sym c.find_context.ensures ∙ c.in-Some.is) c.context_at-context.ensures

pub returns-clause-taken : goal.returns-clause-taken
returns-clause-taken c =
    let a = c.args.canister.now in
    ap (λ xs. record a { balance = a.balance + c.args.refund; contexts = xs; outstanding = a.outstanding - 1 })
    (lessened a c.args.own.now c.in-Some.place c.context_at-context.result c.requires.keeps c.requires.expected (sym c.find_context.ensures ∙ c.in-Some.is) c.context_at-context.ensures c.put.new.contexts c.put.ensures)

pub returns-clause-place : goal.returns-clause-place
returns-clause-place c =
    same_place c.args.canister.now c.args.own.now c.in-Some.place c.context_at-context.result c.requires.keeps c.requires.expected (sym c.find_context.ensures ∙ c.in-Some.is) c.context_at-context.ensures c.put.new.contexts c.put.ensures

pub returns-clause-within : goal.returns-clause-within
returns-clause-within c =
    same_within c.args.canister.now c.args.own.now c.in-Some.place c.context_at-context.result c.requires.keeps c.requires.expected (sym c.find_context.ensures ∙ c.in-Some.is) c.context_at-context.ensures c.put.new.contexts c.put.ensures

pub returns-clause-keeps : goal.returns-clause-keeps
returns-clause-keeps c =
    answer_keeps c.args.canister.now c.args.own.now c.in-Some.place c.context_at-context.result c.requires.keeps c.requires.expected (sym c.find_context.ensures ∙ c.in-Some.is) c.context_at-context.ensures
    c.args.refund c.put.new.contexts c.requires.room c.put.ensures
