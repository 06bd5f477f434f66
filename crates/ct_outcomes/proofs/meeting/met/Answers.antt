use Rattle.std.proofs.Common.{sym, ◌∙◌}
use Rattle.std.specs.Global.{Vec}
use Rattle.ct_outcomes.specs.declared.named.Named.{Named}
use Rattle.ct_outcomes.specs.Types.{types_at}
use Rattle.ct_outcomes.specs.Meets.{MeetsOne}
use Rattle.ct_outcomes.proofs.Found.{is_found, is_only, first_of_none, first_of_all}
use Rattle.ct_outcomes.proofs.meeting.met.Goals as goal

pub returns-then-is_empty-clause-found : goal.returns-then-is_empty-clause-found
returns-then-is_empty-clause-found c =
    is_found (λ (b : Vec Named). b.items) (MeetsOne (types_at c.args.at) c.args.names.now c.args.outcomes.now c.args.came.now) c.first_met.result
    (first_of_none (types_at c.args.at) c.args.names.now c.args.outcomes.now c.args.came.now c.first_met.result (sym c.is_empty.ensures ∙ c.if-is_empty.true) (c.first_met.ensures c.args.came.now c.in_ok-answer.ensures))

pub returns-then-is_empty-clause-only : goal.returns-then-is_empty-clause-only
returns-then-is_empty-clause-only c =
    is_only (λ (b : Vec Named). b.items) (MeetsOne (types_at c.args.at) c.args.names.now c.args.outcomes.now c.args.came.now) c.first_met.result
    (first_of_none (types_at c.args.at) c.args.names.now c.args.outcomes.now c.args.came.now c.first_met.result (sym c.is_empty.ensures ∙ c.if-is_empty.true) (c.first_met.ensures c.args.came.now c.in_ok-answer.ensures))

pub returns-clause-found : goal.returns-clause-found
returns-clause-found c =
    is_found (λ (b : Vec Named). b.items) (MeetsOne (types_at c.args.at) c.args.names.now c.args.outcomes.now c.args.came.now) c.first_met-2.result
    (first_of_all (types_at c.args.at) c.args.names.now c.args.outcomes.now c.args.came.now c.first_met-2.result (sym c.is_empty.ensures ∙ c.if-is_empty.false) (c.first_met-2.ensures c.args.came.now c.in_ok-answer.ensures))

pub returns-clause-only : goal.returns-clause-only
returns-clause-only c =
    is_only (λ (b : Vec Named). b.items) (MeetsOne (types_at c.args.at) c.args.names.now c.args.outcomes.now c.args.came.now) c.first_met-2.result
    (first_of_all (types_at c.args.at) c.args.names.now c.args.outcomes.now c.args.came.now c.first_met-2.result (sym c.is_empty.ensures ∙ c.if-is_empty.false) (c.first_met-2.ensures c.args.came.now c.in_ok-answer.ensures))
