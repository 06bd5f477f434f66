use Rattle.std.proofs.Common.{List, ℕ, Some}
use Rattle.ct_outcomes.specs.Types.{types_at}
use Rattle.ct_outcomes.specs.Arguments.{IsArgument}
use Rattle.ct_outcomes.proofs.Found.{is_only}
use Rattle.ct_outcomes.proofs.filling.argument_of.Goals as goal

pub returns-in-Some-clause-only : goal.returns-in-Some-clause-only
returns-in-Some-clause-only c =
    rw c.in-Some.is (is_only (λ (arg : List ℕ). arg) (IsArgument (types_at c.args.at) c.args.names.now (Some c.in-Some.filled.now)) c.filled_argument.result c.filled_argument.ensures)
