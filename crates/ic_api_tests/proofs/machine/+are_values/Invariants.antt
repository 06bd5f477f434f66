use Rattle.std.proofs.Common.{length}
use Rattle.ic_api_tests.proofs.machine.+are_values.Given as goal

abbrev pub decreases-are_values : goal.decreases-are_values
decreases-are_values l = length l.types.now
