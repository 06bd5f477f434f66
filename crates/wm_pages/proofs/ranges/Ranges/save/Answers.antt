use Rattle.std.proofs.Common.{arith}
use Rattle.std.proofs.lemmas.Bool.Decides.{nat_tests}
use Rattle.wm_pages.specs.Ranges.{touched}
use Rattle.wm_pages.proofs.ranges.Ranges.save.Goals as goal

pub returns-in_err-save_range-clause-few : goal.returns-in_err-save_range-clause-few
unfolding touched
returns-in_err-save_range-clause-few c = grind (arith, nat_tests)

pub returns-clause-few : goal.returns-clause-few
unfolding touched
returns-clause-few c = grind (arith, nat_tests)
