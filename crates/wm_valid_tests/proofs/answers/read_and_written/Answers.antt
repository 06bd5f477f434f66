use Rattle.wm_valid_tests.proofs.answers.read_and_written.Goals as goal

pub read_fits-requires-clause-spelled : goal.read_fits-requires-clause-spelled
read_fits-requires-clause-spelled c = c.in_ok-module.ensures.found.1
