use Rattle.std.proofs.Common.{refl}
use Rattle.wm_valid_tests.proofs.FlatOf.{flat_of}
use Rattle.wm_valid_tests.proofs.bodies.side_table_of_if_and_loop.Goals as goal

pub validated-requires : goal.validated-requires
validated-requires g c = flat_of _ refl refl
