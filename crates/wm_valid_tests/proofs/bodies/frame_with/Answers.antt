use Rattle.std.proofs.Common.{refl}
use Rattle.wm_valid_tests.proofs.FlatOf.{flat_of}
use Rattle.wm_valid_tests.proofs.bodies.frame_with.Goals as goal

pub validate_body-requires : goal.validate_body-requires
validate_body-requires c = record { flat = flat_of _ refl refl }
