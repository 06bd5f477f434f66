use Rattle.std.proofs.Common.{refl}
use Rattle.wm_valid_tests.proofs.FlatOf.{flat_of}
use Rattle.wm_valid_tests.proofs.bodies.calls_and_room.Goals as goal

pub validated-requires : goal.validated-requires
validated-requires g c = flat_of _ refl refl

pub validated-requires-2 : goal.validated-requires-2
validated-requires-2 g c = flat_of _ refl refl
