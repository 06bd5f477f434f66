use Rattle.std.proofs.Common.{arith}
use Rattle.cd_types.specs.Shape.{shape}
use Rattle.cd_sub.specs.Sub.{Sub}
use Rattle.cd_coerce.specs.Read.{way}
use Rattle.cd_coerce.proofs.Deep.{deep, room_most}
use Rattle.cd_coerce.proofs.laws.nests_at_most.Goals as goal

pub returns : goal.returns
returns c = λ lower upper t u v r h low.
    let most = room_most (way (shape upper u)) in
    let nests = deep (λ a b. Sub lower a upper b) lower upper r v t u h in
    omega arith
