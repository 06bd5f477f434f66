use Rattle.std.proofs.Common.{rules, [], ◌∷◌}
use Rattle.cd_codec.specs.View.{views}
use Rattle.ic_mgmt_candid.proofs.Told.{typed_by}
use Rattle.ic_mgmt_requests.specs.Requests.{creation_type, creation_value}
use Rattle.ic_mgmt_requests.proofs.Typed.{creation_typed}
use Rattle.ic_mgmt_requests.proofs.requests.creation_argument.Goals as goal

pub encode-requires-clause-typed : goal.encode-requires-clause-typed
encode-requires-clause-typed c =
    typed_by c.table.result.now creation_type.0 c.types-2.result.now creation_type.1 (views c.deref.result.now) (creation_value c.args.cycles ∷ [])
    (search rules) (search rules) (search rules) (creation_typed c.args.cycles c.in_ok-creation_value.ensures.fits)
