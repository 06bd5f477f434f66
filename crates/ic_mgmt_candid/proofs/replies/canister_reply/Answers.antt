use Rattle.std.proofs.Common.{rules, ◌≡◌, List, [], ◌∷◌}
use Rattle.cd_codec.specs.View.{views}
use Rattle.ic_mgmt_candid.specs.Types.{canister_type}
use Rattle.ic_mgmt_candid.specs.Replies.{canister_value}
use Rattle.ic_mgmt_candid.proofs.Told.{canister_told, typed_by}
use Rattle.ic_mgmt_candid.proofs.replies.canister_reply.Goals as goal

pub encode-requires-clause-typed : goal.encode-requires-clause-typed
encode-requires-clause-typed c =
    typed_by c.table.result.now canister_type.0 c.types-2.result.now canister_type.1 (views c.deref.result.now) (canister_value c.args.id ∷ [])
    (search rules) (search rules) (search rules) (canister_told c.args.id (c.bytes-bytes.ensures.principal.short))
