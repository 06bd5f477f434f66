use Rattle.std.proofs.Common.{rules, [], ◌∷◌}
use Rattle.cd_codec.specs.View.{views}
use Rattle.ic_mgmt_candid.proofs.Told.{typed_by}
use Rattle.ic_mgmt_requests.specs.Requests.{installation_type, installation_value}
use Rattle.ic_mgmt_requests.proofs.Typed.{installation_typed}
use Rattle.ic_mgmt_requests.proofs.requests.installation_argument.Goals as goal

pub encode-requires-clause-typed : goal.encode-requires-clause-typed
encode-requires-clause-typed c =
    let told = c.in_ok-installation_value.ensures in
    typed_by c.table.result.now installation_type.0 c.types-2.result.now installation_type.1 (views c.deref.result.now)
    (installation_value c.args.mode c.args.canister c.in_ok-wasm.wasm c.args.arg ∷ [])
    (search rules) (search rules) (search rules)
    (installation_typed c.args.mode c.args.canister c.in_ok-wasm.wasm c.args.arg (c.bytes-bytes.ensures.principal.short) told.wasm told.arg)
