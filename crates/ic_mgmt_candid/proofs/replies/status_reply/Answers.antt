use Rattle.std.proofs.Common.{rules, ◌≡◌, ◌<◌, ◌^◌, ℕ, List, [], ◌∷◌, length, Option, Some, None, subst, arith}
use Rattle.std.specs.Prelude.{IfSome}
use Rattle.cd_codec.specs.View.{views}
use Rattle.ic_mgmt_candid.specs.Types.{status_type}
use Rattle.ic_mgmt_candid.specs.Replies.{status_value}
use Rattle.ic_mgmt_candid.proofs.Told.{status_told, typed_by}
use Rattle.ic_mgmt_candid.proofs.replies.status_reply.Goals as goal

fits : (n : ℕ) → n < 2 ^ 64 → n < 2 ^ 128
fits n few = omega (arith, few)

hash_fits : (hash : Option (List ℕ)) → IfSome hash (λ h. length h < 2 ^ 64) → (h : List ℕ) → hash ≡ Some h → length h < 2 ^ 128
hash_fits hash few h e = fits (length h) (subst (λ (o : Option (List ℕ)). IfSome o (λ h. length h < 2 ^ 64)) e few)

pub encode-requires-clause-typed : goal.encode-requires-clause-typed
encode-requires-clause-typed c =
    let told = c.in_ok-status_value.ensures in
    typed_by c.table.result.now status_type.0 c.types-2.result.now status_type.1 (views c.deref.result.now)
    (status_value c.args.phase.now c.args.controllers.now c.args.module_hash c.args.memory_size c.args.cycles ∷ [])
    (search rules) (search rules) (search rules)
    (status_told c.args.phase.now c.args.controllers.now c.args.module_hash c.args.memory_size c.args.cycles
    (fits (length c.args.controllers.now) told.few) told.short (hash_fits c.args.module_hash told.hash) (fits c.args.memory_size c.ranges.memory_size.fits) c.ranges.cycles.fits)
