use Rattle.std.proofs.Common.{◌≡◌, ◌≤◌, ℕ, List, length, map, take}
use Rattle.std.specs.Prelude.{All}
use Rattle.cd_codec.specs.View.{views}
use Rattle.ic_mgmt_candid.specs.Replies.{principal_value}
use Rattle.ic_mgmt_candid.proofs.replies.principal_values.Given as goal

abbrev pub invariant-loop-id : goal.invariant-loop-id
invariant-loop-id l = record { values : views l.values.items ≡ map principal_value (take l.id-index l.ids); short : All (λ (id : List ℕ). length id ≤ 29) (take l.id-index l.ids) }
