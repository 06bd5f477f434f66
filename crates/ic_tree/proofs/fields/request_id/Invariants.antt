use Rattle.std.proofs.Common.{◌≡◌, map, take}
use Rattle.ic_tree.specs.RequestId.{in_order, pair_of}
use Rattle.ic_tree.proofs.fields.request_id.Given as goal

abbrev pub invariant-loop-field : goal.invariant-loop-field
invariant-loop-field l = l.pairs ≡ in_order (map pair_of (take l.field-index l.fields))
