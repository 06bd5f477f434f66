use Rattle.std.proofs.Common.{◌≡◌, ◌≤◌, drop, length, map}
use Rattle.ic_tree.specs.StateTree.{by_id, part_of}
use Rattle.ic_tree.proofs.state.in_order.Given as goal

-- the requests from the one with the number `left` on are in the order
abbrev pub invariant-loop-left : goal.invariant-loop-left
invariant-loop-left l = (l.left ≤ length l.requests) × (map part_of l.order.entries ≡ by_id l.left (drop l.left l.requests))

abbrev pub decreases-loop-left : goal.decreases-loop-left
decreases-loop-left l = l.left
