-- The sender and the callee of messages. No standard has this.
use Rattle.std.specs.Prelude.{◌≡◌, ℕ, ◌&&◌, Bool, List}
use Rattle.std.specs.List.{list_any}
use Rattle.std.specs.BTreeSet.{BTreeSet, contains}
use Rattle.std.specs.Ordering.{nat_cmp, ordering_then}
use Rattle.std.specs.Cmp.Lexicographic.{slice_cmp}
use Rattle.std.specs.declared.cmp.Ordering.{Ordering}
use Rattle.ic_behaviour.specs.declared.call.Message.{Message}
use Rattle.ic_behaviour.specs.State.{at, callee_of}
use Rattle.ic_behaviour.specs.Steps.{sender_of}

abbrev pub way_cmp : List ℕ × List ℕ → List ℕ × List ℕ → Ordering
way_cmp x y = ordering_then (slice_cmp nat_cmp x.0 y.0) (slice_cmp nat_cmp x.1 y.1)

abbrev pub is_way : List ℕ × List ℕ → Message → Bool
is_way way m = at way.0 (sender_of m) && at way.1 (callee_of m)

-- the set has the sender and callee of each of the messages, and no other
abbrev pub HasWays : BTreeSet (List ℕ × List ℕ) → List Message → Type 0
HasWays ways messages = (way : List ℕ × List ℕ) → contains way_cmp ways way ≡ list_any (is_way way) messages
