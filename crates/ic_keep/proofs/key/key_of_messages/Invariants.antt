use Rattle.std.proofs.Common.{◌≡◌, ◌+◌, ◌%◌, ◌^◌, drop}
use Rattle.ic_behaviour.specs.Totals.{total}
use Rattle.ic_keep.specs.Key.{key_of_message}
use Rattle.ic_keep.proofs.key.key_of_messages.Given as goal

abbrev pub invariant-loop-message : goal.invariant-loop-message
invariant-loop-message l = (l.key + total key_of_message (drop l.message-index l.messages)) % 2 ^ 64 ≡ total key_of_message l.messages % 2 ^ 64
