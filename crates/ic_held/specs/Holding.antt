-- How a message waits. No standard has this.
use Rattle.std.specs.Prelude.{ℕ, ◌≡◌, ◌+◌, ◌%◌, ◌^◌, List}
use Rattle.std.specs.List.{fold}
use Rattle.ic_behaviour.specs.declared.call.Origin.TheVariants.{Ingress, Canister}
use Rattle.ic_behaviour.specs.declared.call.Message.{Message}
use Rattle.ic_behaviour.specs.declared.call.Message.TheVariants.{Call, Answer}
use Rattle.ic_held.specs.declared.held.UserCall.{UserCall}
use Rattle.ic_held.specs.declared.held.Kind.{Kind}
use Rattle.ic_held.specs.declared.held.Kind.TheVariants.{User, Other}

-- a user's call carries no cycles
abbrev pub user_message : UserCall → Message
user_message call = Call (Ingress call.number) call.sender call.callee call.method call.arg 0

-- a call of a user with that number of its request
abbrev pub IsUserCall : Message → (number : ℕ) → Type 0
IsUserCall (Call (Ingress k) sender callee method arg cycles) number = (k ≡ number) × (cycles ≡ 0)
IsUserCall (Call (Canister caller n context callback) sender callee method arg cycles) number = ⊥
IsUserCall (Answer from sender response refund) number = ⊥

abbrev pub message_of : Kind → Message
message_of (User tag call) = user_message call.value
message_of (Other tag message) = message.value

-- ---- a byte that messages of one way share

abbrev pub add_byte : (sum byte : ℕ) → ℕ
add_byte sum byte = (sum + byte) % 2 ^ 8

-- the low byte of the sum of the bytes of a sender and a callee
abbrev pub way_tag : (sender callee : List ℕ) → ℕ
way_tag sender callee = fold add_byte (fold add_byte 0 sender) callee

abbrev pub tag_of : Kind → ℕ
tag_of (User tag call) = tag
tag_of (Other tag message) = tag
