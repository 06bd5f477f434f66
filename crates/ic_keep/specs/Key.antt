-- A number by which states are looked up: equal for states that are the same up to the order of messages that go different ways. No standard has this.
use Rattle.std.specs.Prelude.{ℕ, zero, suc, ◌/◌, ◌%◌, ◌^◌, List, Option, Some, None, length, take, drop, nat_lt, cond}
use Rattle.std.specs.List.{fold}
use Rattle.ic_behaviour.specs.declared.call.Origin.{Origin}
use Rattle.ic_behaviour.specs.declared.call.Origin.TheVariants as origin
use Rattle.ic_behaviour.specs.declared.call.Response.{Response}
use Rattle.ic_behaviour.specs.declared.call.Response.TheVariants.{Reply, Reject}
use Rattle.ic_behaviour.specs.declared.call.Message.{Message}
use Rattle.ic_behaviour.specs.declared.call.Message.TheVariants.{Call, Answer}
use Rattle.ic_behaviour.specs.declared.request.Request.{Request}
use Rattle.ic_behaviour.specs.Totals.{total}
use Rattle.ic_behaviour.specs.State.{Canister, State}
use Rattle.ic_exact.specs.Key.{mix, key_of_range}

-- of the length, and of the bytes where they are few
abbrev pub key_of_bytes : List ℕ → ℕ
key_of_bytes bytes = cond (nat_lt 64 (length bytes)) (length bytes) (fold mix (length bytes) bytes)

abbrev pub key_of_response : Response → ℕ
key_of_response (Reply bytes) = key_of_bytes bytes
key_of_response (Reject code message) = mix code (key_of_bytes message)

-- the number of the call, and what its callback is called with
abbrev pub key_of_origin : Origin → ℕ
key_of_origin (origin.Ingress k) = k
key_of_origin (origin.Canister caller n context callback) = mix n callback.reply_env

abbrev pub key_of_message : Message → ℕ
key_of_message (Call from sender callee method arg cycles) = mix (key_of_origin from) (key_of_bytes arg)
key_of_message (Answer from sender response refund) = mix (mix (key_of_origin from) 1) (key_of_response response)

abbrev pub key_of_answer : Option Response → ℕ
key_of_answer None = 0
key_of_answer (Some response) = mix 1 (key_of_response response)

abbrev pub key_of_requests : ℕ → List Request → ℕ
key_of_requests key requests = fold (λ k (r : Request). mix k (key_of_answer r.answer)) key requests

-- that many ranges more
abbrev pub with_ranges : (count : ℕ) → (key : ℕ) → List ℕ → ℕ
with_ranges zero key bytes = key
with_ranges (suc n) key bytes = with_ranges n (mix key (key_of_range (take 4096 bytes))) (drop 4096 bytes)

-- the ranges of a memory
abbrev pub with_memory : (key : ℕ) → List ℕ → ℕ
with_memory key bytes = with_ranges (length bytes / 4096) key bytes

-- what a canister has stored
abbrev pub with_canister : (key : ℕ) → Canister → ℕ
with_canister key c = fold mix (with_memory (with_memory key c.store.memory) c.store.stable) c.store.globals

abbrev pub with_canisters : (key : ℕ) → List (List ℕ × Canister) → ℕ
with_canisters key entries = fold (λ k (e : List ℕ × Canister). with_canister k e.1) key entries

-- the sum over the messages does not depend on their order
abbrev pub key_of : State → ℕ
key_of s = with_canisters (key_of_requests (total key_of_message s.messages % 2 ^ 64) s.requests) s.canisters
