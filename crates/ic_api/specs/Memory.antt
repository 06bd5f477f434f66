-- Copies between lists and memory, and numbers as answers (IC Interface Specification, "System API").
use Rattle.std.specs.Prelude.{ℕ, ◌^◌, List, length, Option, Some, None, nat_lt, if◌then◌else◌}
use Rattle.std.specs.Int.{to_le_bytes, w128}
use Rattle.wm_store.specs.Lists.{Lists, part, written}
use Rattle.wm_semantics.specs.declared.trap.Trap.TheVariants as trap
use Rattle.wm_semantics.specs.declared.host.HostAnswer.{HostAnswer}
use Rattle.wm_semantics.specs.declared.host.HostAnswer.TheVariants as answer
use Rattle.ic_api.specs.Steps.{Step, done, fails}

-- the bytes that were read, unless they pass the end
abbrev pub with_bytes : {S : Type 0} → Option (List ℕ) → S → (List ℕ → Step S) → Step S
with_bytes None now go_on = fails now
with_bytes (Some bytes) now go_on = go_on bytes

-- memory with the bytes written, unless they pass its end
abbrev pub wrote : Lists → Option (List ℕ) → Step Lists
wrote lists None = fails lists
wrote lists (Some memory) = done (record lists { memory = memory })

abbrev pub writes : ℕ → List ℕ → Lists → Step Lists
writes dst bytes lists = wrote lists (written dst bytes lists.memory)

abbrev pub source_copy : List ℕ → ℕ → ℕ → ℕ → Lists → Step Lists
source_copy source dst offset size lists = with_bytes (part offset size source) lists (λ bytes. writes dst bytes lists)

-- ---- numbers

-- a length as an i32
abbrev pub length_answer : List ℕ → HostAnswer
length_answer bytes = if nat_lt (length bytes) (2 ^ 32) then answer.Number (length bytes) else answer.Trap trap.Api

-- cycles as an i64
abbrev pub amount_answer : ℕ → HostAnswer
amount_answer n = if nat_lt n (2 ^ 64) then answer.Number n else answer.Trap trap.Api

-- sixteen bytes, the lowest first
unfoldable pub sixteen : ℕ → List ℕ
sixteen n = to_le_bytes w128 n
