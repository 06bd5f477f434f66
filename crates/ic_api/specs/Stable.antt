-- Stable memory (IC Interface Specification, "System API", "Stable memory").
use Rattle.std.specs.Prelude.{ℕ, List, Option, Some, None}
use Rattle.wm_store.specs.Lists.{Lists, part, written, grown, pages_of}
use Rattle.ic_api.specs.Steps.{Step, done, tells, fails}
use Rattle.ic_api.specs.Memory.{with_bytes, source_copy}

-- the old number of pages, or the number that refuses
abbrev pub grew : ℕ → Lists → Option (List ℕ) → Step Lists
grew refusal lists None = tells refusal lists
grew refusal lists (Some stable) = tells (pages_of lists.stable) (record lists { stable = stable })

abbrev pub stable_grow : ℕ → ℕ → Lists → Step Lists
stable_grow refusal pages lists = grew refusal lists (grown 256 pages lists.stable)

abbrev pub stable_wrote : Lists → Option (List ℕ) → Step Lists
stable_wrote lists None = fails lists
stable_wrote lists (Some stable) = done (record lists { stable = stable })

abbrev pub stable_write : ℕ → ℕ → ℕ → Lists → Step Lists
stable_write offset src size lists = with_bytes (part src size lists.memory) lists (λ bytes.
    stable_wrote lists (written offset bytes lists.stable))

abbrev pub stable_read : ℕ → ℕ → ℕ → Lists → Step Lists
stable_read dst offset size lists = source_copy lists.stable dst offset size lists
