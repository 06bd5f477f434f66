-- Counts of faults. A count stands still at 2^64-1, the largest 64-bit number.
use Rattle.std.specs.Prelude.{ℕ, ◌+◌, ◌-◌, ◌^◌, ◌≤◌, min, Result, Ok, Err}
use Rattle.ic_outside.specs.declared.error.LineFault.{LineFault}
use Rattle.ic_outside.specs.declared.error.LineFault.TheVariants.{ReadFault}

-- one more, up to 2^64-1
abbrev pub next_count : ℕ → ℕ
next_count n = min (n + 1) (2 ^ 64 - 1)

-- a count is higher than before, or is at 2^64-1
abbrev pub Rose : ℕ → ℕ → Type 0
Rose before now = next_count before ≤ now

-- a count after a read, a write or a call that sends: one more where it failed
abbrev pub count_after : {T E : Type 0} → ℕ → Result T E → ℕ
count_after before (Ok value) = before
count_after before (Err fault) = next_count before

-- a source's count after a call for a line: one more where the source failed
abbrev pub count_after_line : {T : Type 0} → ℕ → Result T LineFault → ℕ
count_after_line before (Ok line) = before
count_after_line before (Err ReadFault) = next_count before
count_after_line before (Err other) = before

-- what a count shows of a number: it never passes 2^64-1
abbrev pub capped : ℕ → ℕ
capped n = min n (2 ^ 64 - 1)
