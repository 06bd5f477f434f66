-- Cycles (IC Interface Specification, "System API", "Cycles").
use Rattle.std.specs.Prelude.{ℕ, ◌+◌, ◌-◌, ◌*◌, ◌^◌, List, Option, Some, None, min}
use Rattle.wm_store.specs.Lists.{written}
use Rattle.ic_api.specs.declared.execution.Execution.{Execution}
use Rattle.ic_api.specs.Steps.{Step, Now, done, tells, fails}
use Rattle.ic_api.specs.Memory.{sixteen}

-- a number of 128 bits in two halves
abbrev pub whole : ℕ → ℕ → ℕ
whole high low = high * 2 ^ 64 + low

-- this many of the available cycles move to the balance
abbrev pub accepted : ℕ → Execution → Execution
accepted n es = record es { view = record es.view { balance = es.view.balance + n; available = es.view.available - n } }

abbrev pub acceptable : ℕ → Execution → ℕ
acceptable most es = min most es.view.available

abbrev pub msg_cycles_accept : ℕ → Execution → Step Execution
msg_cycles_accept most es = tells (acceptable most es) (accepted (acceptable most es) es)

-- unless the sixteen bytes passed the memory's end
abbrev pub accepts : ℕ → Option (List ℕ) → Now → Step Now
accepts n None now = fails now
accepts n (Some memory) now = done (record { es = accepted n now.es; lists = record now.lists { memory = memory } })

abbrev pub accepts_at : ℕ → ℕ → Now → Step Now
accepts_at n dst now = accepts n (written dst (sixteen n) now.lists.memory) now

abbrev pub msg_cycles_accept128 : ℕ → ℕ → ℕ → Now → Step Now
msg_cycles_accept128 high low dst now = accepts_at (acceptable (whole high low) now.es) dst now
