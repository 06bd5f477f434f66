-- Runs whose code has the System API (IC Interface Specification, "Abstract Canisters to System API").
use Rattle.std.specs.Prelude.{ℕ}
use Rattle.ic_behaviour.specs.Entry.{enters_by}
use Rattle.ic_behaviour.specs.Deliver.{Outside}
use Rattle.ic_api.specs.System.{system_api}
use Rattle.ic_behaviour.specs.Steps.{Rules}

abbrev pub system_rules : Outside → (limit price : ℕ) → Rules
system_rules outside limit price = record { enters = enters_by system_api; outside = outside; limit = limit; price = price }
