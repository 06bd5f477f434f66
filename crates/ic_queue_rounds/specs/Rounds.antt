-- What rounds one after another come to, until no message is under way. No standard has this.
use Rattle.std.specs.Prelude.{ℕ, length}
use Rattle.std.specs.List.{concat}
use Rattle.ic_behaviour.specs.State.{State}
use Rattle.ic_behaviour.specs.Steps.{along}
use Rattle.ic_behaviour.specs.Round.{rounds}
use Rattle.ic_mgmt_laws.specs.Managed.{managed_rules}

-- the state after up to `count` rounds
abbrev pub after_rounds : (limit price count : ℕ) → State → State
after_rounds limit price count s = along (managed_rules limit price) s (concat (rounds (managed_rules limit price) count s))

-- how many of up to `count` rounds are made
abbrev pub rounds_made : (limit price count : ℕ) → State → ℕ
rounds_made limit price count s = length (rounds (managed_rules limit price) count s)
