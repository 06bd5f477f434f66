-- The rules of a run keep what is asked of rules.
use Rattle.std.proofs.Common.{◌≡◌, ℕ}
use Rattle.std.specs.List.{concat}
use Rattle.ic_behaviour.specs.State.{State}
use Rattle.ic_behaviour.specs.Steps.{along}
use Rattle.ic_behaviour.specs.Round.{rounds}
use Rattle.ic_behaviour.proofs.RunLaws.{after_delivers}
use Rattle.ic_run_laws.specs.RulesKeep.{RulesKeep}
use Rattle.ic_mgmt_laws.proofs.Managed.{managed_keep}
use Rattle.ic_options.specs.declared.Options.{Options}
use Rattle.ic_script_runner.specs.AfterCommand.{acts_of_rounds, after_rounds}
use Rattle.ic_script_runner.specs.Options.{rules_of}

pub rules_keep : (options : Options) → RulesKeep (rules_of options)
rules_keep options = managed_keep options.limit options.price

-- the state after rounds, as deliveries one after another
pub after_rounds-is : (options : Options) (count : ℕ) (s : State) → after_rounds options count s ≡ along (rules_of options) s (concat (rounds (rules_of options) count s))
unfolding acts_of_rounds
after_rounds-is options count s = after_delivers (rules_of options) s (concat (rounds (rules_of options) count s))
