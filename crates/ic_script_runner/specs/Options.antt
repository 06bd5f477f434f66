-- What the options of the command line mean for a run.
use Rattle.std.specs.Prelude.{None}
use Rattle.ic_behaviour.specs.Steps.{Rules}
use Rattle.ic_mgmt_laws.specs.Managed.{managed_rules}
use Rattle.ic_options.specs.declared.Options.{Options}

-- where no word says otherwise
abbrev pub default_options : Options
default_options = record { limit = 50000000; rounds = 100000; workers = 1; price = 0; generate = None }

-- the rules by which messages are delivered: code is run with the System API, and calls to the management canister are carried out
abbrev pub rules_of : Options → Rules
rules_of options = managed_rules options.limit options.price
