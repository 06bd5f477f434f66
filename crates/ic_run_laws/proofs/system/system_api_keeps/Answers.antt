use Rattle.ic_run_laws.proofs.Systems.{entries_keep, rules_keep}
use Rattle.ic_run_laws.proofs.system.system_api_keeps.Goals as goal

pub returns-clause-entries : goal.returns-clause-entries
returns-clause-entries c = entries_keep

pub returns-clause-rules : goal.returns-clause-rules
returns-clause-rules c = rules_keep
