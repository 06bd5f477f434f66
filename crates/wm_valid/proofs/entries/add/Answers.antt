use Rattle.std.proofs.Common.{◌∙◌, ap}
use Rattle.wm_valid.proofs.NameLemmas.{among, among-insert_key}
use Rattle.wm_valid.proofs.entries.add.Goals as goal

pub returns-clause-names : goal.returns-clause-names
returns-clause-names c = λ other. ap (among other) c.in_ok-insert.ensures.keys ∙ among-insert_key other c.args.names.now.keys c.args.name
