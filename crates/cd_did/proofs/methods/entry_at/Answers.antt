use Rattle.cd_did.proofs.MethodLemmas.{entry_well}
use Rattle.cd_did.proofs.methods.entry_at.Goals as goal

pub returns-in-Index-clause-well_formed : goal.returns-in-Index-clause-well_formed
returns-in-Index-clause-well_formed c = entry_well c.args.table.now c.in-Index.index c.entry.result c.entry.ensures.value c.entry.ensures.well_formed
