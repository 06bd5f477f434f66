use Rattle.std.proofs.Common.{sym, ◌∙◌}
use Rattle.cd_did.proofs.NamePlaces.{none_there, one_there}
use Rattle.cd_did.proofs.names.Names.has.Goals as goal

pub returns-in-None : goal.returns-in-None
returns-in-None c = sym (none_there c.args.self.now.definitions 0 c.args.name.now (sym c.place_of.ensures.value ∙ c.in-None.is))

pub returns-in-Some : goal.returns-in-Some
returns-in-Some c = sym (one_there c.args.self.now.definitions 0 c.in-Some.field-0 c.args.name.now (sym c.place_of.ensures.value ∙ c.in-Some.is))
