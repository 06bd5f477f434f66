use Rattle.std.proofs.Common.{sym, ◌∙◌}
use Rattle.cd_did.proofs.NamePlaces.{one_before, none_before}
use Rattle.cd_did.proofs.names.Names.has_before.Goals as goal

pub returns-in-None : goal.returns-in-None
returns-in-None c = sym (none_before c.args.place c.args.self.now.definitions 0 c.args.name.now (sym c.place_of.ensures.value ∙ c.in-None.is))

pub returns-in-Some : goal.returns-in-Some
returns-in-Some c = sym (one_before c.args.place c.args.self.now.definitions c.in-Some.first c.args.name.now (sym c.place_of.ensures.value ∙ c.in-Some.is))
