use Rattle.std.proofs.Common.{◌∙◌}
use Rattle.cd_names.proofs.Found.{lookup_is, own}
use Rattle.cd_names.proofs.names.FieldNames.name.Goals as goal

pub returns-in-Some-clause-id : goal.returns-in-Some-clause-id
returns-in-Some-clause-id c =
    own c.self.inside.names.entries c.args.id c.in-Some.name.now c.as_str.result.now c.self.invariant.0 (c.as_str.ensures.value ∙ c.name.view_is) (c.in-Some.ensures.value ∙ lookup_is c.args.id c.self.inside.names.entries)
