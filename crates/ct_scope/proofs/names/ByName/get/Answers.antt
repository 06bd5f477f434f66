use Rattle.std.proofs.Common.{ap, ◌∙◌}
use Rattle.ct_scope.specs.Names.{found}
use Rattle.ct_scope.proofs.Pairs.{is_found}
use Rattle.ct_scope.proofs.names.ByName.get.Goals as goal

pub returns : goal.returns
returns g c = c.copied.ensures ∙ c.get.ensures.value ∙ is_found c.self.inside.values.entries c.args.name.now ∙ ap (λ names. found names c.args.name.now) c.self.view_is
