use Rattle.std.proofs.Common.{ap, ◌∙◌}
use Rattle.cd_grammar.specs.File.{File}
use Rattle.cd_did.specs.Rings.{place_from}
use Rattle.cd_did.proofs.NamePlaces.{found_within}
use Rattle.cd_did.proofs.names.Names.place_of.Goals as goal

pub returns-clause-value : goal.returns-clause-value
returns-clause-value c = c.copied.ensures ∙ c.get.ensures.value ∙ c.self.invariant c.args.name.now ∙ ap (λ (f : File). place_from f.definitions 0 c.args.name.now) c.self.view_is

pub returns-clause-bound : goal.returns-clause-bound
returns-clause-bound c = found_within c.copied.result c.args.self.now.definitions c.args.name.now (returns-clause-value c)
