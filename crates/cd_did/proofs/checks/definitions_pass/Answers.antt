use Rattle.std.proofs.Common.{List, ℕ, ◌∙◌}
use Rattle.std.proofs.lemmas.List.Folds.{list_all-map}
use Rattle.cd_grammar.specs.declared.written.Part.{Part}
use Rattle.cd_did.specs.Tests.{passes}
use Rattle.cd_did.proofs.checks.definitions_pass.Goals as goal

pub returns : goal.returns
returns c = c.rows_pass.ensures ∙ list_all-map (passes c.args.test.now) (λ (d : List ℕ × Part). d.1) c.args.definitions.now
