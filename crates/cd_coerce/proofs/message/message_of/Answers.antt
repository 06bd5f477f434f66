use Rattle.std.proofs.Common.{rules, ◌≡◌, ℕ, ◌≤◌, Some, None, subst, ap, ◌∙◌}
use Rattle.std.specs.Prelude.{IfOk}
use Rattle.cd_codec.specs.Answers.{contents}
use Rattle.cd_codec.specs.Measure.{number_each}
use Rattle.cd_coerce.specs.Decoded.{unfit_from}
use Rattle.cd_coerce.proofs.StepLemmas.{Tables, in_tables}
use Rattle.cd_coerce.proofs.MessageLemmas.{fit_answers, fit_then}
use Rattle.cd_coerce.proofs.message.message_of.Goals as goal

pub returns-in-Ok-None-clause-answer : goal.returns-in-Ok-None-clause-answer
returns-in-Ok-None-clause-answer c =
    let made : c.new-coercion.result ≡ ((c.args.header.now.table, c.args.expected.now.0), c.args.most_values) = search rules in
    let types : c.deref.result.now ≡ c.args.header.now.types = search rules in
    let least : None ≡ unfit_from (in_tables (c.args.header.now.table, c.args.expected.now.0)) 0 c.deref.result.now c.types-in-Ok-None.result.now = search rules in
    fit_then c.values_of.result (c.args.header.now.table, c.args.expected.now.0) c.unfit.new.self.0 c.args.header.now.types c.deref.result.now c.args.expected.now.1 c.types-in-Ok-None.result.now _
    (ap (λ (s : Tables × ℕ). s.0) (c.unfit.ensures.tables ∙ made)) types c.types-in-Ok-None.ensures.value least c.values_of.ensures.answer

pub returns-in-Ok-None-clause-few : goal.returns-in-Ok-None-clause-few
returns-in-Ok-None-clause-few c =
    let left = ap (λ (s : Tables × ℕ). s.1) (c.unfit.ensures.tables ∙ c.new-coercion.ensures) in
    subst (λ (n : ℕ). IfOk c.values_of.result (λ values. number_each (contents values) ≤ n)) left c.values_of.ensures.few

pub returns-in-Ok-Some-clause-answer : goal.returns-in-Ok-Some-clause-answer
returns-in-Ok-Some-clause-answer c =
    let types : c.deref.result.now ≡ c.args.header.now.types = search rules in
    let least : Some c.in-Ok-Some.argument ≡ unfit_from (in_tables (c.args.header.now.table, c.args.expected.now.0)) 0 c.deref.result.now c.types.result.now = search rules in
    fit_answers (in_tables (c.args.header.now.table, c.args.expected.now.0)) c.args.header.now.types c.deref.result.now c.args.expected.now.1 c.types.result.now _ (Some c.in-Ok-Some.argument) types c.types.ensures.value least
