use Rattle.std.proofs.Common.{rules, ◌≡◌, List, None, drop, sym, subst, ap, ◌∙◌, arith}
use Rattle.cd_types.specs.declared.entry.Entry.{Entry}
use Rattle.cd_codec.specs.Content.{Content}
use Rattle.cd_codec.specs.AreValues.{AreValues}
use Rattle.cd_codec.specs.Answers.{contents}
use Rattle.cd_codec.specs.View.{views}
use Rattle.cd_codec.proofs.Views.{contents_made}
use Rattle.cd_coerce.proofs.StepLemmas.{in_tables}
use Rattle.cd_coerce.proofs.MessageLemmas.{ok, bad_values, some_values}
use Rattle.cd_coerce.proofs.message.values_of.Goals as goal

pub returns-in-Ok-arguments-clause-answer : goal.returns-in-Ok-arguments-clause-answer
returns-in-Ok-arguments-clause-answer c =
    let are = subst (λ (table : List Entry). AreValues table c.args.header.now.types (contents c.in-Ok.values) (drop c.args.header.now.length c.args.bytes.now)) (sym c.requires.table) c.in-Ok.ensures.found in
    let types : c.deref.result.now ≡ c.args.header.now.types = search rules in
    let values : views c.deref-in-Ok.result.now ≡ contents c.in-Ok.values = ap views c.deref-in-Ok.ensures.value in
    some_values (in_tables c.args.coercion.now.0) c.args.header.now.types c.deref.result.now c.args.expected.now (drop c.args.header.now.length c.args.bytes.now) (contents c.in-Ok.values) (views c.deref-in-Ok.result.now) _ are types values c.in-Ok-arguments.ensures.values
    ∙ ap (λ (rs : List Content). ok rs) (sym (contents_made c.in-Ok-arguments.items))

pub returns-in-Err-Refused-clause-answer : goal.returns-in-Err-Refused-clause-answer
returns-in-Err-Refused-clause-answer c =
    let are = subst (λ (table : List Entry). AreValues table c.args.header.now.types (contents c.in-Ok.values) (drop c.args.header.now.length c.args.bytes.now)) (sym c.requires.table) c.in-Ok.ensures.found in
    let types : c.deref.result.now ≡ c.args.header.now.types = search rules in
    let values : views c.deref-in-Ok.result.now ≡ contents c.in-Ok.values = ap views c.deref-in-Ok.ensures.value in
    some_values (in_tables c.args.coercion.now.0) c.args.header.now.types c.deref.result.now c.args.expected.now (drop c.args.header.now.length c.args.bytes.now) (contents c.in-Ok.values) (views c.deref-in-Ok.result.now) None are types values
    (rw c.in-Err-Refused.field-0-is at c.in-Err-Refused.ensures.values)

pub returns-in-Err-BadValue-clause-answer : goal.returns-in-Err-BadValue-clause-answer
returns-in-Err-BadValue-clause-answer c =
    bad_values (in_tables c.args.coercion.now.0) c.args.header.now.types c.args.expected.now (drop c.args.header.now.length c.args.bytes.now) (λ values are.
    rw c.in-Err-BadValue.field-0-is at (c.in-Err-BadValue.ensures.only values (subst (λ (table : List Entry). AreValues table c.args.header.now.types values (drop c.args.header.now.length c.args.bytes.now)) c.requires.table are)))

pub returns-in-Ok-arguments-clause-few : goal.returns-in-Ok-arguments-clause-few
returns-in-Ok-arguments-clause-few c = rw (contents_made c.in-Ok-arguments.items) (omega (arith, c.in-Ok-arguments.ensures.counted))
