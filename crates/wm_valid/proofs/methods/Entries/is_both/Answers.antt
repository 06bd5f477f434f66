use Rattle.std.proofs.Common.{◌∙◌, sym}
use Rattle.wm_valid.specs.Entries.{strip_prefix, update_prefix, query_prefix}
use Rattle.wm_valid.proofs.MethodLemmas.{has_rest-has_other, or_true, or_second}
use Rattle.wm_valid.proofs.methods.Entries.is_both.Goals as goal

pub returns-then-has_method : goal.returns-then-has_method
returns-then-has_method c = λ exports has.
    let first = c.has_method.ensures ∙ has_rest-has_other c.args.self.now.queries query_prefix exports has.queries (strip_prefix update_prefix c.args.name.now) in
    c.if-has_method.true ∙ sym (or_true _ _ (sym first ∙ c.if-has_method.true))

pub returns-else-has_method : goal.returns-else-has_method
returns-else-has_method c = λ exports has.
    let first = c.has_method.ensures ∙ has_rest-has_other c.args.self.now.queries query_prefix exports has.queries (strip_prefix update_prefix c.args.name.now) in
    let second = c.has_method-else-has_method.ensures ∙ has_rest-has_other c.args.self.now.updates update_prefix exports has.updates (strip_prefix query_prefix c.args.name.now) in
    second ∙ sym (or_second _ _ (sym first ∙ c.if-has_method.false))
