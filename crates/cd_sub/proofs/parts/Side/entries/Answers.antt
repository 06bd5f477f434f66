use Rattle.std.proofs.Common.{subst, sym, ◌∙◌}
use Rattle.std.specs.Ordering.{nat_cmp}
use Rattle.std.specs.Cmp.Lexicographic.{slice_cmp}
use Rattle.cd_sub.specs.Rising.{Rising}
use Rattle.cd_sub.proofs.OrderLemmas.{record_rises, variant_rises, service_rises}
use Rattle.cd_sub.proofs.parts.Side.entries.Goals as goal

pub fields-requires-clause-fields : goal.fields-requires-clause-fields
fields-requires-clause-fields c = subst (Rising nat_cmp) (sym (c.deref.ensures.value ∙ c.fields.view_is)) (record_rises _ _ c.requires.x c.in-Rec-Rec.is-0)

pub fields-requires-clause-expected : goal.fields-requires-clause-expected
fields-requires-clause-expected c = subst (Rising nat_cmp) (sym (c.deref-in-Rec-Rec.ensures.value ∙ c.expected.view_is)) (record_rises _ _ c.requires.y c.in-Rec-Rec.is-1)

pub cases-requires-clause-cases : goal.cases-requires-clause-cases
cases-requires-clause-cases c = subst (Rising nat_cmp) (sym (c.deref-in-Var-Var.ensures.value ∙ c.cases.view_is)) (variant_rises _ _ c.requires.x c.in-Var-Var.is-0)

pub cases-requires-clause-expected : goal.cases-requires-clause-expected
cases-requires-clause-expected c = subst (Rising nat_cmp) (sym (c.deref-in-Var-Var-2.ensures.value ∙ c.expected-in-Var-Var.view_is)) (variant_rises _ _ c.requires.y c.in-Var-Var.is-1)

pub methods-requires-clause-methods : goal.methods-requires-clause-methods
methods-requires-clause-methods c = subst (Rising (slice_cmp nat_cmp)) (sym (c.deref-in-Service-Service.ensures.value ∙ c.methods.view_is)) (service_rises _ _ c.requires.x c.in-Service-Service.is-0)

pub methods-requires-clause-expected : goal.methods-requires-clause-expected
methods-requires-clause-expected c = subst (Rising (slice_cmp nat_cmp)) (sym (c.deref-in-Service-Service-2.ensures.value ∙ c.expected-in-Service-Service.view_is)) (service_rises _ _ c.requires.y c.in-Service-Service.is-1)
