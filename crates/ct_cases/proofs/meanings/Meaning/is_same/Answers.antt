use Rattle.std.proofs.Common.{◌≡◌, ap, ◌∙◌}
use Rattle.ct_cases.specs.Meanings as meaning
use Rattle.ct_cases.specs.declared.meanings.Meaning.TheInside.{Inside}
use Rattle.ct_cases.proofs.Meant.{same_meaning}
use Rattle.ct_cases.proofs.meanings.Meaning.is_same.Goals as goal

pub returns-then-same_names : goal.returns-then-same_names
returns-then-same_names c =
    let a = c.args.self.now in
    let b = c.args.other.now in
    let own : c.deref.result.now ≡ a.0 = c.deref.ensures.value ∙ ap (λ (i : Inside). i.names) c.self-inside.view_is ∙ ap (λ (m : meaning.Meaning). m.0) c.self.view_is in
    let other : c.deref-2.result.now ≡ b.0 = c.deref-2.ensures.value ∙ ap (λ (i : Inside). i.names) c.other-inside.view_is ∙ ap (λ (m : meaning.Meaning). m.0) c.other.view_is in
    same_meaning a b c.deref.result.now c.deref-2.result.now c.self-inside.inside.0.1.0.items c.other-inside.inside.0.1.0.items c.eq.result own other
    (ap (λ (i : Inside). i.accepted.items) c.self-inside.view_is ∙ ap (λ (m : meaning.Meaning). m.1) c.self.view_is)
    (ap (λ (i : Inside). i.accepted.items) c.other-inside.view_is ∙ ap (λ (m : meaning.Meaning). m.1) c.other.view_is)
    (c.same_names.ensures.0 c.if-same_names.true) c.eq.ensures
