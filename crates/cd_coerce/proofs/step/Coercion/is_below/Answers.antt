use Rattle.std.proofs.Common.{ℕ, List, sym, ap, ◌∙◌}
use Rattle.cd_types.specs.declared.entry.Entry.{Entry}
use Rattle.cd_types.specs.Shape.{shape}
use Rattle.cd_coerce.specs.BelowOutside.{below_outside}
use Rattle.cd_coerce.proofs.DecidesLemmas.{outside}
use Rattle.cd_coerce.proofs.step.Coercion.is_below.Goals as goal

pub returns-else-are_inside-clause-test : goal.returns-else-are_inside-clause-test
returns-else-are_inside-clause-test c =
    c.is_outside_subtype.ensures
    ∙ ap (λ (s : (List Entry × List Entry) × ℕ). below_outside c.args.t (shape s.0.1 c.args.u)) c.self.view_is
    ∙ sym (outside c.args.self.now.0.0 c.args.self.now.0.1 c.args.t c.args.u (sym c.are_inside.ensures ∙ c.if-are_inside.false))
