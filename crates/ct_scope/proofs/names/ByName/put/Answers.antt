use Rattle.std.proofs.Common.{List, ℕ, ap, ◌∙◌}
use Rattle.ct_scope.specs.Names.{pairs, put}
use Rattle.ct_scope.proofs.Pairs.{is_put}
use Rattle.ct_scope.proofs.names.ByName.put.Goals as goal

pub returns : goal.returns
returns g c = ap pairs c.in_ok-insert.ensures.entries
    ∙ is_put c.self.inside.values.entries c.in_ok-from_slice.field-0 c.args.value
    ∙ ap (λ names. put names c.in_ok-from_slice.field-0.items c.args.value) c.self.view_is
    ∙ ap (λ (name : List ℕ). put c.args.self.now name c.args.value) c.in_ok-from_slice.ensures.items
