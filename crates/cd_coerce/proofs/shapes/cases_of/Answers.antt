use Rattle.std.proofs.Common.{rules, ◌≡◌, ◌∙◌, Some, map, ap, slice_get}
use Rattle.cd_types.specs.declared.entry.Entry.TheVariants.{Var}
use Rattle.cd_types.specs.IsOrdered.{ids_rise_from}
use Rattle.cd_coerce.proofs.TableLemmas.{cases_rise}
use Rattle.cd_coerce.proofs.shapes.cases_of.Goals as goal

pub returns-in-Some-Var : goal.returns-in-Some-Var
returns-in-Some-Var c =
    let found : slice_get c.args.table.now c.in-Index.index ≡ Some (Var c.in-Some-Var.cases) = search rules in
    let is : c.deref.result.now ≡ c.in-Some-Var.cases = search rules in
    (search rules, ap (λ fields. ids_rise_from 0 (map (λ f. f.0) fields)) is ∙ cases_rise c.args.table.now c.in-Index.index c.in-Some-Var.cases c.entry.ensures.well_formed found)
