use Rattle.std.proofs.Common.{rules, ◌≡◌, ◌∙◌, Some, map, ap, slice_get}
use Rattle.cd_types.specs.declared.entry.Entry.TheVariants.{Rec}
use Rattle.cd_types.specs.IsOrdered.{ids_rise_from}
use Rattle.cd_coerce.proofs.TableLemmas.{fields_rise}
use Rattle.cd_coerce.proofs.shapes.fields_of.Goals as goal

pub returns-in-Some-Rec : goal.returns-in-Some-Rec
returns-in-Some-Rec c =
    let found : slice_get c.args.table.now c.in-Index.index ≡ Some (Rec c.in-Some-Rec.fields) = search rules in
    let is : c.deref.result.now ≡ c.in-Some-Rec.fields = search rules in
    (search rules, ap (λ fields. ids_rise_from 0 (map (λ f. f.0) fields)) is ∙ fields_rise c.args.table.now c.in-Index.index c.in-Some-Rec.fields c.entry.ensures.well_formed found)
