use Rattle.std.proofs.Common.{◌-◌, ap, ◌∙◌, List, ℕ, cond, Some, arith}
use Rattle.std.specs.Prelude.{bytes_eq}
use Rattle.cd_did.specs.Places.{found_in}
use Rattle.cd_did.proofs.NamePlaces.{name_put, one_more}
use Rattle.cd_did.proofs.names.put_places.Goals as goal

pub loop-place-preserved : goal.loop-place-preserved
loop-place-preserved c =
    let place = c.loop-place.place - 1 in
    let is = c.in_ok-from_slice.ensures.items ∙ c.deref.ensures.value ∙ c.name.view_is in
    one_more c.loop-place.places c.insert.new.self c.args.definitions.now place c.loop-place.place c.index-definitions-place.result (omega arith) (omega arith) c.index-definitions-place.is c.loop-place.invariant
    (λ name. name_put c.in_ok-from_slice.field-0.items c.loop-place.places c.insert.new.self place c.in_ok-insert.ensures.updates name ∙ ap (λ (key : List ℕ). cond (bytes_eq key name) (Some place) (found_in c.loop-place.places name)) is)
