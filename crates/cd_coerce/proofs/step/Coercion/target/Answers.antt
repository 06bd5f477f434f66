use Rattle.std.proofs.Common.{rules, ◌≡◌, ◌<◌, ◌^◌, Some, refl, slice_get}
use Rattle.std.proofs.lemmas.Option.{slice_get_read}
use Rattle.cd_types.specs.Shape.{shape}
use Rattle.cd_coerce.specs.Read.{cases_of}
use Rattle.cd_coerce.proofs.PartsLemmas.{target_is, place_fits}
use Rattle.cd_types.proofs.EntryLemmas.{few_ids}
use Rattle.cd_coerce.proofs.step.Coercion.target.Goals as goal

pub overflow_cast-result : goal.overflow_cast-result
overflow_cast-result c =
    let few = few_ids c.in-Some-Some.expected.now c.in-Some-Some.ensures'.1 in
    let below : c.in_ok-place-in-Some-Some.place < 2 ^ 32 = place_fits c.in-Some-Some.expected.now _ c.in_ok-place-in-Some-Some.place c.in_ok-place-in-Some-Some.to few c.in_ok-place-in-Some-Some.ensures in
    search rules

pub returns-in_ok-place-in-Some-Some : goal.returns-in_ok-place-in-Some-Some
returns-in_ok-place-in-Some-Some c =
    let lower : cases_of (shape c.args.self.now.0.0 c.args.t) ≡ Some c.in-Some-Some.cases.now = search rules in
    let upper : cases_of (shape c.args.self.now.0.1 c.args.u) ≡ Some c.in-Some-Some.expected.now = search rules in
    let got : slice_get c.in-Some-Some.cases.now c.args.position ≡ Some c.in_ok-id-in-Some-Some.field-0.now =
    slice_get_read c.in-Some-Some.cases.now _ c.args.position c.in_ok-id-in-Some-Some.field-0.now refl c.in_ok-id-in-Some-Some.ensures.lookup.3.0 c.in_ok-id-in-Some-Some.ensures.lookup.1 in
    target_is (shape c.args.self.now.0.0 c.args.t) (shape c.args.self.now.0.1 c.args.u) c.args.position c.in_ok-place-in-Some-Some.place _ _ c.in_ok-id-in-Some-Some.field-0.now c.in_ok-place-in-Some-Some.to lower got upper c.in_ok-place-in-Some-Some.ensures
