use Rattle.std.proofs.Common.{◌<◌, sym, ap, ◌∙◌, arith, rules, Some, None}
use Rattle.std.specs.Prelude.{slice_get}
use Rattle.std.specs.Map.{keys_of}
use Rattle.ic_queues.specs.Shelved.{Shelved}
use Rattle.ic_queues.proofs.Places.{numbered-place, at-index}
use Rattle.ic_queues.proofs.shelf.Shelf.number_at.Goals as goal

pub overflow_add-result : goal.overflow_add-result
overflow_add-result c =
    let small : c.self.inside.next < 18446744073709551616 = search rules in
    let inside = (at-index c.args.place c.in-Some.index c.self.inside.places.items (sym c.index_at.ensures ∙ c.in-Some.is)).inside in
    record { fits = omega (arith, small, inside, c.self.invariant.numbers) }

pub returns-in-Some : goal.returns-in-Some
returns-in-Some c =
    sym (ap (λ (s : Shelved). slice_get (keys_of s.entries) c.args.place) (sym c.self.view_is)
    ∙ numbered-place c.args.place c.self.inside.first c.self.inside.places.items (Some c.in-Some.index) (sym c.in-Some.is ∙ c.index_at.ensures))

pub returns-in-None : goal.returns-in-None
returns-in-None c =
    sym (ap (λ (s : Shelved). slice_get (keys_of s.entries) c.args.place) (sym c.self.view_is)
    ∙ numbered-place c.args.place c.self.inside.first c.self.inside.places.items None (sym c.in-None.is ∙ c.index_at.ensures))
