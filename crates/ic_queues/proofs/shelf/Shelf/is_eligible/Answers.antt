use Rattle.std.proofs.Common.{sym, ap, ◌∙◌, take}
use Rattle.std.specs.Prelude.{slice_get}
use Rattle.std.specs.Map.{values_of}
use Rattle.ic_queues.specs.Queued.{first_of_way}
use Rattle.ic_queues.specs.Shelved.{Shelved}
use Rattle.ic_queues.proofs.Places.{at-index, eligible-some, eligible-none}
use Rattle.ic_queues.proofs.shelf.Shelf.is_eligible.Goals as goal

pub is_first_at-requires : goal.is_first_at-requires
is_first_at-requires c = (at-index c.args.place c.in-Some.index c.self.inside.places.items (sym c.index_at.ensures ∙ c.in-Some.is)).inside

pub returns-in-Some : goal.returns-in-Some
returns-in-Some c =
    c.is_first_at.ensures ∙ eligible-some c.args.place c.in-Some.index c.self.inside.first c.self.inside.places.items (sym c.in-Some.is ∙ c.index_at.ensures)
    ∙ ap (λ (s : Shelved). first_of_way (take c.args.place (values_of s.entries)) (slice_get (values_of s.entries) c.args.place)) c.self.view_is

pub returns-in-None : goal.returns-in-None
returns-in-None c =
    eligible-none c.args.place c.self.inside.first c.self.inside.places.items (sym c.in-None.is ∙ c.index_at.ensures)
    ∙ ap (λ (s : Shelved). first_of_way (take c.args.place (values_of s.entries)) (slice_get (values_of s.entries) c.args.place)) c.self.view_is
