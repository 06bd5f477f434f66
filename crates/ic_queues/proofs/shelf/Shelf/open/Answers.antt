use Rattle.std.proofs.Common.{◌≡◌, ap, ◌∙◌}
use Rattle.std.specs.Map.{values_of}
use Rattle.std.proofs.lemmas.Result.{IfOk-weaker}
use Rattle.ic_queues.specs.Shelved.{Shelved, messages_of}
use Rattle.ic_queues.proofs.Shelves.{values-are}
use Rattle.ic_queues.proofs.shelf.Shelf.open.Goals as goal

pub returns : goal.returns
returns c =
    IfOk-weaker c.messages_of.result (λ l. l ≡ messages_of c.self.inside.places.items) _
    (λ l is. is ∙ values-are c.self.inside.first c.self.inside.places.items ∙ ap (λ (s : Shelved). values_of s.entries) c.self.view_is)
    c.messages_of.ensures
