use Rattle.std.proofs.Common.{◌++◌, sym, ap, ◌∙◌}
use Rattle.std.specs.Option.{option_to_list}
use Rattle.ic_queues.proofs.Shelves.{messages-last}
use Rattle.ic_queues.proofs.shelf.messages_of.Goals as goal

pub loop-place-preserved : goal.loop-place-preserved
loop-place-preserved c =
    c.in_ok-put.ensures ∙ ap (λ l. l ++ option_to_list c.in-Some.place) c.loop-place.invariant ∙ sym (messages-last c.loop-place.yielded c.in-Some.place)
