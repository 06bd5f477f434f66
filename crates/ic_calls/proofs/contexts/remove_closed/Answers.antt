use Rattle.std.proofs.Common.{rules, ap, ◌∙◌}
use Rattle.std.specs.List.{filter}
use Rattle.std.proofs.lemmas.Fn.{filter_same}
use Rattle.ic_behaviour.specs.Closing.{is_open}
use Rattle.ic_calls.proofs.contexts.remove_closed.Goals as goal

pub returns : goal.returns
returns c = filter_same _ is_open _ (λ x b f' k. search rules) _ _ c.retain.ensures.filtered ∙ ap (filter is_open) c.contexts.view_is
