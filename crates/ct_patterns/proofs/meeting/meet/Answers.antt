use Rattle.ct_patterns.specs.Views.{binding_views}
use Rattle.ct_patterns.proofs.Matches.{found_meets, only_meets}
use Rattle.ct_patterns.proofs.meeting.meet.Goals as goal

pub returns-clause-found : goal.returns-clause-found
returns-clause-found c = found_meets (λ b. binding_views b.items.items) c.meet_steps.result _ _ c.meet_steps.ensures

pub returns-clause-only : goal.returns-clause-only
returns-clause-only c = λ bindings meets. only_meets (λ b. binding_views b.items.items) c.meet_steps.result _ _ bindings c.meet_steps.ensures meets
