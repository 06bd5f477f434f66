use Rattle.ct_outcomes.proofs.meeting.steps_of.Goals as goal

pub returns-in-Err-Unexpected : goal.returns-in-Err-Unexpected
returns-in-Err-Unexpected c = λ x e. rw c.in-Err-Unexpected.field-0-is at (c.in-Err-Unexpected.ensures.only x (rw (c.table.ensures, c.types.ensures) e))
