use Rattle.std.proofs.Common.{false}
use Rattle.wm_decode.proofs.ExactModule.{module_takes}
use Rattle.wm_decode.proofs.Answered.{is_module, only_one, only_memory, comes}
use Rattle.wm_decode.proofs.answer.decode.Goals as goal

pub returns-in-Ok-clause-found : goal.returns-in-Ok-clause-found
returns-in-Ok-clause-found c = ((c.if-bytes-gt-LARGEST.false, c.if-is_compressed.ensures), module_takes false c.in-Ok.m c.args.bytes.now c.in-Ok.ensures)

pub returns-in-Ok-clause-only : goal.returns-in-Ok-clause-only
returns-in-Ok-clause-only c = λ m plain p. only_one false c.in-Ok.m m c.args.bytes.now c.in-Ok.ensures p

pub returns-in-Ok-clause-sound : goal.returns-in-Ok-clause-sound
returns-in-Ok-clause-sound c = is_module false c.in-Ok.m c.args.bytes.now (module_takes false c.in-Ok.m c.args.bytes.now c.in-Ok.ensures)

pub returns-in-Err-Refused-clause-only : goal.returns-in-Err-Refused-clause-only
returns-in-Err-Refused-clause-only c = λ m plain p. only_memory c.args.bytes.now c.refusal.result m (rw c.in-Err-Refused.field-0-is at c.in-Err-Refused.ensures) p

pub returns-in-Err-Refused-clause-faults : goal.returns-in-Err-Refused-clause-faults
returns-in-Err-Refused-clause-faults c = comes c.args.bytes.now c.refusal.result (c.if-bytes-gt-LARGEST.false, c.if-is_compressed.ensures)
    (rw c.in-Err-Refused.field-0-is at c.in-Err-Refused.ensures) c.refusal.ensures
