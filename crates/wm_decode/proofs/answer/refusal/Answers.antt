use Rattle.std.proofs.Common.{true}
use Rattle.wm_decode.proofs.ExactModule.{module_takes}
use Rattle.wm_decode.proofs.Answered.{none_spelled}
use Rattle.wm_decode.proofs.answer.refusal.Goals.{in-Ok, in-Err-Refused, in-Err-NoMemory}
use Rattle.wm_decode.proofs.answer.refusal.Goals as goal

pub returns : goal.returns
returns c =
    elim c.match-module.branch [
      | in-Ok w ↦ rw w.result-is (w.in-Ok.field-0, module_takes true w.in-Ok.field-0 c.args.bytes.now w.in-Ok.ensures)
      | in-Err-Refused w ↦ rw w.result-is (none_spelled true c.args.bytes.now (rw w.in-Err-Refused.field-0-is at w.in-Err-Refused.ensures))
      | in-Err-NoMemory w ↦ rw w.result-is tt
    ]
