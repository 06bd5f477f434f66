use Rattle.wm_decode.proofs.CodeSteps.{text_again, text_none}
use Rattle.wm_decode.proofs.values.text.Goals as goal

pub returns-in-Ok : goal.returns-in-Ok
returns-in-Ok c =
    text_again c.args.bytes.now c.in_ok-items.items.now c.in_ok-items.rest.now c.in-Ok.text.now c.in_ok-items.ensures c.in-Ok.ensures.cases.0 c.in-Ok.ensures.cases.1

pub returns-in-Err : goal.returns-in-Err
returns-in-Err c = text_none c.args.bytes.now c.in_ok-items.items.now c.in_ok-items.rest.now c.in_ok-items.ensures c.in-Err.ensures.cases.0
