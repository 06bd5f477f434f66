use Rattle.std.proofs.lemmas.Result.{on_ok_weaker}
use Rattle.ic_rounds.proofs.HandledSlots.{put-is, keep-is}
use Rattle.ic_rounds.proofs.putting_back.put_handled.Goals as goal

pub returns-clause-stored : goal.returns-clause-stored
returns-clause-stored c =
    on_ok_weaker c.settle.result (λ sent. put-is c.args.parts.now c.settle.new.parts c.args.slot c.put_back.new.canisters c.in_ok-put_back.ensures sent) c.settle.ensures.sent

pub returns-clause-keep : goal.returns-clause-keep
returns-clause-keep c =
    on_ok_weaker c.settle.result (λ sent. keep-is c.args.parts.now c.settle.new.parts c.args.slot c.put_back.new.canisters c.in_ok-put_back.ensures sent c.requires.keeps c.requires.keep)
    c.settle.ensures.sent
