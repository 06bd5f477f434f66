use Rattle.std.proofs.Common.{◌<◌, length, rules}
use Rattle.std.proofs.lemmas.List.{take_rest}
use Rattle.ic_outside.proofs.SentLaws.{Sent-more}
use Rattle.ic_outside.proofs.sending.send.Goals as goal

pub loop-rest-preserved : goal.loop-rest-preserved
loop-rest-preserved g c =
    let some : 0 < length c.loop-rest.rest.now = search rules in
    Sent-more _ _ _ _ _ c.loop-rest.sink c.loop-rest.rest.now c.write.new.self _ c.in-Ok.n c.loop-rest.invariant
    c.in-Ok.ensures.bound some (c.in-Ok.ensures.some some) (take_rest c.loop-rest.rest.now c.in-Ok.n) c.in-Ok.ensures.appended c.in-Ok.ensures.counted
    c.in-Ok.ensures.room
