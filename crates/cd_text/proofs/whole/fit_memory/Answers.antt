use Rattle.std.proofs.Common.{◌<◌, ◌^◌, length, rules}
use Rattle.cd_text.proofs.Typed.{room_seen, room_all}
use Rattle.cd_text.proofs.whole.fit_memory.Goals as goal

pub loop-token-preserved : goal.loop-token-preserved
loop-token-preserved c = room_seen c.args.tokens.now c.loop-token.token-index c.token-item.result c.loop-token-test.true c.token-item.is c.loop-token.invariant c.fits_memory.ensures

pub returns : goal.returns
returns c =
    let few : length c.args.tokens.now < 2 ^ 63 = search rules in
    room_all c.args.tokens.now c.loop-token.token-index few c.loop-token-test.false c.loop-token.invariant
