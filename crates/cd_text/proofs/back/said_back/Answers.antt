use Rattle.cd_codec.specs.View.{views}
use Rattle.cd_text.proofs.back.said_back.Goals as goal

pub returns-in-Ok : goal.returns-in-Ok
returns-in-Ok c = c.in-Ok.ensures.only (views c.args._values.now) c.requires

pub unreachable-requires : goal.unreachable-requires
unreachable-requires c = rw c.in-Err-NotText.field-0-is at (c.in-Err-NotText.ensures.only (views c.args._values.now) c.requires)
