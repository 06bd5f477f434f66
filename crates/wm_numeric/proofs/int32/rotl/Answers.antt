use Rattle.std.proofs.Common.{◌∙◌, arith}
use Rattle.std.specs.Int.{w32}
use Rattle.wm_numeric.proofs.Rotations.{rotate_left_is}
use Rattle.wm_numeric.proofs.int32.rotl.Goals as goal

pub returns : goal.returns
returns c = c.from.ensures ∙ (c.rotate_left.ensures ∙ rotate_left_is w32 c.args.x c.args.y (omega arith) c.requires)
