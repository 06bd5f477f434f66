use Rattle.std.proofs.Common.{◌∙◌, arith}
use Rattle.std.specs.Int.{w64}
use Rattle.wm_numeric.proofs.Rotations.{rotate_right_is}
use Rattle.wm_numeric.proofs.int64.rotr.Goals as goal

pub returns : goal.returns
returns c = c.rotate_right.ensures ∙ rotate_right_is w64 c.args.x c.args.y (omega arith) (omega arith)
