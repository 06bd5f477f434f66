use Rattle.std.proofs.Common.{drop}
use Rattle.wm_valid.specs.Methods.{HasMethods}
use Rattle.wm_valid.proofs.methods.methods_with_prefix.Given as goal

abbrev pub invariant-loop-place : goal.invariant-loop-place
invariant-loop-place l = HasMethods l.methods l.prefix (drop l.place l.exports)
