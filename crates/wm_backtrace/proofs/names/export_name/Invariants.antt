use Rattle.std.proofs.Common.{◌≡◌, drop}
use Rattle.wm_backtrace.specs.Names.{exported}
use Rattle.wm_backtrace.proofs.names.export_name.Given as goal

abbrev pub invariant-loop-export : goal.invariant-loop-export
invariant-loop-export l = exported l.function (drop l.export-index l.exports) ≡ exported l.function l.exports
