use Rattle.std.proofs.Common.{◌≡◌, length, take}
use Rattle.wm_typing.specs.Locals.{locals_of, ends_of}
use Rattle.wm_typing.proofs.locals.Locals.of.Given as goal

-- the ends of the runs so far
abbrev pub invariant-loop-run : goal.invariant-loop-run
invariant-loop-run l = record {
  ends : l.ends.items ≡ ends_of 0 (take l.run-index l.runs);
  len : l.len ≡ length (locals_of (take l.run-index l.runs));
}
