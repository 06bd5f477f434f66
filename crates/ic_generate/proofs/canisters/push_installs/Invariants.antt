use Rattle.std.proofs.Common.{◌≡◌, ◌++◌}
use Rattle.ic_generate.specs.Script.{install_lines}
use Rattle.ic_generate.proofs.canisters.push_installs.Given as goal

abbrev pub invariant-loop-counter : goal.invariant-loop-counter
invariant-loop-counter l = l.text.items ≡ l.initial.text.items ++ install_lines l.code l.counter
