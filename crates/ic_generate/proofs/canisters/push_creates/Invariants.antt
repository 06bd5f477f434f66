use Rattle.std.proofs.Common.{◌≡◌, ◌++◌}
use Rattle.ic_generate.specs.Script.{create_lines}
use Rattle.ic_generate.proofs.canisters.push_creates.Given as goal

abbrev pub invariant-loop-made : goal.invariant-loop-made
invariant-loop-made l = l.text.items ≡ l.initial.text.items ++ create_lines l._made
