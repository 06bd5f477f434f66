use Rattle.std.proofs.Common.{◌≡◌, ◌<◌, ◌^◌, ◌-◌, ◌++◌}
use Rattle.ic_generate.specs.Script.{call_lines}
use Rattle.ic_generate.proofs.calls.push_calls.Given as goal

-- what is written, and the calls that are left
abbrev pub invariant-loop-calls : goal.invariant-loop-calls
invariant-loop-calls l =
    (l.x < 2 ^ 31) × (l.text.items ++ call_lines (l.n - l.calls) l.calls l.x ≡ l.initial.text.items ++ call_lines l.n 0 l.n)
