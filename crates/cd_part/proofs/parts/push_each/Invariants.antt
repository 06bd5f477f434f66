use Rattle.std.proofs.Common.{◌≡◌, ◌++◌, map, drop}
use Rattle.cd_part.proofs.parts.push_each.Given as goal

-- the types of the last parts are on the stack
abbrev pub invariant-loop-place : goal.invariant-loop-place
invariant-loop-place g l = l.todo ≡ map g.T.Part.type_of (drop l.place l.parts) ++ l.fn.todo
