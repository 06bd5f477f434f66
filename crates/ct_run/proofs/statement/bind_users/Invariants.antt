use Rattle.std.proofs.Common.{◌≡◌, ◌++◌, map, take}
use Rattle.ct_run.specs.Statements.{user_named}
use Rattle.ct_run.proofs.statement.bind_users.Given as goal

-- the users so far are bound
abbrev pub invariant-loop-user : goal.invariant-loop-user
invariant-loop-user l = l.names ≡ l.fn.names ++ map user_named (take l.user-index l.users)
