use Rattle.std.proofs.Common.{◌≡◌, ◌++◌, length}
use Rattle.cd_tokens.specs.Placed.{placed_views}
use Rattle.ct_names.specs.Roles.{roles_from, roles_of}
use Rattle.ct_names.proofs.role.roles_of.Given as goal

-- the roles of the tokens before, and those of the tokens that are left
abbrev pub invariant-loop-rest : goal.invariant-loop-rest
invariant-loop-rest l = l.roles.items ++ roles_from l.before (placed_views l.rest) ≡ roles_of (placed_views l.tokens)

abbrev pub decreases-loop-rest : goal.decreases-loop-rest
decreases-loop-rest l = length l.rest
