use Rattle.std.proofs.Common.{drop}
use Rattle.cd_tokens.specs.Placed.{placed_views}
use Rattle.ct_check.specs.Naming.{names_from, names}
use Rattle.ct_check.proofs.Loops.{Still}
use Rattle.ct_check.proofs.checker.Checker.names.Given as goal

-- the slots of the tokens before, and those of the tokens that are left
abbrev pub invariant-loop-index : goal.invariant-loop-index
invariant-loop-index l = Still l.slots.items (names_from l.lets l.self (drop l.index l.roles.items) (placed_views (drop l.index l.tokens))) (names l.lets l.fn.self (placed_views l.tokens))
