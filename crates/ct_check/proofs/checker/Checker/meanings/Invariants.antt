use Rattle.std.proofs.Common.{◌≡◌, ◌++◌, drop, map}
use Rattle.cd_tokens.specs.Placed.{placed_views}
use Rattle.ct_names.specs.Exchange.{used_names}
use Rattle.ct_check.specs.Naming.{meaning_in}
use Rattle.ct_check.proofs.Names.{used_by}
use Rattle.ct_check.proofs.checker.Checker.meanings.Given as goal

-- what is read in place of the names before, and of those that are left
abbrev pub invariant-loop-index : goal.invariant-loop-index
invariant-loop-index l = l.meanings.items ++ map (meaning_in l.self) (used_by (drop l.index l.roles.items) (placed_views (drop l.index l.tokens))) ≡ map (meaning_in l.self) (used_names (placed_views l.tokens))
