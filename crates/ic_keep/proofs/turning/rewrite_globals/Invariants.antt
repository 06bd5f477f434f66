use Rattle.std.proofs.Common.{◌≡◌, ◌++◌, take, drop}
use Rattle.ic_keep.proofs.turning.rewrite_globals.Given as goal

-- the globals before this one are the new ones
abbrev pub invariant-loop-i : goal.invariant-loop-i
invariant-loop-i l = (l.store.lists ≡ record l.fn.store.lists { globals = take l.i l.globals ++ drop l.i l.fn.store.lists.globals }) × (l.store.begun ≡ l.fn.store.begun)
