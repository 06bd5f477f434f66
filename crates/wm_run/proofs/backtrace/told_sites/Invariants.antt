use Rattle.std.proofs.Common.{◌≡◌, ◌≤◌, ◌-◌, ◌∷◌, length, map, reverse, drop}
use Rattle.wm_run.specs.Backtrace.{site_of, waiting}
use Rattle.wm_run.proofs.backtrace.told_sites.Given as goal

-- the callers from that place on are told
abbrev pub invariant-loop-place : goal.invariant-loop-place
invariant-loop-place l =
    let imports = length l.valid.module.imports in
    (l.items.items ≡ site_of imports l.fn.here.function l.fn.here.place ∷ map (waiting imports) (reverse (drop l.place l.callers))) × (length l.callers - 31 ≤ l.place)
