use Rattle.std.proofs.Common.{◌≡◌, take, drop}
use Rattle.std.specs.List.{position_from}
use Rattle.wm_valid.specs.Imports.{is_other, least_other}
use Rattle.wm_valid.specs.IsValid.{Calls}
use Rattle.wm_valid.proofs.imports.calls_of.Given as goal

-- the calls so far; the first import that is none is among those left
abbrev pub invariant-loop-number : goal.invariant-loop-number
invariant-loop-number l =
    Calls l.types (take l.number l.imports) l.calls.items
    × (position_from (is_other l.types) l.number (drop l.number l.imports) ≡ least_other l.types l.imports)
