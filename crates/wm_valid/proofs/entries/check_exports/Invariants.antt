use Rattle.std.proofs.Common.{◌≡◌, take, drop}
use Rattle.wm_valid.specs.Entries.{least_bad}
use Rattle.wm_valid.specs.Seen.{HasNames}
use Rattle.wm_valid.proofs.entries.check_exports.Given as goal

-- the names so far were seen; the first export that is no good is among those left
abbrev pub invariant-loop-place : goal.invariant-loop-place
invariant-loop-place l =
    HasNames l.seen (take l.place l.exports)
    × (least_bad l.«module» l.place (drop l.place l.exports) ≡ least_bad l.«module» 0 l.exports)
