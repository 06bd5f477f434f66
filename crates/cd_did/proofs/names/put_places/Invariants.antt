use Rattle.std.proofs.Common.{drop}
use Rattle.cd_did.specs.Places.{HasPlaces}
use Rattle.cd_did.proofs.names.put_places.Given as goal

-- the names of the last definitions
abbrev pub invariant-loop-place : goal.invariant-loop-place
invariant-loop-place l = HasPlaces l.places (drop l.place l.definitions) l.place
