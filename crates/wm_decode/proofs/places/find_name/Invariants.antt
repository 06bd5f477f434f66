use Rattle.std.proofs.Common.{◌≡◌, ◌-◌}
use Rattle.wm_decode.specs.Listing.{first_at, naming_at, name_if}
use Rattle.wm_decode.proofs.places.find_name.Given as goal

abbrev pub invariant-loop : goal.invariant-loop
invariant-loop l = first_at naming_at (name_if l.function) (l.count - l.counter) l.rest ≡ first_at naming_at (name_if l.function) l.count l.names
