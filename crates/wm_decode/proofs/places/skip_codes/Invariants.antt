use Rattle.std.proofs.Common.{◌≡◌, ◌-◌}
use Rattle.wm_decode.specs.Readers.{vec_bytes_at}
use Rattle.wm_decode.specs.Listing.{skipped}
use Rattle.wm_decode.proofs.places.skip_codes.Given as goal

abbrev pub invariant-loop : goal.invariant-loop
invariant-loop l = skipped vec_bytes_at (l.count - l.counter) l.rest ≡ skipped vec_bytes_at l.count l.codes
