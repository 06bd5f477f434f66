use Rattle.std.proofs.Common.{◌≡◌, ◌-◌}
use Rattle.wm_decode.specs.Listing.{listed, nothing_listed}
use Rattle.wm_decode.proofs.listing.kept_of.Given as goal

abbrev pub invariant-loop : goal.invariant-loop
invariant-loop l = listed (l.all - l.counter) l.all l.rest l.listing ≡ listed l.all l.all l.sections nothing_listed
