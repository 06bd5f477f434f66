use Rattle.std.proofs.Common.{◌≡◌, ◌-◌}
use Rattle.wm_decode.specs.Listing.{words_after}
use Rattle.wm_decode.proofs.places.skip_words.Given as goal

abbrev pub invariant-loop : goal.invariant-loop
invariant-loop l = words_after (l.words - l.counter) l.rest ≡ words_after l.words l.body
