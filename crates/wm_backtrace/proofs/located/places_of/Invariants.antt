use Rattle.std.proofs.Common.{◌≡◌, map, take}
use Rattle.std.specs.Option.{option_copied}
use Rattle.wm_backtrace.specs.Names.{place_of}
use Rattle.wm_backtrace.proofs.located.places_of.Given as goal

abbrev pub invariant-loop-site : goal.invariant-loop-site
invariant-loop-site l = l.items.items ≡ map (place_of (option_copied l.listing) l.«module») (take l.site-index l.sites)
