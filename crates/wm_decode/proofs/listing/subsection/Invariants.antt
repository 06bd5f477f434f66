use Rattle.std.proofs.Common.{◌≡◌, ◌-◌, length}
use Rattle.wm_decode.specs.Readers.{section_at}
use Rattle.wm_decode.specs.Listing.{first_at, content_if, subsection_at}
use Rattle.wm_decode.proofs.listing.subsection.Given as goal

abbrev pub invariant-loop : goal.invariant-loop
invariant-loop l = first_at section_at (content_if l.id) (length l.bytes - l.counter) l.rest ≡ subsection_at l.id l.bytes
