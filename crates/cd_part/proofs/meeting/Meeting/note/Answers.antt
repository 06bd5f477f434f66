use Rattle.std.proofs.Common.{◌≡◌, ℕ, ◌<◌, List, [], ◌∷◌, None, length, ap, ◌∙◌, length-append, arith}
use Rattle.std.proofs.lemmas.List.{length-set}
use Rattle.cd_types.specs.declared.entry.Entry.{Entry}
use Rattle.cd_part.specs.Places.{place_of}
use Rattle.cd_part.proofs.Placing.{places_more, there}
use Rattle.cd_part.proofs.Unmet.{unmet_less}
use Rattle.cd_part.proofs.meeting.Meeting.note.Goals as goal

pub invariant_of-self-2 : goal.invariant_of-self-2
invariant_of-self-2 c =
    let met = c.self.inside.met.items in
    let table = c.self.inside.table.now in
    let places = c.self.inside.places.items in
    let entry = c.args.entry in
    let inv = c.self.invariant in
    let none : place_of met entry ≡ None = ap (λ (v : List Entry × List ℕ). place_of v.1 entry) c.self.view_is ∙ c.requires.unmet in
    let below : entry < length table = omega (arith, ap (λ (v : List Entry × List ℕ). length v.0) c.self.view_is, c.requires.inside) in
    let at = there {A = Entry} table entry below in
    let less = unmet_less (λ e. 1) met entry 0 table entry at.0 at.1 (omega arith) none in
    rw c.in_ok-push.ensures.items (
      places_more places met entry c.len-place.result inv.0 (omega (arith, inv.1, below)) none (omega (arith, c.len-place.ensures, c.self.inside.met.ok.0)),
      length-set _ _ _ ∙ inv.1,
      inv.2,
      omega (arith, less, inv.3, length-append met (entry ∷ [])),
    )
