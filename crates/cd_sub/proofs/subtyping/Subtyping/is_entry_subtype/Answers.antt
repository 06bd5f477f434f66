use Rattle.std.proofs.Common.{◌≡◌, ap}
use Rattle.cd_sub.proofs.PlaceLemmas.{place_named}
use Rattle.cd_sub.proofs.SearchLemmas.{answer_of}
use Rattle.cd_sub.proofs.subtyping.Subtyping.is_entry_subtype.Goals as goal
use Rattle.cd_sub.proofs.subtyping.Subtyping.is_entry_subtype.Goals.{then-is_empty+in_ok-self-inside, else-is_empty}

pub returns-else-is_err-clause-answer : goal.returns-else-is_err-clause-answer
returns-else-is_err-clause-answer c =
    let inside = c.self.inside in
    let now = c.if-is_empty.self-inside in
    let first : now.first.now ≡ inside.first.now = elim c.if-is_empty.branch [ then-is_empty+in_ok-self-inside w ↦ ap (λ i. i.first.now) w.self-inside-is | else-is_empty w ↦ ap (λ i. i.first.now) w.self-inside-is ] in
    let second : now.second.now ≡ inside.second.now = elim c.if-is_empty.branch [ then-is_empty+in_ok-self-inside w ↦ ap (λ i. i.second.now) w.self-inside-is | else-is_empty w ↦ ap (λ i. i.second.now) w.self-inside-is ] in
    let means = place_named inside.first.now inside.second.now now.first.now now.second.now c.args.self.now c.args.i c.args.j c.place-place.result first second c.self.view_is c.place-place.ensures c.requires.i c.requires.j in
    answer_of _ _ c.decide-answer.result means.0 means.1 c.decide-answer.ensures.answer
