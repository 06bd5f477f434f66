use Rattle.std.proofs.Common.{◌≡◌, ◌||◌, ◌+◌, ◌++◌, not, Bool, true, false, [], ◌∷◌, cond, length, take, refl, sym, ap, ◌∙◌, append-nil}
use Rattle.std.specs.List.{list_any, filter, range_with_len}
use Rattle.std.proofs.lemmas.Option.{slice_get_read}
use Rattle.ic_order.specs.Ways.{way_of, equal_ways, is_on, may_come}
use Rattle.ic_order.specs.Seen.{has_way}
use Rattle.ic_order.proofs.Places.{ways_more, places_more}
use Rattle.ic_order.proofs.coming.next_places.Goals.{then-branch+in_ok-push, else-branch}
use Rattle.ic_order.proofs.coming.next_places.Goals as goal

pub loop-place-preserved : goal.loop-place-preserved
loop-place-preserved c =
    let ms = c.args.messages.now in
    let i = c.loop-place.place in
    let m = c.index-messages-place.result in
    let there = slice_get_read ms (length ms) i m refl c.loop-place-test.true c.index-messages-place.is in
    let new : c.in_ok-add.field-0 ≡ not (list_any (is_on (way_of m)) (take i ms)) =
    c.in_ok-add.ensures.new ∙ ap not (c.loop-place.invariant.0 c.way_of.result ∙ ap (λ w. list_any (is_on w) (take i ms)) c.way_of.ensures) in
    let so_far = filter (may_come ms) (range_with_len 0 i) in
    let more : (b : Bool) → c.in_ok-add.field-0 ≡ b → filter (may_come ms) (range_with_len 0 (i + 1)) ≡ so_far ++ cond b (i ∷ []) [] =
    λ b is. places_more ms i m there c.in_ok-add.field-0 new ∙ ap (λ t. so_far ++ cond t (i ∷ []) []) is in (
      ways_more ms i m there (has_way c.loop-place.ways) (has_way c.add.new.ways) c.loop-place.invariant.0
          (λ way. c.in_ok-add.ensures.kept way ∙ ap (λ w. has_way c.loop-place.ways way || equal_ways way w) c.way_of.ensures),
      elim c.if-branch.branch [
        | then-branch+in_ok-push w ↦ rw w.places-is (w.in_ok-push.ensures.items ∙ ap (λ l. l ++ i ∷ []) c.loop-place.invariant.1 ∙ sym (more true w.if-branch.true))
        | else-branch w ↦ rw w.places-is (c.loop-place.invariant.1 ∙ sym (append-nil so_far) ∙ sym (more false w.if-branch.false))
      ],
    )
