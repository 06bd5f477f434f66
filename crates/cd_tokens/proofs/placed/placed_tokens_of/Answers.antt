use Rattle.std.proofs.Common.{◌≡◌, ◌<◌, ◌-◌, ◌++◌, ◌∷◌, [], length, refl, arith}
use Rattle.std.proofs.lemmas.List.{map_push}
use Rattle.cd_tokens.specs.Placed.{placed_view, placed_views}
use Rattle.cd_tokens.specs.View.{token_view}
use Rattle.cd_tokens.proofs.Places.{none_is, one_within, gap_shorter, token_shorter}
use Rattle.cd_tokens.proofs.Streams.{found_is, at_first, one_read, no_gap, no_token, no_gap_behind, all_read, shorter}
use Rattle.cd_tokens.proofs.placed.placed_tokens_of.Goals as goal

pub returns-in_default-clause-only : goal.returns-in_default-clause-only
returns-in_default-clause-only c = λ tokens is. absurd (no_gap c.args.comments c.args.text.now (none_is (λ b. b.now) _ _ c.past_gap.ensures c.in_default.is) tokens is)

pub loop-rest-init : goal.loop-rest-init
loop-rest-init c =
    let passed = found_is (λ b. b.now) _ _ _ c.past_gap.ensures c.in-Some.is in
    (rw c.new-items.ensures.items (at_first c.args.comments c.args.text.now c.in-Some.rest.now passed), gap_shorter c.args.comments c.args.text.now c.in-Some.rest.now passed, rw c.new-items.ensures.items refl)

pub returns-in_default-token_of-clause-only : goal.returns-in_default-token_of-clause-only
returns-in_default-token_of-clause-only c = λ tokens is.
    let some : 0 < length c.loop-rest.rest.now = grind (arith, c.loop-rest-test.true, c.is_empty.ensures) in
    absurd (no_token c.args.comments (placed_views c.loop-rest.items.items) c.loop-rest.rest.now c.args.text.now c.loop-rest.invariant.0 some (none_is (λ x. (token_view x.0, x.1.now)) _ _ c.token_of.ensures c.in_default-token_of.is) tokens is)

pub loop-rest-smaller : goal.loop-rest-smaller
loop-rest-smaller c = shorter c.args.comments c.loop-rest.rest.now (token_view c.in-Some-token_of.token) c.in-Some-token_of.after.now _ (found_is (λ x. (token_view x.0, x.1.now)) _ _ _ c.token_of.ensures c.in-Some-token_of.is) (found_is (λ b. b.now) _ _ _ c.past_gap-in-loop-rest.ensures c.in-Some-past_gap.is)

pub loop-rest-preserved : goal.loop-rest-preserved
loop-rest-preserved c =
    let read = found_is (λ x. (token_view x.0, x.1.now)) _ _ _ c.token_of.ensures c.in-Some-token_of.is in
    let passed = found_is (λ b. b.now) _ _ _ c.past_gap-in-loop-rest.ensures c.in-Some-past_gap.is in
    let some : 0 < length c.loop-rest.rest.now = grind (arith, c.loop-rest-test.true, c.is_empty.ensures) in
    let more : placed_views c.push.new.self.items ≡ placed_views c.loop-rest.items.items ++ token_view c.in-Some-token_of.token ∷ [] = rw c.in_ok-push.ensures.items (map_push placed_view c.loop-rest.items.items _) in
    let less = token_shorter c.loop-rest.rest.now c.in-Some-token_of.after.now (token_view c.in-Some-token_of.token) read in
    let least = gap_shorter c.args.comments c.in-Some-token_of.after.now c.in-Some-past_gap.next.now passed in
    let below : length c.args.text.now - length c.loop-rest.rest.now < length c.args.text.now = omega (arith, some, c.loop-rest.invariant.1) in (
      rw more (one_read c.args.comments (placed_views c.loop-rest.items.items) c.loop-rest.rest.now c.args.text.now (token_view c.in-Some-token_of.token) c.in-Some-token_of.after.now _ c.loop-rest.invariant.0 some read passed),
      omega (arith, less, least, c.loop-rest.invariant.1),
      rw c.in_ok-push.ensures.items (one_within c.args.text.now c.loop-rest.items.items _ c.loop-rest.invariant.2 below),
    )

pub stop_after-requires-in-None : goal.stop_after-requires-in-None
stop_after-requires-in-None c =
    let less = token_shorter c.loop-rest.rest.now c.in-Some-token_of.after.now (token_view c.in-Some-token_of.token) (found_is (λ x. (token_view x.0, x.1.now)) _ _ _ c.token_of.ensures c.in-Some-token_of.is) in
    omega (arith, less, c.loop-rest.invariant.1)

pub returns-in-None-clause-only : goal.returns-in-None-clause-only
returns-in-None-clause-only c = λ tokens is.
    let some : 0 < length c.loop-rest.rest.now = grind (arith, c.loop-rest-test.true, c.is_empty.ensures) in
    absurd (no_gap_behind c.args.comments (placed_views c.loop-rest.items.items) c.loop-rest.rest.now c.args.text.now (token_view c.in-Some-token_of.token) c.in-Some-token_of.after.now c.loop-rest.invariant.0 some
    (found_is (λ x. (token_view x.0, x.1.now)) _ _ _ c.token_of.ensures c.in-Some-token_of.is) (none_is (λ b. b.now) _ _ c.past_gap-in-loop-rest.ensures c.in-None.is) tokens is)

pub returns-clause-found : goal.returns-clause-found
returns-clause-found c = λ none. all_read c.args.comments (placed_views c.loop-rest.items.items) c.loop-rest.rest.now c.args.text.now c.loop-rest.invariant.0 (grind (arith, c.loop-rest-test.false, c.is_empty.ensures))
