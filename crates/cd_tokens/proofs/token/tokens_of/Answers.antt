use Rattle.std.proofs.Common.{◌≡◌, ◌<◌, ◌++◌, ◌∷◌, [], length, arith}
use Rattle.std.proofs.lemmas.Result.{err_from_is_err_and}
use Rattle.std.proofs.lemmas.List.{map_push}
use Rattle.std.specs.Global.{Vec}
use Rattle.cd_tokens.specs.declared.token.Token.{Token}
use Rattle.cd_tokens.specs.View.{token_view, token_views}
use Rattle.cd_tokens.proofs.Streams.{found_is, none_fails, at_first, one_read, no_first_gap, no_token_there, no_gap_there, all_read, all_are, shorter}
use Rattle.cd_tokens.proofs.token.tokens_of.Goals as goal

pub returns-in_err-rest-clause-only : goal.returns-in_err-rest-clause-only
returns-in_err-rest-clause-only c =
    let p = err_from_is_err_and c.from_residual.result c.from_residual.ensures.1 in
    rw p.1 (no_first_gap (λ (ts : Vec Token). token_views ts.items) p.0 c.args.comments c.args.text.now (none_fails p.0 (λ b. b.now) _ _ c.past_gap.ensures c.in_err-rest.ensures.ok_part))

pub loop-rest-init : goal.loop-rest-init
loop-rest-init c = rw c.new-tokens.ensures.items (at_first c.args.comments c.args.text.now c.in_ok-rest.rest.now (found_is (λ b. b.now) _ _ _ c.past_gap.ensures c.in_ok-rest.ensures.ok_part))

pub returns-in_err-token-clause-only : goal.returns-in_err-token-clause-only
returns-in_err-token-clause-only c =
    let p = err_from_is_err_and c.from_residual-in_err-token.result c.from_residual-in_err-token.ensures.1 in
    let some : 0 < length c.loop-rest.rest.now = grind (arith, c.loop-rest-test.true, c.is_empty.ensures) in
    rw p.1 (no_token_there (λ (ts : Vec Token). token_views ts.items) p.0 c.args.comments (token_views c.loop-rest.tokens.items) c.loop-rest.rest.now c.args.text.now c.loop-rest.invariant some (none_fails p.0 (λ x. (token_view x.0, x.1.now)) _ _ c.token_of.ensures c.in_err-token.ensures.ok_part))

pub returns-in_err-rest-2-clause-only : goal.returns-in_err-rest-2-clause-only
returns-in_err-rest-2-clause-only c =
    let p = err_from_is_err_and c.from_residual-in_err-rest-2.result c.from_residual-in_err-rest-2.ensures.1 in
    let some : 0 < length c.loop-rest.rest.now = grind (arith, c.loop-rest-test.true, c.is_empty.ensures) in
    rw p.1 (no_gap_there (λ (ts : Vec Token). token_views ts.items) p.0 c.args.comments (token_views c.loop-rest.tokens.items) c.loop-rest.rest.now c.args.text.now (token_view c.in_ok-token.token) c.in_ok-token.after.now c.loop-rest.invariant some (found_is (λ x. (token_view x.0, x.1.now)) _ _ _ c.token_of.ensures c.in_ok-token.ensures.ok_part)
    (none_fails p.0 (λ b. b.now) _ _ c.past_gap-in-loop-rest.ensures c.in_err-rest-2.ensures.ok_part))

pub loop-rest-smaller : goal.loop-rest-smaller
loop-rest-smaller c = shorter c.args.comments c.loop-rest.rest.now (token_view c.in_ok-token.token) c.in_ok-token.after.now _ (found_is (λ x. (token_view x.0, x.1.now)) _ _ _ c.token_of.ensures c.in_ok-token.ensures.ok_part) (found_is (λ b. b.now) _ _ _ c.past_gap-in-loop-rest.ensures c.in_ok-rest-2.ensures.ok_part)

pub loop-rest-preserved : goal.loop-rest-preserved
loop-rest-preserved c =
    let more : token_views c.push.new.self.items ≡ token_views c.loop-rest.tokens.items ++ token_view c.in_ok-token.token ∷ [] = rw c.in_ok-push.ensures.items (map_push token_view c.loop-rest.tokens.items c.in_ok-token.token) in
    let some : 0 < length c.loop-rest.rest.now = grind (arith, c.loop-rest-test.true, c.is_empty.ensures) in
    rw more (one_read c.args.comments (token_views c.loop-rest.tokens.items) c.loop-rest.rest.now c.args.text.now (token_view c.in_ok-token.token) c.in_ok-token.after.now _ c.loop-rest.invariant some (found_is (λ x. (token_view x.0, x.1.now)) _ _ _ c.token_of.ensures c.in_ok-token.ensures.ok_part) (found_is (λ b. b.now) _ _ _ c.past_gap-in-loop-rest.ensures c.in_ok-rest-2.ensures.ok_part))

pub returns-clause-found : goal.returns-clause-found
returns-clause-found c = all_read c.args.comments (token_views c.loop-rest.tokens.items) c.loop-rest.rest.now c.args.text.now c.loop-rest.invariant (grind (arith, c.loop-rest-test.false, c.is_empty.ensures))

pub returns-clause-only : goal.returns-clause-only
returns-clause-only c = all_are c.args.comments (token_views c.loop-rest.tokens.items) c.loop-rest.rest.now c.args.text.now c.loop-rest.invariant (grind (arith, c.loop-rest-test.false, c.is_empty.ensures))
