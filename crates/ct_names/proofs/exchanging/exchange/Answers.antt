use Rattle.std.proofs.Common.{sym, arith}
use Rattle.std.specs.Prelude.{option_map}
use Rattle.cd_tokens.specs.Placed.{placed_views}
use Rattle.ct_names.specs.Exchange.{places}
use Rattle.ct_names.proofs.Steps.{token_there, one_more, one_place, at_most_one, all_read, all_placed}
use Rattle.ct_names.proofs.exchanging.exchange.Goals as goal

pub loop-index-preserved : goal.loop-index-preserved
loop-index-preserved c =
    let tokens = c.args.tokens.now in
    let placed = c.index-tokens-index.result in
    let rest = c.split_at.result.1.now in
    let meanings = c.args.meanings.now in
    let found = option_map (λ m. m.now) c.get.result in
    let split = token_there tokens c.loop-index.index placed rest c.loop-index-test.true c.index-tokens-index.is c.split_at.ensures.back in
    let at = c.get.ensures.lookup.4 (omega arith) in
    record {
      few = at_most_one c.loop-index.used c.loop-index.index _ c.role-role.result c.count-used.ensures c.loop-index.invariant.few;
      tokens = rw (c.after-before.ensures, c.count-used.ensures, c.role-role.ensures, sym c.split_at.ensures.back) (one_more tokens c.loop-index.index placed rest meanings c.loop-index.used c.loop-index.before found
          (placed_views c.loop-index.read.items) (placed_views c.push_read.new.out.items) _ split at (rw (sym c.role-role.ensures) c.in_ok-push_read.ensures.tokens) c.loop-index.invariant.tokens);
      places = rw (c.after-before.ensures, c.count-used.ensures, c.role-role.ensures, sym c.split_at.ensures.back) (one_place tokens c.loop-index.index placed rest meanings c.loop-index.used c.loop-index.before found
          _ _ _ split at (rw (sym c.role-role.ensures) c.in_ok-push_read.ensures.places) c.loop-index.invariant.places);
    }

pub returns-clause-tokens : goal.returns-clause-tokens
returns-clause-tokens c = λ meaning same.
    all_read meaning c.args.tokens.now c.loop-index.index c.loop-index.used c.args.meanings.now c.loop-index.before c.loop-index-test.false same (placed_views c.loop-index.read.items) c.loop-index.invariant.tokens

pub returns-clause-places : goal.returns-clause-places
returns-clause-places c = λ meaning same.
    all_placed meaning c.args.tokens.now c.loop-index.index c.loop-index.used c.args.meanings.now c.loop-index.before c.loop-index-test.false same (places c.loop-index.read.items) c.loop-index.invariant.places
