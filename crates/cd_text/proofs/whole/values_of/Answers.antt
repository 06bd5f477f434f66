use Rattle.std.proofs.Common.{◌≡◌, true, length, sym, ◌∙◌, arith}
use Rattle.std.proofs.lemmas.List.{length-map}
use Rattle.std.proofs.lemmas.Result.{err_from_is_err_and}
use Rattle.cd_codec.specs.View.{view, views}
use Rattle.cd_tokens.specs.View.{token_view, token_views}
use Rattle.cd_plain.specs.ReadPlain.{is_mark, starts}
use Rattle.cd_text.proofs.Arguments.{answers_all, answers_none, fails_here, no_paren}
use Rattle.cd_text.proofs.whole.values_of.Goals as goal

pub returns-then-not-starts_mark : goal.returns-then-not-starts_mark
returns-then-not-starts_mark c = no_paren c.args.table.now c.args.types.now (token_views c.args.tokens.now) (sym c.starts_mark.ensures ∙ c.if-not-starts_mark.true)

pub returns-in_err-values : goal.returns-in_err-values
returns-in_err-values c =
    let paren : starts (is_mark 40) (token_views c.args.tokens.now) ≡ true = sym c.starts_mark.ensures ∙ c.if-not-starts_mark.false in
    let most : length c.args.tokens.now ≡ length (token_views c.args.tokens.now) = sym (length-map c.args.tokens.now token_view) in
    let p = err_from_is_err_and c.from_residual.result c.from_residual.ensures.1 in
    rw p.1 (fails_here p.0 c.args.table.now c.args.types.now (token_views c.args.tokens.now) (token_views c.rest_of-inner.result.now) (length c.args.tokens.now) paren most c.rest_of-inner.ensures (rw p.2 c.in_err-values.ensures))

pub returns-then-is_all : goal.returns-then-is_all
returns-then-is_all c =
    let paren : starts (is_mark 40) (token_views c.args.tokens.now) ≡ true = sym c.starts_mark.ensures ∙ c.if-not-starts_mark.false in
    let most : length c.args.tokens.now ≡ length (token_views c.args.tokens.now) = sym (length-map c.args.tokens.now token_view) in
    let rest_is : length (token_views c.in_ok-values.rest.now) ≡ length c.in_ok-values.rest.now = length-map c.in_ok-values.rest.now token_view in
    let n = length-map c.in_ok-values.values.items view in
    let count : length (views c.in_ok-values.values.items) ≡ c.len.result = omega (arith, c.len.ensures, c.in_ok-values.values.ok.0, n) in
    answers_all c.args.table.now c.args.types.now (token_views c.args.tokens.now) (token_views c.rest_of-inner.result.now) (token_views c.in_ok-values.rest.now) (views c.in_ok-values.values.items) _ (length c.args.tokens.now) (length c.in_ok-values.rest.now) c.len.result c.is_all.result
    paren most c.rest_of-inner.ensures c.in_ok-values.ensures rest_is count c.is_all.ensures c.if-is_all.true

pub returns-else-is_all : goal.returns-else-is_all
returns-else-is_all c =
    let paren : starts (is_mark 40) (token_views c.args.tokens.now) ≡ true = sym c.starts_mark.ensures ∙ c.if-not-starts_mark.false in
    let most : length c.args.tokens.now ≡ length (token_views c.args.tokens.now) = sym (length-map c.args.tokens.now token_view) in
    let rest_is : length (token_views c.in_ok-values.rest.now) ≡ length c.in_ok-values.rest.now = length-map c.in_ok-values.rest.now token_view in
    let n = length-map c.in_ok-values.values.items view in
    let count : length (views c.in_ok-values.values.items) ≡ c.len.result = omega (arith, c.len.ensures, c.in_ok-values.values.ok.0, n) in
    answers_none c.args.table.now c.args.types.now (token_views c.args.tokens.now) (token_views c.rest_of-inner.result.now) (token_views c.in_ok-values.rest.now) (views c.in_ok-values.values.items) _ (length c.args.tokens.now) (length c.in_ok-values.rest.now) c.len.result c.is_all.result
    paren most c.rest_of-inner.ensures c.in_ok-values.ensures rest_is count c.is_all.ensures c.if-is_all.false
