use Rattle.std.proofs.Common.{◌≡◌, true, false, ◌<◌, ◌^◌, length, sym, subst, ◌∙◌, arith, rules}
use Rattle.std.specs.Global.{Vec}
use Rattle.std.specs.Str.{is_utf8}
use Rattle.std.proofs.lemmas.Result.{err_from_is_err_and}
use Rattle.cd_codec.specs.declared.value.Value.{Value}
use Rattle.cd_codec.specs.View.{views}
use Rattle.cd_tokens.specs.declared.token.Token.{Token}
use Rattle.cd_tokens.specs.Lexed.{IsTokens}
use Rattle.cd_tokens.specs.View.{token_views}
use Rattle.cd_text.proofs.Arguments.{agrees_with, found_with, no_tokens}
use Rattle.cd_text.proofs.Typed.{typed_with}
use Rattle.cd_text.proofs.whole.said_by.Goals as goal

pub returns-in_err-tokens-clause-only : goal.returns-in_err-tokens-clause-only
returns-in_err-tokens-clause-only c =
    let p = err_from_is_err_and c.from_residual.result c.from_residual.ensures.1 in
    rw p.1 (no_tokens (λ (vs : Vec Value). views vs.items) (λ (ts : Vec Token). token_views ts.items) c.args.table.now c.args.types.now c.args.text.now p.0 (rw p.2 c.in_err-tokens.ensures.only))

pub returns-clause-found : goal.returns-clause-found
returns-clause-found c =
    let lexed = subst (λ ts. IsTokens false (token_views ts) c.args.text.now) (sym c.deref.ensures.value) c.in_ok-tokens.ensures.found in
    let utf8 : is_utf8 c.args.text.now ≡ true = sym c.is_utf8.ensures ∙ c.if-not-is_utf8.false in
    found_with (λ (vs : Vec Value). views vs.items) c.args.table.now c.args.types.now (token_views c.deref.result.now) c.args.text.now c.values_of.result c.len-entries.ensures.well_formed utf8 lexed c.values_of.ensures

pub returns-clause-typed : goal.returns-clause-typed
returns-clause-typed c =
    let short : length c.args.text.now < 2 ^ 63 = search rules in
    typed_with (λ (vs : Vec Value). views vs.items) c.args.table.now c.args.types.now c.args.text.now c.values_of.result c.len-entries.ensures.well_formed (omega (arith, short)) (returns-clause-found c)

pub returns-clause-only : goal.returns-clause-only
returns-clause-only c =
    let lexed = subst (λ ts. IsTokens false (token_views ts) c.args.text.now) (sym c.deref.ensures.value) c.in_ok-tokens.ensures.found in
    agrees_with (λ (vs : Vec Value). views vs.items) c.args.table.now c.args.types.now (token_views c.deref.result.now) c.args.text.now c.values_of.result c.len-entries.ensures.well_formed lexed c.values_of.ensures
