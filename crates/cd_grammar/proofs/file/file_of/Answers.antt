use Rattle.std.proofs.Common.{◌≡◌, true, sym, subst, ◌∙◌}
use Rattle.std.specs.Global.{Vec}
use Rattle.std.specs.Str.{is_utf8}
use Rattle.cd_tokens.specs.declared.token.Token.{Token}
use Rattle.cd_tokens.specs.Lexed.{IsTokens}
use Rattle.cd_tokens.specs.View.{token_views}
use Rattle.cd_grammar.proofs.Counts.{all_fit, all_few}
use Rattle.cd_grammar.proofs.Files.{text_found, text_agrees, no_tokens}
use Rattle.cd_grammar.proofs.file.file_of.Goals as goal

pub returns-in-Err-clause-only : goal.returns-in-Err-clause-only
returns-in-Err-clause-only c = no_tokens (λ (ts : Vec Token). token_views ts.items) c.args.text.now c.in-Err.e c.in-Err.ensures.only

pub returns-in-Ok-clause-found : goal.returns-in-Ok-clause-found
returns-in-Ok-clause-found c =
    let lexed = subst (λ ts. IsTokens true (token_views ts) c.args.text.now) (sym c.deref.ensures.value) c.in-Ok.ensures.found in
    let utf8 : is_utf8 c.args.text.now ≡ true = sym c.is_utf8.ensures ∙ c.if-not-is_utf8.false in
    text_found (token_views c.deref.result.now) c.args.text.now c.file_of_tokens.result utf8 lexed c.file_of_tokens.ensures

pub returns-in-Ok-clause-only : goal.returns-in-Ok-clause-only
returns-in-Ok-clause-only c =
    let lexed = subst (λ ts. IsTokens true (token_views ts) c.args.text.now) (sym c.deref.ensures.value) c.in-Ok.ensures.found in
    text_agrees (token_views c.deref.result.now) c.args.text.now c.file_of_tokens.result lexed c.file_of_tokens.ensures

pub returns-in-Ok-clause-fits : goal.returns-in-Ok-clause-fits
returns-in-Ok-clause-fits c = all_fit c.file_of_tokens.result c.args.text.now (returns-in-Ok-clause-found c)

pub returns-in-Ok-clause-few : goal.returns-in-Ok-clause-few
returns-in-Ok-clause-few c = all_few c.file_of_tokens.result c.args.text.now (returns-in-Ok-clause-found c)
