use Rattle.std.specs.Global.{Vec}
use Rattle.cd_codec.specs.declared.value.Value.{Value}
use Rattle.cd_codec.specs.View.{views}
use Rattle.cd_tokens.specs.View.{token_views}
use Rattle.cd_text.proofs.Arguments.{tokens_agree, tokens_found}
use Rattle.cd_text.proofs.Typed.{tokens_typed}
use Rattle.cd_text.proofs.whole.said_by_tokens.Goals as goal

pub returns-clause-found : goal.returns-clause-found
returns-clause-found c = tokens_found (λ (vs : Vec Value). views vs.items) c.args.table.now c.args.types.now (token_views c.args.tokens.now) c.values_of.result c.len-entries.ensures.well_formed c.values_of.ensures

pub returns-clause-only : goal.returns-clause-only
returns-clause-only c = tokens_agree (λ (vs : Vec Value). views vs.items) c.args.table.now c.args.types.now (token_views c.args.tokens.now) c.values_of.result c.len-entries.ensures.well_formed c.values_of.ensures

pub returns-clause-typed : goal.returns-clause-typed
returns-clause-typed c =
    tokens_typed (λ (vs : Vec Value). views vs.items) c.args.table.now c.args.types.now (token_views c.args.tokens.now) c.values_of.result c.len-entries.ensures.well_formed c.fit_memory.ensures (returns-clause-found c)
