use Rattle.std.proofs.Common.{◌≡◌, Some, sym, subst, ◌∙◌}
use Rattle.std.proofs.lemmas.Result.{err_from_is_err_and}
use Rattle.ic_base.specs.Gives.{Fails}
use Rattle.ic_base.specs.Reader.{◌>>=◌}
use Rattle.cd_tokens.specs.View.{token_views}
use Rattle.cd_grammar.specs.Grammar.{no_place}
use Rattle.cd_grammar.specs.Read.{put_behind, definition_at}
use Rattle.cd_grammar.proofs.FileLoops.{none_follows, no_definition, last_definition, no_semicolon, one_definition, no_fuel}
use Rattle.cd_grammar.proofs.file.add_definitions.Goals as goal

pub returns-then-not-starts_type : goal.returns-then-not-starts_type
returns-then-not-starts_type c = none_follows c.loop.definitions.items c.args.most c.loop.counter c.loop.reader.types.items (token_views c.loop.reader.rest.now) _ c.loop-test.true (sym c.starts_type.ensures ∙ c.if-not-starts_type.true) c.loop.invariant

pub returns-in_err-add_definition : goal.returns-in_err-add_definition
returns-in_err-add_definition c =
    let p = err_from_is_err_and c.from_residual.result c.from_residual.ensures.1 in
    rw (p.1, p.2) (no_definition c.in_err-add_definition.field-0.0 c.loop.definitions.items c.args.most c.loop.counter c.loop.reader.types.items (token_views c.loop.reader.rest.now) _ c.loop-test.true (sym c.starts_type.ensures ∙ c.if-not-starts_type.false) (subst (λ ts. Fails c.in_err-add_definition.field-0.0 (definition_at c.loop.reader.types.items ts >>= put_behind no_place c.loop.definitions.items)) c.rest_of-reader.ensures c.in_err-add_definition.ensures) c.loop.invariant)

pub returns-then-are_none : goal.returns-then-are_none
returns-then-are_none c = last_definition c.loop.definitions.items c.args.most c.loop.counter c.loop.reader.types.items (token_views c.loop.reader.rest.now) _ (c.add_definition.new.definitions.items, 0, c.add_definition.new.reader.types.items, token_views c.add_definition.new.reader.rest.now) c.loop-test.true (sym c.starts_type.ensures ∙ c.if-not-starts_type.false) (subst (λ ts. (definition_at c.loop.reader.types.items ts >>= put_behind no_place c.loop.definitions.items) ≡ Some (c.add_definition.new.definitions.items, 0, c.add_definition.new.reader.types.items, token_views c.add_definition.new.reader.rest.now)) c.rest_of-reader.ensures c.in_ok-add_definition.ensures) (sym c.are_none.ensures ∙ c.if-are_none.true) c.loop.invariant

pub returns-then-not-starts_mark : goal.returns-then-not-starts_mark
returns-then-not-starts_mark c =
    no_semicolon c.loop.definitions.items c.args.most c.loop.counter c.loop.reader.types.items (token_views c.loop.reader.rest.now) _ (c.add_definition.new.definitions.items, 0, c.add_definition.new.reader.types.items, token_views c.add_definition.new.reader.rest.now) c.loop-test.true (sym c.starts_type.ensures ∙ c.if-not-starts_type.false) (subst (λ ts. (definition_at c.loop.reader.types.items ts >>= put_behind no_place c.loop.definitions.items) ≡ Some (c.add_definition.new.definitions.items, 0, c.add_definition.new.reader.types.items, token_views c.add_definition.new.reader.rest.now)) c.rest_of-reader.ensures c.in_ok-add_definition.ensures) (sym c.are_none.ensures ∙ c.if-are_none.false) (sym c.starts_mark.ensures ∙ c.if-not-starts_mark.true) c.loop.invariant

pub loop-preserved : goal.loop-preserved
loop-preserved c =
    rw c.rest_of-reader-in-loop.ensures (one_definition c.loop.definitions.items c.args.most c.loop.counter c.loop.reader.types.items (token_views c.loop.reader.rest.now) _ (c.add_definition.new.definitions.items, 0, c.add_definition.new.reader.types.items, token_views c.add_definition.new.reader.rest.now) c.loop-test.true (sym c.starts_type.ensures ∙ c.if-not-starts_type.false) (subst (λ ts. (definition_at c.loop.reader.types.items ts >>= put_behind no_place c.loop.definitions.items) ≡ Some (c.add_definition.new.definitions.items, 0, c.add_definition.new.reader.types.items, token_views c.add_definition.new.reader.rest.now)) c.rest_of-reader.ensures c.in_ok-add_definition.ensures) (sym c.are_none.ensures ∙ c.if-are_none.false) (sym c.starts_mark.ensures ∙ c.if-not-starts_mark.false) c.loop.invariant)

pub returns : goal.returns
returns c = no_fuel c.loop.definitions.items c.args.most c.loop.counter c.loop.reader.types.items (token_views c.loop.reader.rest.now) _ c.loop-test.false c.loop.invariant
