use Rattle.std.proofs.Common.{◌-◌}
use Rattle.cd_tokens.specs.View.{token_views}
use Rattle.cd_grammar.specs.Read.{definitions_at}
use Rattle.cd_grammar.proofs.FileLoops.{StillDefined}
use Rattle.cd_grammar.proofs.file.add_definitions.Given as goal

abbrev pub invariant-loop : goal.invariant-loop
invariant-loop l = StillDefined l.definitions.items (l.most - l.counter) l.reader.types.items (token_views l.reader.rest.now) (definitions_at l.most l.fn.reader.types.items (token_views l.fn.reader.rest.now))
