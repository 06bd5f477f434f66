use Rattle.std.proofs.Common.{◌∙◌}
use Rattle.cd_grammar.proofs.WordTable.{table_word}
use Rattle.cd_grammar.proofs.word.Word.of.Goals as goal

pub returns : goal.returns
returns c = c.find_word.ensures ∙ table_word c.args.bytes.now
