use Rattle.std.proofs.Common.{◌∙◌}
use Rattle.ct_names.proofs.WordTable.{table_word}
use Rattle.ct_names.proofs.word.is_candid_word.Goals as goal

pub returns : goal.returns
returns c = c.is_among.ensures ∙ table_word c.args.word.now
