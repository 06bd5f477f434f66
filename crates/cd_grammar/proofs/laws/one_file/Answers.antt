use Rattle.cd_grammar.proofs.Files.{one_file}
use Rattle.cd_grammar.proofs.laws.one_file.Goals as goal

pub returns : goal.returns
returns c = one_file
