use Rattle.ct_file.proofs.Files.{one_file}
use Rattle.ct_file.proofs.laws.one_file.Goals as goal

pub returns : goal.returns
returns c = one_file
