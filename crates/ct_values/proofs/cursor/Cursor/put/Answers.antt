use Rattle.std.proofs.lemmas.List.{map-set}
use Rattle.ct_values.proofs.cursor.Cursor.put.Goals as goal

pub returns-then-at-len : goal.returns-then-at-len
returns-then-at-len c = simp map-set
