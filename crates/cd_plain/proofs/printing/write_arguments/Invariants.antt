use Rattle.std.specs.Prelude.{option_map}
use Rattle.std.proofs.Common.{◌≡◌, ◌++◌, take, codes, []}
use Rattle.cd_codec.specs.View.{views}
use Rattle.cd_plain.specs.Pieces.{pieces}
use Rattle.cd_plain.specs.Printed.{argument_texts}
use Rattle.cd_plain.proofs.printing.write_arguments.Given as goal

abbrev pub invariant-loop-place : goal.invariant-loop-place
invariant-loop-place l = l.out.items ≡ l.fn.out.items ++ pieces [] (codes ", ") 0 (argument_texts (option_map (λ n. n.now) l.names) l.table l.types 0 (views (take l.place l.values)))
