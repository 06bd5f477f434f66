use Rattle.std.specs.Prelude.{option_map}
use Rattle.std.proofs.Common.{◌≡◌, ◌++◌, take, codes, map}
use Rattle.cd_codec.specs.Content.{parts_of}
use Rattle.cd_codec.specs.View.{views, views_of_fields}
use Rattle.cd_plain.specs.Pieces.{pieces}
use Rattle.cd_plain.specs.Printed.{value_text, field_texts}
use Rattle.cd_plain.proofs.printing.+printer.Given as goal

abbrev pub invariant-write_items-loop-place : goal.invariant-write_items-loop-place
invariant-write_items-loop-place l = l.out.items ≡ l.fn.out.items ++ pieces (codes "{ ") (codes "; ") 0 (map (value_text (option_map (λ n. n.now) l.names) l.table l.item) (views (take l.place l.values)))

abbrev pub invariant-write_fields-loop-place : goal.invariant-write_fields-loop-place
invariant-write_fields-loop-place l = l.out.items ≡ l.fn.out.items ++ pieces (codes "{ ") (codes "; ") 0 (field_texts (option_map (λ n. n.now) l.names) l.table l.types 0 (parts_of (views_of_fields (take l.place l.fields))))
