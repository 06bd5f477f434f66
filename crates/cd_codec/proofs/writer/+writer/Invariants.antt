use Rattle.std.proofs.Common.{◌≡◌, ◌++◌, take}
use Rattle.std.specs.List.{flat_map}
use Rattle.cd_codec.specs.Spelling.{spelling}
use Rattle.cd_codec.specs.View.{views, views_of_fields}
use Rattle.cd_codec.proofs.writer.+writer.Given as goal

abbrev pub invariant-write_values-loop-value : goal.invariant-write_values-loop-value
invariant-write_values-loop-value l = l.out.items ≡ l.fn.out.items ++ flat_map spelling (views (take l.value-index l.values))

abbrev pub invariant-write_fields-loop-value : goal.invariant-write_fields-loop-value
invariant-write_fields-loop-value l = l.out.items ≡ l.fn.out.items ++ flat_map (λ f. spelling f.1) (views_of_fields (take l.value-index l.fields))
