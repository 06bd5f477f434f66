use Rattle.std.proofs.Common.{◌≡◌, ◌≤◌, ◌++◌, length, drop, Some}
use Rattle.std.specs.Prelude.{option_map}
use Rattle.cd_codec.specs.View.{views_of_fields}
use Rattle.ct_patterns.specs.Views.{waiting}
use Rattle.ct_patterns.specs.Meets.{fields_at}
use Rattle.ct_patterns.proofs.opening.open_fields.Given as goal

-- those from the place on are there, and are added
abbrev pub invariant-loop-index : goal.invariant-loop-index
invariant-loop-index l = record {
  within : l.index ≤ length l.places;
  added : Some (waiting l.next.items) ≡ option_map (λ parts. parts ++ waiting l.fn.next.items) (fields_at (drop l.index l.places) (views_of_fields l.fields));
}

abbrev pub decreases-loop-index : goal.decreases-loop-index
decreases-loop-index l = l.index
