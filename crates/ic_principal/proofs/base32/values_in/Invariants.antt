use Rattle.std.proofs.Common.{◌≡◌, ◌-◌, ◌%◌, ◌<◌, ◌≤◌, length, take, map}
use Rattle.std.specs.List.{All}
use Rattle.ic_principal.specs.Base32.{character}
use Rattle.ic_principal.specs.Text.{dashed}
use Rattle.ic_principal.proofs.base32.values_in.Given as goal

abbrev pub invariant-letters : goal.invariant-letters
invariant-letters l = record {
  front : take l.place l.text ≡ dashed (map character l.values.items);
  values : All (λ v. v < 32) l.values.items;
  inside : l.place ≤ length l.text;
  letters : l.place % 6 ≡ l.letters;
  few : length l.values.items ≤ l.place;
}

abbrev pub decreases-letters : goal.decreases-letters
decreases-letters l = length l.text - l.place
