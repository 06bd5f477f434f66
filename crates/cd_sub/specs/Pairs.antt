-- Pairs of entries by their places among the marks. No standard has these.
use Rattle.std.specs.Prelude.{ℕ, ◌-◌, ◌*◌, ◌/◌, ◌%◌, Bool, true, false, nat_lt, List, length, Option, slice_get}
use Rattle.cd_types.specs.declared.entry.TyRef.TheVariants.{Index}
use Rattle.cd_types.specs.declared.entry.Entry.{Entry}
use Rattle.cd_sub.specs.Parts.{looked_up_parts}
use Rattle.cd_sub.specs.Sub.{SubAt}

-- whether the place is of a pair with the lower type in the first table
abbrev pub is_straight : List Entry → List Entry → ℕ → Bool
is_straight first second place = nat_lt place (length first * length second)

-- what is left to show of the pair with this number
abbrev pub pair_parts : List Entry → List Entry → Bool → ℕ → Option (List ℕ)
pair_parts lower upper turned number =
    looked_up_parts lower upper turned (slice_get lower (number / length upper)) (slice_get upper (number % length upper))

-- what is left to show of the pair at this place, which `is_straight` tells
abbrev pub side_parts : List Entry → List Entry → Bool → ℕ → Option (List ℕ)
side_parts first second true place = pair_parts first second false place
side_parts first second false place = pair_parts second first true (place - length first * length second)

abbrev pub parts_at : List Entry → List Entry → ℕ → Option (List ℕ)
parts_at first second place = side_parts first second (is_straight first second place) place

-- the lower entry of the pair with this number is a subtype of the upper one, as far as the depth shows
abbrev pub PairSubAt : ℕ → List Entry → List Entry → ℕ → Type 0
PairSubAt n lower upper number = SubAt n lower (Index (number / length upper)) upper (Index (number % length upper))

-- the same of the pair at this place, which `is_straight` tells
abbrev pub SideSubAt : ℕ → List Entry → List Entry → Bool → ℕ → Type 0
SideSubAt n first second true place = PairSubAt n first second place
SideSubAt n first second false place = PairSubAt n second first (place - length first * length second)

abbrev pub PlaceSubAt : ℕ → List Entry → List Entry → ℕ → Type 0
PlaceSubAt n first second place = SideSubAt n first second (is_straight first second place) place

-- the pair at this place is one of a subtype and its supertype
abbrev pub PlaceSub : List Entry → List Entry → ℕ → Type 0
PlaceSub first second place = (n : ℕ) → PlaceSubAt n first second place
