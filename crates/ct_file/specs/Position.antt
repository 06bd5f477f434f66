-- Lines and columns of a text.
use Rattle.std.specs.Prelude.{ℕ, Bool, ◌==◌, not}

abbrev pub is_line_feed : ℕ → Bool
is_line_feed b = b == 10

-- the byte ends no line
abbrev pub is_inside_line : ℕ → Bool
is_inside_line b = not (b == 10)
