-- Paths into a state tree, as a word of a line.
use Rattle.std.specs.Prelude.{ℕ, Bool, ◌&&◌, ◌==◌, nat_le, List, length, if◌then◌else◌, Result, Err, ok_or}
use Rattle.std.specs.Result.{result_ok}
use Rattle.std.specs.List.{list_all, slice_split}
use Rattle.hex.specs.Hex.{decode_of}
use Rattle.ic_script.specs.declared.line_cause.LineCause.{LineCause}
use Rattle.ic_script.specs.declared.line_cause.LineCause.TheVariants.{Hex}
use Rattle.ic_script.specs.Steps.{each}

-- what comes before, between and after the commas of a word
abbrev pub paths_in : List ℕ → List (List ℕ)
paths_in word = slice_split (λ byte. byte == 44) word

-- what comes before, between and after the slashes
abbrev pub labels_in : List ℕ → List (List ℕ)
labels_in word = slice_split (λ byte. byte == 47) word

-- at most 8 labels
abbrev pub is_short : List ℕ → Bool
is_short path = nat_le (length (labels_in path)) 8

-- at most 64 paths of at most 8 labels each
unfoldable pub are_few : List ℕ → Bool
are_few word = nat_le (length (paths_in word)) 64 && list_all is_short (paths_in word)

-- a label: pairs of hexadecimal digits, at least one
abbrev pub label_word : List ℕ → Result (List ℕ) LineCause
label_word word = if length word == 0 then Err Hex else ok_or (result_ok (decode_of word)) Hex

-- the labels of a path
abbrev pub labels_word : List ℕ → Result (List (List ℕ)) LineCause
labels_word path = each label_word (labels_in path)

-- the labels of each path
abbrev pub paths_word : List ℕ → Result (List (List (List ℕ))) LineCause
paths_word word = each labels_word (paths_in word)
