-- What tests print: TAP version 13 (Test Anything Protocol), with a block for each test that fails.
use Rattle.std.specs.Prelude.{ℕ, suc, ◌+◌, ◌++◌, ◌==◌, List, [], ◌∷◌, codes, count_by, decimal, take, if◌then◌else◌}
use Rattle.std.specs.List.{flat_map, suffix_len}
use Rattle.ct_file.specs.Position.{is_line_feed, is_inside_line}
use Rattle.ct_report.specs.declared.tap.Block.{Block}
use Rattle.ct_report.specs.declared.tap.Counts.{Counts}

-- what ends a printed line
abbrev pub newline : List ℕ
newline = 10 ∷ []

-- the first two lines, for a number of tests
unfoldable pub plan_text : ℕ → List ℕ
plan_text tests = codes "TAP version 13\n1.." ++ decimal tests ++ newline

-- the line of a test that passed, and of one that failed, by its number from 1
unfoldable pub passed_text : ℕ → List ℕ → List ℕ
passed_text number name = codes "ok " ++ decimal number ++ codes " - " ++ name ++ newline

unfoldable pub failed_text : ℕ → List ℕ → List ℕ
failed_text number name = codes "not ok " ++ decimal number ++ codes " - " ++ name ++ newline

-- how many tests ended, and the number of the next one
abbrev pub ended : Counts → ℕ
ended counts = counts.passed + counts.failed + counts.undecided

abbrev pub next_number : Counts → ℕ
next_number counts = ended counts + 1

-- the last line
unfoldable pub counts_text : Counts → List ℕ
counts_text counts =
    codes "# " ++ decimal counts.passed ++ codes " passed, " ++ decimal counts.failed ++ codes " failed, " ++ decimal counts.undecided ++ codes " not decided" ++ newline

-- a text in which single quotes are doubled
abbrev pub doubled_byte : ℕ → List ℕ
doubled_byte byte = if byte == 39 then 39 ∷ 39 ∷ [] else byte ∷ []

abbrev pub doubled : List ℕ → List ℕ
doubled = flat_map doubled_byte

-- a line of a block: a key, and a text in single quotes
unfoldable pub key_text : (key text : List ℕ) → List ℕ
key_text key text = codes "  " ++ key ++ codes ": '" ++ doubled text ++ codes "'" ++ newline

-- a text in one line
abbrev pub inside_line : ℕ → List ℕ
inside_line byte = if byte == 10 then [] else byte ∷ []

abbrev pub one_line : List ℕ → List ℕ
one_line = flat_map inside_line

-- an entry of a list: a text in one line, in single quotes
unfoldable pub entry_line : (entry : List ℕ) → List ℕ
entry_line entry = codes "    - '" ++ doubled (one_line entry) ++ codes "'" ++ newline

abbrev pub entries_text : (entries : List (List ℕ)) → List ℕ
entries_text = flat_map entry_line

-- a list under its key, if it has entries
abbrev pub list_text : (key : List ℕ) → (entries : List (List ℕ)) → List ℕ
list_text key [] = []
list_text key (entry ∷ entries) = codes "  " ++ key ++ codes ":" ++ newline ++ entries_text (entry ∷ entries)

-- where a statement is, what was expected of it, and what came instead
abbrev pub facts_text : Block → List ℕ
facts_text block = key_text (codes "at") block.at ++ key_text (codes "expected") block.expected ++ key_text (codes "got") block.got

-- the deliveries that led there, where executions trapped, and what canisters said
abbrev pub lists_text : Block → List ℕ
lists_text block = list_text (codes "order") block.order ++ list_text (codes "trapped") block.trapped ++ list_text (codes "said") block.said

-- the block of a statement that is not met
unfoldable pub block_text : Block → List ℕ
block_text block = codes "  ---" ++ newline ++ facts_text block ++ lists_text block ++ codes "  ..." ++ newline

-- the block of an interleave that has more states than that
unfoldable pub undecided_text : (at : List ℕ) → (states : ℕ) → List ℕ
undecided_text at states =
    codes "  ---" ++ newline ++ key_text (codes "at") at ++ key_text (codes "undecided") (codes "more than " ++ decimal states ++ codes " states") ++ codes "  ..." ++ newline

-- a comment, in one line
unfoldable pub comment_line : (comment : List ℕ) → List ℕ
comment_line comment = codes "# " ++ one_line comment ++ newline

abbrev pub comments_text : (comments : List (List ℕ)) → List ℕ
comments_text = flat_map comment_line

-- the line and the column of a place of a text, from 1
abbrev pub line_at : (text : List ℕ) → (place : ℕ) → ℕ
line_at text place = suc (count_by is_line_feed (take place text))

abbrev pub column_at : (text : List ℕ) → (place : ℕ) → ℕ
column_at text place = suc (suffix_len is_inside_line (take place text))

-- a position in a test file, by its name on the command line, and that of a place
unfoldable pub position_text : (name : List ℕ) → (line column : ℕ) → List ℕ
position_text name line column = name ++ codes ":" ++ decimal line ++ codes ":" ++ decimal column

abbrev pub place_text : (name text : List ℕ) → (place : ℕ) → List ℕ
place_text name text place = position_text name (line_at text place) (column_at text place)
