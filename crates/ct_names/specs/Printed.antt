-- The names of methods and of tests that are printed as they are.
use Rattle.std.specs.Prelude.{ℕ, Bool, ◌&&◌, not, ◌==◌, nat_le, List, length}
use Rattle.std.specs.List.{list_all}

-- a printable character of ASCII that is no blank
abbrev pub is_script_byte : ℕ → Bool
is_script_byte byte = nat_le 33 byte && nat_le byte 126

-- a name of a method that a script can have as a word
abbrev pub is_script_word : List ℕ → Bool
is_script_word name = not (length name == 0) && (nat_le (length name) 20000 && list_all is_script_byte name)

-- no control character, `#` (35) or `\` (92)
abbrev pub is_plain_byte : ℕ → Bool
is_plain_byte byte = nat_le 32 byte && (not (byte == 127) && (not (byte == 35) && not (byte == 92)))

-- a name of a test that TAP prints as it is
abbrev pub is_test_name : List ℕ → Bool
is_test_name name = not (length name == 0) && list_all is_plain_byte name
