-- The codes of the marks of test files, in ASCII.
use Rattle.std.specs.Prelude.{ℕ}

abbrev pub opening_code : ℕ
opening_code = 40

abbrev pub closing_code : ℕ
closing_code = 41

abbrev pub comma_code : ℕ
comma_code = 44

abbrev pub dot_code : ℕ
dot_code = 46

abbrev pub semicolon_code : ℕ
semicolon_code = 59

abbrev pub equals_code : ℕ
equals_code = 61

abbrev pub open_brace_code : ℕ
open_brace_code = 123

abbrev pub close_brace_code : ℕ
close_brace_code = 125
