-- What a call that reads a text answers.
use Rattle.std.specs.Prelude.{◌≡◌, List, Result, Ok, Err}
use Rattle.cd_codec.specs.Content.{Content}
use Rattle.cd_codec.specs.Answers.{contents}
use Rattle.cd_codec.specs.declared.value.Values.{Values}
use Rattle.cd_text.specs.declared.fault.TextFault.{TextFault}
use Rattle.cd_text.specs.declared.fault.TextFault.TheVariants.{NotText, NoMemory}

-- the answer is these values, unless memory ran out
abbrev pub ReadsText : Result Values TextFault → List Content → Type 0
ReadsText (Ok values) expected = contents values ≡ expected
ReadsText (Err NotText) expected = ⊥
ReadsText (Err NoMemory) expected = Unit {0}
