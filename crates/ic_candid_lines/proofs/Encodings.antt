-- What a line that reads a text of values prints.
use Rattle.std.proofs.Common.{◌≡◌, ℕ, List, Result, Ok, Err, IfOk, sym, ap, ◌∙◌}
use Rattle.std.specs.Prelude.{IsTrue}
use Rattle.cd_types.specs.IsTable.{is_table}
use Rattle.cd_codec.specs.Content.{Content}
use Rattle.cd_text.specs.ReadText.{values_of}
use Rattle.cd_text.specs.Whole.{Said}
use Rattle.cd_text.proofs.Arguments.{values_again, values_none}
use Rattle.ic_candid_lines.specs.Decoding.{Types}
use Rattle.ic_candid_lines.specs.Encoding.{not_text, encoded_text, said_text}

-- what is printed of the values that are said
pub said_printed : {E : Type 0} (expected : Types) (values : List Content) (text : List ℕ) (printed : Result (List ℕ) E) → IsTrue (is_table expected.0) → Said expected.0 expected.1 values text → IfOk printed (λ t. t ≡ encoded_text expected values)
    → IfOk printed (λ t. t ≡ said_text expected (values_of expected.0 expected.1 text))
said_printed expected values text (Ok t) is said e = e ∙ sym (ap (said_text expected) (values_again expected.0 expected.1 values text is said))
said_printed expected values text (Err error) is said e = e

-- what is printed where none are
pub none_printed : {E : Type 0} (expected : Types) (text : List ℕ) (printed : Result (List ℕ) E) → IsTrue (is_table expected.0) → ((values : List Content) → Said expected.0 expected.1 values text → ⊥)
    → IfOk printed (λ t. t ≡ not_text) → IfOk printed (λ t. t ≡ said_text expected (values_of expected.0 expected.1 text))
none_printed expected text (Ok t) is none e = e ∙ sym (ap (said_text expected) (values_none expected.0 expected.1 text is none))
none_printed expected text (Err error) is none e = e
