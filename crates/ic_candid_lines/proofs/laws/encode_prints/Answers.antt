use Rattle.std.proofs.Common.{ap, ◌∙◌}
use Rattle.cd_text.proofs.Arguments.{values_again, values_none}
use Rattle.ic_candid_lines.specs.Encoding.{encode_text, encoding_text, said_text}
use Rattle.ic_candid_lines.proofs.ExpectedTypes.{types_found, types_of-no_header}
use Rattle.ic_candid_lines.proofs.laws.encode_prints.Goals as goal

pub returns-clause-encoded : goal.returns-clause-encoded
unfolding encode_text
returns-clause-encoded c =
    λ expected header text values is said.
    ap (λ types. encoding_text types text) (types_found header expected.0 expected.1 is) ∙ ap (said_text expected) (values_again expected.0 expected.1 values text is.well_formed said)

pub returns-clause-refused : goal.returns-clause-refused
unfolding encode_text
returns-clause-refused c =
    λ expected header text is none.
    ap (λ types. encoding_text types text) (types_found header expected.0 expected.1 is) ∙ ap (said_text expected) (values_none expected.0 expected.1 text is.well_formed none)

pub returns-clause-bad_expected : goal.returns-clause-bad_expected
unfolding encode_text
returns-clause-bad_expected c = λ header text no_header. ap (λ types. encoding_text types text) (types_of-no_header header no_header)
