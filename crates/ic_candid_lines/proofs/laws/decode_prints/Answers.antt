use Rattle.std.proofs.Common.{ap, ◌∙◌}
use Rattle.ic_candid_lines.specs.Decoding.{answer_text, decode_text, decoded_text, reading_text}
use Rattle.ic_candid_lines.proofs.ExpectedTypes.{types_of-no_header}
use Rattle.ic_candid_lines.proofs.DecodePrints.{reading-at}
use Rattle.ic_candid_lines.proofs.laws.decode_prints.Goals as goal

pub returns-clause-decoded : goal.returns-clause-decoded
unfolding decode_text
returns-clause-decoded c =
    λ expected header message values is decodes.
    reading-at decoded_text expected header message is ∙ ap (answer_text decoded_text expected) ((c.one_answer.ensures.values expected message values).1 decodes)

pub returns-clause-refused : goal.returns-clause-refused
unfolding decode_text
returns-clause-refused c =
    λ expected header message fault is has.
    reading-at decoded_text expected header message is ∙ ap (answer_text decoded_text expected) ((c.one_answer.ensures.fault expected message fault).1 has)

pub returns-clause-bad_expected : goal.returns-clause-bad_expected
unfolding decode_text
returns-clause-bad_expected c = λ header message no_header. ap (λ types. reading_text decoded_text types message) (types_of-no_header header no_header)
