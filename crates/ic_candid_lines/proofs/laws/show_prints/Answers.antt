use Rattle.std.proofs.Common.{ap, ◌∙◌}
use Rattle.ic_candid_lines.specs.Decoding.{answer_text, show_text, shown_text, reading_text}
use Rattle.ic_candid_lines.proofs.ExpectedTypes.{types_of-no_header}
use Rattle.ic_candid_lines.proofs.DecodePrints.{reading-at}
use Rattle.ic_candid_lines.proofs.laws.show_prints.Goals as goal

pub returns-clause-shown : goal.returns-clause-shown
unfolding show_text
returns-clause-shown c =
    λ expected header message values is decodes.
    reading-at shown_text expected header message is ∙ ap (answer_text shown_text expected) ((c.one_answer.ensures.values expected message values).1 decodes)

pub returns-clause-refused : goal.returns-clause-refused
unfolding show_text
returns-clause-refused c =
    λ expected header message fault is has.
    reading-at shown_text expected header message is ∙ ap (answer_text shown_text expected) ((c.one_answer.ensures.fault expected message fault).1 has)

pub returns-clause-bad_expected : goal.returns-clause-bad_expected
unfolding show_text
returns-clause-bad_expected c = λ header message no_header. ap (λ types. reading_text shown_text types message) (types_of-no_header header no_header)
