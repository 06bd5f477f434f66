-- What a line that reads a Candid message prints, by the relations.
use Rattle.std.proofs.Common.{◌≡◌, ℕ, false, List, ap}
use Rattle.cd_codec.specs.Content.{Content}
use Rattle.cd_codec.specs.IsHeader.{IsHeader}
use Rattle.cd_coerce.specs.Decoded.{decoded}
use Rattle.ic_candid_lines.specs.Decoding.{Types, types_of, reading_text, answer_text}
use Rattle.ic_candid_lines.proofs.ExpectedTypes.{types_found}

-- the types of the header are what the line is read at
pub reading-at : (print : Types → List Content → List ℕ) (expected : Types) (header message : List ℕ) → IsHeader false expected.0 expected.1 header
    → reading_text print (types_of header) message ≡ answer_text print expected (decoded expected message)
reading-at print expected header message is = ap (λ types. reading_text print types message) (types_found header expected.0 expected.1 is)
