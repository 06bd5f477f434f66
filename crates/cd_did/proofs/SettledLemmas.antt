-- A file without a fault up to `Vacuous`.
use Rattle.std.proofs.Common.{◌≡◌, ℕ, true, List, [], None}
use Rattle.cd_grammar.specs.File.{File}
use Rattle.cd_did.specs.Faults.{all_parts, is_no_float, is_bound, repeated}
use Rattle.cd_did.specs.Answers.{HasTypes}
use Rattle.cd_did.specs.Rings.{HasEnds, is_named_at, least_from}
use Rattle.cd_did.proofs.ApartLemmas.{apart, all_bound}
use Rattle.cd_did.proofs.Ends.{none_vacuous}

pub settled_ok : (file : File) (ends : List ℕ) → all_parts is_no_float file ≡ true → repeated [] 0 file.definitions ≡ None → all_parts (is_bound file.definitions) file ≡ true → HasEnds file.definitions ends → least_from (is_named_at file.definitions) None ends ≡ None
    → HasTypes file × HasEnds file.definitions ends × (least_from (is_named_at file.definitions) None ends ≡ None)
settled_ok file ends floats once bound has none =
    let types : HasTypes file = (((floats, once), bound), none_vacuous file.definitions (apart file.definitions once) (all_bound file bound) ends has none) in
    (types, has, none)
