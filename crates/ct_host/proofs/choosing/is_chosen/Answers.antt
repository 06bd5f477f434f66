use Rattle.std.proofs.Common.{◌≡◌, ◌∙◌, ap₂, rules}
use Rattle.std.proofs.lemmas.Str.Pattern.{contains_text}
use Rattle.ct_host.specs.Chosen.{has_part}
use Rattle.ct_host.proofs.Parts.{has_part_is}
use Rattle.ct_host.proofs.choosing.is_chosen.Goals as goal

pub returns-in-Only : goal.returns-in-Only
returns-in-Only c =
    let part : c.as_str.result.now ≡ c.in-Only.part = search rules in
    let name : c.as_str-name.result.now ≡ c.args.test.now.name = search rules in
    let r : c.contains.result ≡ has_part c.as_str.result.now c.as_str-name.result.now =
    has_part_is c.as_str.result.now c.as_str-name.result.now c.contains.result (contains_text c.contains.result c.as_str.result.now c.as_str-name.result.now c.contains.ensures.cases) in
    rw c.in-Only.is (r ∙ ap₂ has_part part name)
