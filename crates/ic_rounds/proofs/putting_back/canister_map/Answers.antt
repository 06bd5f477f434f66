use Rattle.std.proofs.Common.{sym, ◌∙◌, subst}
use Rattle.std.specs.Ordering.{nat_cmp}
use Rattle.std.specs.Cmp.Lexicographic.{slice_cmp}
use Rattle.std.specs.BTreeMap.{IsFromIterResult}
use Rattle.std.proofs.lemmas.List.{map-id}
use Rattle.std.proofs.lemmas.Iterator.{items_from_drains}
use Rattle.std.proofs.lemmas.Iterator.Adapters.{YieldsList-from_vec}
use Rattle.ic_rounds.proofs.CanisterMaps.{made_is}
use Rattle.ic_rounds.proofs.putting_back.canister_map.Goals as goal

pub returns : goal.returns
returns c =
    let pairs = c.args.canisters in
    let ran = c.in_ok-map.ensures.ran in
    let road = YieldsList-from_vec {s = c.into_iter.result} pairs.items c.into_iter.ensures.rest (c.into_iter.ensures.len ∙ pairs.ok.0) in
    let all = sym (map-id ran.0) ∙ items_from_drains ran.0 ran.1 road in
    made_is pairs.items c.in_ok-map.map (subst (λ l. IsFromIterResult (slice_cmp nat_cmp) l c.in_ok-map.map) all ran.2)
