use Rattle.std.proofs.Common.{ap, ◌∙◌}
use Rattle.std.specs.BTreeMap.{insert_entry}
use Rattle.std.specs.Ordering.{nat_cmp}
use Rattle.std.specs.Cmp.Lexicographic.{slice_cmp}
use Rattle.ic_mgmt.proofs.Makes.{state_made, keeps_made}
use Rattle.ic_mgmt.proofs.making.add.Goals as goal

pub returns-clause-made : goal.returns-clause-made
returns-clause-made c =
    let inserted = c.in_ok-insert.ensures.entries ∙ ap (λ place. insert_entry (slice_cmp nat_cmp) c.args.parts.now.canisters.entries c.canister_id-id.result place) c.in_ok-place.ensures in
    state_made c.args.parts.now c.insert.new.self c.in_ok-canister.canister c.args.controllers c.args.balance c.canister_id-id.result c.canister_id-id.ensures.id c.in_ok-canister.ensures.canister inserted

pub returns-clause-keeps : goal.returns-clause-keeps
returns-clause-keeps c =
    let inserted = c.in_ok-insert.ensures.entries ∙ ap (λ place. insert_entry (slice_cmp nat_cmp) c.args.parts.now.canisters.entries c.canister_id-id.result place) c.in_ok-place.ensures in
    keeps_made c.args.parts.now c.insert.new.self c.in_ok-canister.canister c.args.controllers c.args.balance c.canister_id-id.result c.canister_id-id.ensures.id c.in_ok-canister.ensures.canister inserted
    c.requires.canisters c.in_ok-canister.ensures.keeps
