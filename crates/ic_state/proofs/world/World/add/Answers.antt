use Rattle.std.proofs.Common.{refl, ap, ◌∙◌}
use Rattle.std.specs.BTreeMap.{insert_entry}
use Rattle.std.specs.Ordering.{nat_cmp}
use Rattle.std.specs.Cmp.Lexicographic.{slice_cmp}
use Rattle.ic_state.proofs.Worlds.{added_now, added_state}
use Rattle.ic_state.specs.Seen.{state_of}
use Rattle.ic_state.proofs.world.World.add.Goals as goal

pub invariant_of-result : goal.invariant_of-result
invariant_of-result c =
    let inserted = c.in_ok-insert.ensures.entries ∙ ap (λ place. insert_entry (slice_cmp nat_cmp) c.self.inside.parts.canisters.entries c.args.canister.id place) c.in_ok-place.ensures in
    added_now c.self.inside.parts _ c.args.canister c.args.self c.self.view_is c.self.invariant c.requires.new c.requires.keeps c.requires.room inserted
    (added_state c.self.inside.parts c.insert.new.self c.args.canister (state_of c.self.inside.parts) refl inserted)

pub returns : goal.returns
returns c =
    added_state c.self.inside.parts c.insert.new.self c.args.canister c.args.self c.self.view_is
    (c.in_ok-insert.ensures.entries ∙ ap (λ place. insert_entry (slice_cmp nat_cmp) c.self.inside.parts.canisters.entries c.args.canister.id place) c.in_ok-place.ensures)
