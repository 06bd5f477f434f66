use Rattle.std.proofs.Common.{◌∙◌, ap}
use Rattle.ic_state.specs.declared.world.Parts.{Parts}
use Rattle.ic_keep.specs.Kept.{KeptState}
use Rattle.ic_keep.proofs.Makes.{world_made}
use Rattle.ic_keep.proofs.keeper.Keeper.seal.Goals as goal

pub seal-requires : goal.seal-requires
seal-requires c =
    (world_made c.args.self.now c.args.kept.now _ c.requires.kept c.requires.canisters c.requires.idle
    (c.in_ok-unshared.ensures ∙ c.as_slice.ensures ∙ ap (λ (k : KeptState). k.messages) c.kept.view_is)
    (c.in_ok-unshared-2.ensures ∙ c.as_slice-2.ensures.value ∙ ap (λ (k : KeptState). k.requests) c.kept.view_is)
    (ap (λ (k : KeptState). k.time) c.kept.view_is) (ap (λ (k : KeptState). k.created) c.kept.view_is)
    (ap (λ (k : KeptState). k.burned) c.kept.view_is) (ap (λ (k : KeptState). k.next_canister) c.kept.view_is)).0

pub returns : goal.returns
returns c =
    let parts : Parts = record {
      canisters = c.args.canisters;
      messages = c.in_ok-unshared.field-0.items;
      requests = c.in_ok-unshared-2.field-0.items;
      time = c.kept.inside.time;
      created = c.kept.inside.created;
      burned = c.kept.inside.burned;
      next_canister = c.kept.inside.next_canister;
    } in
    c.seal.ensures ∙ (world_made c.args.self.now c.args.kept.now parts c.requires.kept c.requires.canisters c.requires.idle
    (c.in_ok-unshared.ensures ∙ c.as_slice.ensures ∙ ap (λ (k : KeptState). k.messages) c.kept.view_is)
    (c.in_ok-unshared-2.ensures ∙ c.as_slice-2.ensures.value ∙ ap (λ (k : KeptState). k.requests) c.kept.view_is)
    (ap (λ (k : KeptState). k.time) c.kept.view_is) (ap (λ (k : KeptState). k.created) c.kept.view_is)
    (ap (λ (k : KeptState). k.burned) c.kept.view_is) (ap (λ (k : KeptState). k.next_canister) c.kept.view_is)).1
