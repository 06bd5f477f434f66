use Rattle.std.proofs.Common.{◌∙◌, sym, ap}
use Rattle.ic_state.specs.declared.world.Parts.{Parts}
use Rattle.ic_keep.specs.Kept.{KeptState}
use Rattle.ic_keep.proofs.Alike.{world_kept}
use Rattle.ic_keep.proofs.Entering.{all_codes, all_seen, near_codes, codes_known}
use Rattle.ic_keep.proofs.keeper.Keeper.keep.Goals as goal

pub keep_canisters-requires-clause-codes : goal.keep_canisters-requires-clause-codes
keep_canisters-requires-clause-codes c = λ yes.
    ap (near_codes c.args.self.now) (c.as_slice.ensures.value ∙ ap (λ (k : KeptState). k.canisters) c.near.view_is)
    ∙ codes_known c.args.self.now c.args.near.now c.parts-parts.result.now c.args.world.now c.parts-parts.ensures.state (c.requires.codes yes)
    ∙ ap (λ (p : Parts). all_codes p.canisters.entries) (sym c.parts.view_is)

pub returns-clause-kept : goal.returns-clause-kept
returns-clause-kept c =
    (world_kept c.keep_canisters.new.self _ c.parts-parts.result.now c.args.world.now c.parts-parts.ensures.state c.parts-parts.ensures.keeps c.in_ok-canisters.ensures.stored
    (c.in_ok-canisters.ensures.canisters ∙ ap (λ (p : Parts). all_seen p.canisters.entries) c.parts.view_is)
    (c.in_ok-kept_messages.ensures ∙ ap (λ (p : Parts). p.messages) c.parts.view_is)
    (c.in_ok-shared_items.ensures ∙ c.as_slice-2.ensures.value ∙ ap (λ (p : Parts). p.requests) c.parts.view_is)
    (ap (λ (p : Parts). p.time) c.parts.view_is) (ap (λ (p : Parts). p.created) c.parts.view_is)
    (ap (λ (p : Parts). p.burned) c.parts.view_is) (ap (λ (p : Parts). p.next_canister) c.parts.view_is)).0

pub returns-clause-state : goal.returns-clause-state
returns-clause-state c =
    (world_kept c.keep_canisters.new.self _ c.parts-parts.result.now c.args.world.now c.parts-parts.ensures.state c.parts-parts.ensures.keeps c.in_ok-canisters.ensures.stored
    (c.in_ok-canisters.ensures.canisters ∙ ap (λ (p : Parts). all_seen p.canisters.entries) c.parts.view_is)
    (c.in_ok-kept_messages.ensures ∙ ap (λ (p : Parts). p.messages) c.parts.view_is)
    (c.in_ok-shared_items.ensures ∙ c.as_slice-2.ensures.value ∙ ap (λ (p : Parts). p.requests) c.parts.view_is)
    (ap (λ (p : Parts). p.time) c.parts.view_is) (ap (λ (p : Parts). p.created) c.parts.view_is)
    (ap (λ (p : Parts). p.burned) c.parts.view_is) (ap (λ (p : Parts). p.next_canister) c.parts.view_is)).1
