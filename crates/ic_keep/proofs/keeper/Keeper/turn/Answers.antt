use Rattle.std.proofs.Common.{◌∙◌, sym, ap, subst, map}
use Rattle.std.specs.List.Sorted.{IsStrictlySortedBy}
use Rattle.std.specs.Ordering.{nat_cmp}
use Rattle.std.specs.Cmp.Lexicographic.{slice_cmp}
use Rattle.ic_keep.specs.declared.parts.KeptCanister.{KeptCanister}
use Rattle.ic_keep.specs.Kept.{KeptState, counted_at}
use Rattle.ic_keep.proofs.Makes.{ids_rise}
use Rattle.ic_keep.proofs.Turns.{all_entries, all_idle}
use Rattle.ic_keep.proofs.keeper.Keeper.turn.Goals as goal

pub turn_canisters-requires-clause-rising : goal.turn_canisters-requires-clause-rising
turn_canisters-requires-clause-rising c =
    subst (IsStrictlySortedBy (slice_cmp nat_cmp))
    (ids_rise c.args.self.now c.args.to.now.canisters ∙ ap (map (λ (k : KeptCanister). k.id)) (sym (c.as_slice-2.ensures.value ∙ ap (λ (k : KeptState). k.canisters) c.to.view_is)))
    c.requires.to.sound.names.rises

pub turn_canisters-requires-clause-old : goal.turn_canisters-requires-clause-old
turn_canisters-requires-clause-old c =
    all_entries c.args.self.now c.args.from.now c.open-parts.result c.requires.from c.open-parts.ensures.keeps (c.open-parts.ensures.state ∙ c.requires.world)
    ∙ ap (map (counted_at c.args.self.now)) (sym (c.as_slice.ensures.value ∙ ap (λ (k : KeptState). k.canisters) c.from.view_is))

pub turn_canisters-requires-clause-idle : goal.turn_canisters-requires-clause-idle
turn_canisters-requires-clause-idle c = all_idle c.open-parts.result.canisters.entries c.open-parts.ensures.keeps.canisters
