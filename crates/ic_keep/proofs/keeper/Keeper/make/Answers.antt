use Rattle.std.proofs.Common.{◌∙◌, sym, ap, subst, map}
use Rattle.std.specs.List.Sorted.{IsStrictlySortedBy}
use Rattle.std.specs.Ordering.{nat_cmp}
use Rattle.std.specs.Cmp.Lexicographic.{slice_cmp}
use Rattle.ic_keep.specs.declared.parts.KeptCanister.{KeptCanister}
use Rattle.ic_keep.specs.Kept.{KeptState}
use Rattle.ic_keep.proofs.Makes.{ids_rise}
use Rattle.ic_keep.proofs.keeper.Keeper.make.Goals as goal

pub make_canisters-requires-clause-rising : goal.make_canisters-requires-clause-rising
make_canisters-requires-clause-rising c =
    subst (IsStrictlySortedBy (slice_cmp nat_cmp))
    (ids_rise c.args.self.now c.args.kept.now.canisters ∙ ap (map (λ (k : KeptCanister). k.id)) (sym (c.as_slice.ensures.value ∙ ap (λ (k : KeptState). k.canisters) c.kept.view_is)))
    c.requires.sound.names.rises
