use Rattle.std.proofs.Common.{◌≡◌, nat_eq, sym, ap₂, ◌∙◌}
use Rattle.std.specs.Option.{option_eq}
use Rattle.std.specs.Cmp.Lexicographic.{pointwise}
use Rattle.ic_exact.proofs.Deciding.{same_options}
use Rattle.ic_exact.proofs.lists.EntriesSame.same.Goals as goal

pub returns : goal.returns
returns c =
    let decides = same_options c.args.self.now c.args.other.now in
    let value : c.eq.result ≡ pointwise (option_eq nat_eq) c.args.self.now c.args.other.now =
    c.eq.ensures ∙ ap₂ (pointwise (option_eq nat_eq)) (c.as_slice.ensures.value ∙ c.self.view_is) (c.as_slice-2.ensures.value ∙ c.other.view_is) in
    (λ t. decides.0 (sym value ∙ t), λ e. value ∙ decides.1 e)
