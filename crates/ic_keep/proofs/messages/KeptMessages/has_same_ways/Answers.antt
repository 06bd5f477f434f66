use Rattle.std.proofs.Common.{◌∙◌, sym, subst}
use Rattle.ic_order.specs.Sorted.{IsByWays}
use Rattle.ic_keep.proofs.messages.KeptMessages.has_same_ways.Goals as goal

pub returns : goal.returns
returns c =
    let left = subst (λ l. IsByWays l c.self.inside.by_ways.items) c.self.view_is c.self.invariant in
    let right = subst (λ l. IsByWays l c.other.inside.by_ways.items) c.other.view_is c.other.invariant in (
      λ yes.
          c.sorted_lists_tell.ensures.back c.args.self.now c.args.other.now c.self.inside.by_ways.items c.other.inside.by_ways.items left right
          (sym c.as_slice.ensures.value ∙ c.same_items.ensures.0 yes ∙ c.as_slice-2.ensures.value),
      λ same.
          c.same_items.ensures.1
          (c.as_slice.ensures.value
          ∙ c.sorted_lists_tell.ensures.same c.args.self.now c.args.other.now c.self.inside.by_ways.items c.other.inside.by_ways.items left right same
          ∙ sym c.as_slice-2.ensures.value),
    )
