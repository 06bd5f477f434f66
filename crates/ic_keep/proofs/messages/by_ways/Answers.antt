use Rattle.std.proofs.Common.{◌≡◌, subst, rules}
use Rattle.std.specs.List.Sorted.{IsStableByKey}
use Rattle.std.proofs.lemmas.Fn.{always_returns_same}
use Rattle.ic_order.specs.Ways.{way_of}
use Rattle.ic_order.specs.Sorted.{way_order}
use Rattle.ic_keep.proofs.messages.by_ways.Goals as goal

pub returns : goal.returns
returns c =
    let computes = always_returns_same _ (λ a r. r ≡ way_of a.0.now) _ (λ a r q k. search rules) in
    record {
      rises = c.in_ok-sort_by_key.ensures.sorted way_of computes;
      stable = subst (λ l. IsStableByKey way_of way_order l c.sort_by_key.new.self.items) c.in_ok-sorted.ensures (c.sort_by_key.ensures.stable way_of computes);
    }
