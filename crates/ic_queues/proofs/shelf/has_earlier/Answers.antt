use Rattle.std.proofs.Common.{◌≡◌, ◌+◌, ℕ, suc, false, take, sym, ◌∙◌, subst, arith}
use Rattle.std.specs.List.{list_any}
use Rattle.ic_behaviour.specs.Steps.{same_way}
use Rattle.ic_queues.specs.Shelved.{messages_of}
use Rattle.ic_queues.proofs.Places.{earlier-found, earlier-none}
use Rattle.ic_queues.proofs.shelf.has_earlier.Goals as goal

pub returns-then-has_way : goal.returns-then-has_way
returns-then-has_way c =
    earlier-found c.loop-other.other c.args.index c.args.places.now.items c.index.result.now c.args.message.now c.loop-other-test.true c.requires c.index.ensures (sym c.has_way.ensures ∙ c.if-has_way.true)

pub loop-other-preserved : goal.loop-other-preserved
loop-other-preserved c =
    subst (λ (k : ℕ). list_any (same_way c.args.message.now) (messages_of (take k c.args.places.now.items)) ≡ false) (let next : suc c.loop-other.other ≡ c.loop-other.other + 1 = omega arith in next)
    (earlier-none c.loop-other.other c.args.places.now.items c.index.result.now c.args.message.now (omega (arith, c.loop-other-test.true, c.requires)) c.index.ensures (sym c.has_way.ensures ∙ c.if-has_way.false) c.loop-other.invariant)
