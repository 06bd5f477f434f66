use Rattle.std.proofs.Common.{sym, subst}
use Rattle.ic_behaviour.specs.declared.call.Message.{Message}
use Rattle.ic_deliver.specs.Giving.{CanTake}
use Rattle.ic_deliver.specs.Delivered.{HasHandled}
use Rattle.ic_rounds.proofs.InPlaces.{takes, gone, gone_keep}
use Rattle.ic_rounds.proofs.in_place.deliver_first.Goals as goal

pub deliver-requires : goal.deliver-requires
deliver-requires c =
    let p = c.args.parts.now in
    record { ready = λ canister found. subst (λ (m : Message). CanTake c.args.env p.burned canister m) (sym c.take.ensures) (takes c.args.env p p c.args.key.now c.args.message c.requires.next canister found) }

pub returns-clause-handled : goal.returns-clause-handled
returns-clause-handled c =
    let p = c.args.parts.now in
    let q = c.deliver.new.parts in
    let n = c.requires.next in
    gone c.args.env p q c.args.key.now c.args.message n
    (subst (λ (m : Message). HasHandled c.args.env c.args.key.now n.canister m p q) c.take.ensures (c.in_ok-deliver.ensures.handled n.canister n.there))

pub returns-clause-keep : goal.returns-clause-keep
returns-clause-keep c =
    let p = c.args.parts.now in
    let q = c.deliver.new.parts in
    let n = c.requires.next in
    gone_keep c.args.env p q c.args.key.now c.args.message n
    (subst (λ (m : Message). HasHandled c.args.env c.args.key.now n.canister m p q) c.take.ensures (c.in_ok-deliver.ensures.handled n.canister n.there)) c.requires.keep
