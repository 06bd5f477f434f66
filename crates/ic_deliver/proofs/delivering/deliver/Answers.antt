use Rattle.std.proofs.Common.{◌≡◌, Some, None, sym, ap, ◌∙◌, arith, rules}
use Rattle.std.proofs.lemmas.Result.{on_ok_weaker}
use Rattle.ic_behaviour.specs.Closing.{Handled}
use Rattle.ic_deliver.specs.Delivered.{refused_in}
use Rattle.ic_deliver.proofs.Deliveries.{has_handled}
use Rattle.ic_deliver.proofs.delivering.deliver.Goals as goal

pub give-requires : goal.give-requires
give-requires c = record { ready = (c.requires.ready c.in-Some.place.now (sym c.in-Some.ensures.value)).handles }

pub settle-requires : goal.settle-requires
settle-requires c =
    let takes = c.requires.ready c.in-Some.place.now (sym c.in-Some.ensures.value) in
    record { room = omega (arith, takes.room, ap (λ (h : Handled). h.burned) c.in_ok-done-in-Some.ensures.done) }

pub returns-in_ok-done-in-Some-clause-handled : goal.returns-in_ok-done-in-Some-clause-handled
returns-in_ok-done-in-Some-clause-handled c =
    let p = c.args.parts.now in
    let d = c.give.new.place in
    on_ok_weaker c.settle.result (λ sent. has_handled c.args.env c.args.callee.now c.args.message p c.settle.new.parts (c.get_mut.follows.lender d) c.in-Some.place.now d c.in_ok-done-in-Some.done
    (sym c.in-Some.ensures.value) (c.get_mut.follows.holds d).0 c.in_ok-done-in-Some.ensures.done c.give.ensures.keeps sent) c.settle.ensures.sent

pub returns-in_ok-done-in-Some-clause-refused : goal.returns-in_ok-done-in-Some-clause-refused
returns-in_ok-done-in-Some-clause-refused c =
    on_ok_weaker c.settle.result (λ sent none. let both : Some c.in-Some.place.now ≡ None = c.in-Some.ensures.value ∙ none in cc) c.settle.ensures.sent

pub returns-in-None-clause-handled : goal.returns-in-None-clause-handled
returns-in-None-clause-handled c =
    on_ok_weaker c.refuse.result (λ is b found. let both : None ≡ Some b = c.in-None.ensures.value ∙ found in cc) c.refuse.ensures

pub returns-in-None-clause-refused : goal.returns-in-None-clause-refused
returns-in-None-clause-refused c =
    let p = c.args.parts.now in
    let same : c.get_mut.follows.lender-at-none ≡ p.canisters = search rules in
    on_ok_weaker c.refuse.result (λ is none. is ∙ ap (λ m. refused_in c.args.callee.now c.args.message (record p { canisters = m })) same) c.refuse.ensures
