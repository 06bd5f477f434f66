use Rattle.std.proofs.Common.{◌≡◌, ℕ, ◌<◌, Bool, true, false, length, Ok, sym, ap, ap₂, ◌∙◌, subst, rules}
use Rattle.ic_behaviour.specs.State.{State}
use Rattle.ic_behaviour.specs.Submitted.{submitted}
use Rattle.ic_asking.specs.Asking as asking
use Rattle.ic_output.specs.Texts.{accepted_text, call_refused_text}
use Rattle.ic_script_runner.specs.Acts.{Acts}
use Rattle.ic_script_runner.proofs.Asked.{given_back, call_accepted, call_refused}
use Rattle.ic_script_runner.proofs.doing.submit.Goals as goal

pub seal-world-requires : goal.seal-world-requires
seal-world-requires c =
    let q = c.open-rest.result.1 in
    let is = c.open-rest.ensures.keeps in
    let asked = c.accepts_beside-is_accepted.ensures in
    given_back c.open-rest.result.0 c.accepts_beside-is_accepted.new.parts q is (asked.same q.messages) (asked.keeps q.messages is.keeps) asked.messages

pub accept-requires : goal.accept-requires
accept-requires c =
    let q = c.open-rest.result.1 in
    let world : c.seal-world.result ≡ c.args.world = c.seal-world.ensures ∙ c.accepts_beside-is_accepted.ensures.same q.messages ∙ c.open-rest.ensures.state in
    let few : c.len.result < 1048576 = search rules in
    subst (λ (n : ℕ). n < 1048576) (c.len.ensures ∙ ap (λ (s : State). length s.requests) (c.rest.ensures.state ∙ sym world)) few

pub returns-then-branch : goal.returns-then-branch
returns-then-branch c =
    let q = c.open-rest.result.1 in
    let options = c.args.options.now in
    let charge = c.charge.result in
    let ask = c.args.ask in
    let world : c.seal-world.result ≡ c.args.world = c.seal-world.ensures ∙ c.accepts_beside-is_accepted.ensures.same q.messages ∙ c.open-rest.ensures.state in
    let few : c.len.result < 1048576 = search rules in
    let calls = subst (λ (n : ℕ). n < 1048576) (c.len.ensures ∙ ap (λ (s : State). length s.requests) c.rest.ensures.state) few in
    let is : c.in_ok-is_accepted.field-0 ≡ asking.accepts_now options.limit options.price c.args.world ask =
    c.in_ok-is_accepted.ensures.accepted q.messages c.open-rest.ensures.keeps.keeps
    ∙ ap (λ (s : State). asking.accepts_now charge.limit charge.price s ask) c.open-rest.ensures.state
    ∙ ap₂ (λ (limit price : ℕ). asking.accepts_now limit price c.args.world ask) c.charge.ensures.limit c.charge.ensures.price in
    let P = λ (s : State). Acts (Ok (submitted s ask.sender ask.callee ask.method ask.arg, accepted_text (length s.requests))) c.accept.result in
    subst (λ said. Acts said c.accept.result) (sym (call_accepted options c.args.world ask calls (sym is ∙ c.if-branch.true))) (subst P world c.accept.ensures)

pub returns-else-branch : goal.returns-else-branch
returns-else-branch c =
    let q = c.open-rest.result.1 in
    let options = c.args.options.now in
    let charge = c.charge.result in
    let ask = c.args.ask in
    let world : c.seal-world.result ≡ c.args.world = c.seal-world.ensures ∙ c.accepts_beside-is_accepted.ensures.same q.messages ∙ c.open-rest.ensures.state in
    let few : c.len.result < 1048576 = search rules in
    let calls = subst (λ (n : ℕ). n < 1048576) (c.len.ensures ∙ ap (λ (s : State). length s.requests) c.rest.ensures.state) few in
    let is : c.in_ok-is_accepted.field-0 ≡ asking.accepts_now options.limit options.price c.args.world ask =
    c.in_ok-is_accepted.ensures.accepted q.messages c.open-rest.ensures.keeps.keeps
    ∙ ap (λ (s : State). asking.accepts_now charge.limit charge.price s ask) c.open-rest.ensures.state
    ∙ ap₂ (λ (limit price : ℕ). asking.accepts_now limit price c.args.world ask) c.charge.ensures.limit c.charge.ensures.price in
    let P = λ (s : State). Acts (Ok (s, call_refused_text)) c.refuse.result in
    subst (λ said. Acts said c.refuse.result) (sym (call_refused options c.args.world ask calls (sym is ∙ c.if-branch.false))) (subst P world c.refuse.ensures)
