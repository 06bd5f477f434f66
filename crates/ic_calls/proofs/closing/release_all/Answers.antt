use Rattle.std.proofs.Common.{◌≡◌, ap, sym, subst, ◌∙◌, ◌++◌, map, append-nil, OnOk}
use Rattle.std.specs.List.{filter}
use Rattle.ic_behaviour.specs.declared.phase.Phase.TheVariants.{Stopping}
use Rattle.ic_behaviour.specs.Closing.{is_open, released, releases}
use Rattle.ic_calls.proofs.Opens.{none_open, some_open}
use Rattle.ic_calls.proofs.closing.release_all.Goals as goal

pub returns-then-has_open : goal.returns-then-has_open
returns-then-has_open c =
    let xs = c.args.contexts.now in
    sym (ap (λ l. c.args.answers.now ++ l) (ap (λ p. releases p (filter is_open xs)) c.in-Stopping.is ∙ some_open c.in-Stopping.waiters xs (sym c.has_open.ensures ∙ c.if-has_open.true)) ∙ append-nil _)

pub returns : goal.returns
returns c =
    let xs = c.args.contexts.now in
    subst (λ l. OnOk c.release.result (c.release.new.answers ≡ c.args.answers.now ++ l))
    (ap (map released) (c.as_slice.ensures.value ∙ c.waiters.view_is)
    ∙ sym (ap (λ p. releases p (filter is_open xs)) c.in-Stopping.is ∙ ap (releases (Stopping c.in-Stopping.waiters)) (none_open xs (sym c.has_open.ensures ∙ c.if-has_open.false)))) c.release.ensures
