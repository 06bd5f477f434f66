use Rattle.std.proofs.Common.{[], ◌∷◌, map, length, Some, sym, ap, ◌∙◌, subst, arith}
use Rattle.atomic_table.specs.Table.{opening}
use Rattle.ic_tickets.specs.Rule.{Kept, newcomer}
use Rattle.ic_tickets.proofs.Steps.{begins}
use Rattle.ic_tickets.proofs.calls.board.Goals as goal

pub new-requires : goal.new-requires
new-requires g c =
    let items = c.of.result.value.items in
    subst (λ xs. Kept items c.args.workers (opening (0 ∷ []) xs (newcomer items c.args.workers))) (sym (c.in_ok-slots.ensures ∙ ap (λ v. map Some v.items) (sym c.of.ensures)))
    (begins items c.args.workers c.requires.workers (omega (arith, c.requires.items, c.args.items.ok.0, ap (λ v. length v.items) c.of.ensures)))
