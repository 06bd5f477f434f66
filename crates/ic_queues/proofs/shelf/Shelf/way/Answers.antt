use Rattle.std.proofs.Common.{◌≡◌, ◌+◌, ◌-◌, ℕ, sym, ap, ◌∙◌, arith, option_map}
use Rattle.std.specs.Map.{lookup}
use Rattle.ic_queues.specs.Lines.{is_number}
use Rattle.ic_queues.specs.Walking.{way_of}
use Rattle.ic_queues.specs.Shelved.{Shelved, entries_from}
use Rattle.ic_queues.proofs.Shelves.{before-first, found-at}
use Rattle.ic_queues.proofs.shelf.Shelf.way.Goals as goal

pub returns-then-number-self : goal.returns-then-number-self
returns-then-number-self c =
    ap (option_map way_of)
    (sym (before-first c.args.number c.self.inside.first c.self.inside.places.items c.if-number-self.true).0 ∙ ap (λ (s : Shelved). lookup (is_number c.args.number) s.entries) c.self.view_is)

pub returns : goal.returns
returns c =
    let first = c.self.inside.first in
    let place : first + (c.args.number - first) ≡ c.args.number = omega (arith, c.if-number-self.false) in
    c.way_at.ensures
    ∙ ap (option_map way_of)
    (sym (found-at (c.args.number - first) first c.self.inside.places.items) ∙ ap (λ (n : ℕ). lookup (is_number n) (entries_from first c.self.inside.places.items)) place
    ∙ ap (λ (s : Shelved). lookup (is_number c.args.number) s.entries) c.self.view_is)
