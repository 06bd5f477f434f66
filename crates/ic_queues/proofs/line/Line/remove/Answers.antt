use Rattle.std.proofs.Common.{◌≡◌, ℕ, List, Result, ◌∙◌, ap, subst, sym, rules}
use Rattle.std.specs.List.{remove}
use Rattle.std.specs.List.Sorted.{IsBinarySearchResult, IsStrictlySortedBy}
use Rattle.std.specs.Ordering.{nat_cmp}
use Rattle.ic_queues.specs.Lines.{without_number}
use Rattle.ic_queues.proofs.Places.{removed-number, no-number}
use Rattle.ic_queues.proofs.line.Line.remove.Goals as goal

pub returns-in-Ok : goal.returns-in-Ok
returns-in-Ok c =
    let n = c.args.number in
    let ns = c.self.inside.numbers.items in
    let rising = subst (λ (l : List ℕ). IsStrictlySortedBy nat_cmp l) (sym c.self.view_is) c.requires.rising in
    let left : c.remove.new.self.items ≡ remove ns c.in-Ok.place = search rules in
    left ∙ removed-number n c.in-Ok.place ns rising (subst (λ (r : Result ℕ ℕ). IsBinarySearchResult (λ y. nat_cmp y n) ns r) c.in-Ok.is c.binary_search.ensures.position)
    ∙ ap (without_number n) c.self.view_is

pub returns-in_default : goal.returns-in_default
returns-in_default c =
    let n = c.args.number in
    let ns = c.self.inside.numbers.items in
    let rising = subst (λ (l : List ℕ). IsStrictlySortedBy nat_cmp l) (sym c.self.view_is) c.requires.rising in
    sym c.self.view_is ∙ no-number n c.in_default.field-0 ns rising (subst (λ (r : Result ℕ ℕ). IsBinarySearchResult (λ y. nat_cmp y n) ns r) c.in_default.is c.binary_search.ensures.position)
    ∙ ap (without_number n) c.self.view_is
