use Rattle.std.proofs.Common.{◌<◌, ◌-◌, length, sym, ap, ◌∙◌, arith, rules}
use Rattle.std.specs.Map.{lookup, remove_entry}
use Rattle.ic_queues.specs.Lines.{is_number}
use Rattle.ic_queues.specs.Shelved.{Shelved}
use Rattle.ic_queues.proofs.Shelves.{before-first, emptied-length, Taken, taken, one-of}
use Rattle.ic_queues.proofs.shelf.Shelf.take.Goals as goal

pub returns-then-number-self-clause-message : goal.returns-then-number-self-clause-message
returns-then-number-self-clause-message c =
    sym (before-first c.args.number c.self.inside.first c.self.inside.places.items c.if-number-self.true).0 ∙ ap (λ (s : Shelved). lookup (is_number c.args.number) s.entries) c.self.view_is

pub returns-then-number-self-clause-rest : goal.returns-then-number-self-clause-rest
returns-then-number-self-clause-rest c =
    let same = sym (before-first c.args.number c.self.inside.first c.self.inside.places.items c.if-number-self.true).1 in
    sym c.self.view_is ∙ (λ i. record { entries = same i; next = c.self.inside.next })
    ∙ ap (λ (s : Shelved). record { entries = remove_entry (is_number c.args.number) s.entries; next = s.next }) c.self.view_is

pub trim-requires : goal.trim-requires
trim-requires c =
    let small : c.self.inside.next < 18446744073709551616 = search rules in
    record { small = omega (arith, small, c.self.invariant.numbers, ap length c.empty-message.ensures.places, emptied-length (c.args.number - c.self.inside.first) c.self.inside.places.items) }

pub count_without-self-inside-requires : goal.count_without-self-inside-requires
count_without-self-inside-requires c =
    record { some = one-of (c.args.number - c.self.inside.first) c.self.inside.first c.self.inside.count c.self.inside.places.items c.empty-message.result c.self.invariant.counted c.empty-message.ensures.message }

ends : (c : goal.After-self-2-1) → Taken c.self.inside.first c.self.inside.next c.args.number c.self.inside.places.items c.empty-message.result c.trim.new.first c.trim.new.places.items c.count_without-self-inside.result c.full_without-self-inside.result
ends c =
    taken c.self.inside.first c.self.inside.next c.args.number (c.args.number - c.self.inside.first) c.self.inside.count c.self.inside.full c.self.inside.places.items c.empty-message.new.places.items c.empty-message.result
    c.trim.new.first c.trim.new.places.items c.count_without-self-inside.result c.full_without-self-inside.result c.self.invariant (omega (arith, c.if-number-self.false)) c.empty-message.ensures.places c.empty-message.ensures.message
    c.trim.ensures.entries c.trim.ensures.numbers c.trim.ensures.trimmed c.trim.ensures.places c.count_without-self-inside.ensures
    c.full_without-self-inside.ensures.first c.full_without-self-inside.ensures.later

pub invariant_of-self : goal.invariant_of-self
invariant_of-self c = (ends c).shelf

pub returns-clause-message : goal.returns-clause-message
returns-clause-message c = (ends c).message ∙ ap (λ (s : Shelved). lookup (is_number c.args.number) s.entries) c.self.view_is

pub returns-clause-rest : goal.returns-clause-rest
returns-clause-rest c =
    let rest = (ends c).entries in
    (λ i. record { entries = rest i; next = c.self.inside.next })
    ∙ ap (λ (s : Shelved). record { entries = remove_entry (is_number c.args.number) s.entries; next = s.next }) c.self.view_is
