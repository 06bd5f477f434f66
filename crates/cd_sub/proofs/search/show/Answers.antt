use Rattle.std.proofs.Common.{◌<◌, Some, length, sym, ◌∙◌, ap, subst, arith}
use Rattle.std.specs.List.{AllByRecursion}
use Rattle.cd_sub.specs.Parts.{verdict}
use Rattle.cd_sub.proofs.SearchLemmas.{inside_noted, no_rule, on_ok, parts_in, right_noted, then_ok, tried_of}
use Rattle.cd_sub.proofs.search.show.Goals as goal

pub returns-then-not-branch-clause-tried : goal.returns-then-not-branch-clause-tried
returns-then-not-branch-clause-tried c =
    no_rule c.args.first.now c.args.second.now c.args.place c.find_parts.new.found.items (omega (arith, c.requires.room))
    (ap (λ b. verdict b c.find_parts.new.found.items) (sym c.if-not-branch.true) ∙ c.in_ok-find_parts.ensures)

pub note-requires : goal.note-requires
note-requires c =
    let parts = c.find_parts.new.found.items in
    let is = sym c.in_ok-find_parts.ensures ∙ ap (λ b. verdict b parts) c.if-not-branch.false in
    subst (AllByRecursion (λ part. part < length c.args.marks.now)) (sym c.deref.ensures.value)
    (parts_in c.args.first.now c.args.second.now (length c.args.marks.now) c.args.place parts c.requires.room is)

pub returns-clause-right : goal.returns-clause-right
returns-clause-right c =
    then_ok _ _ c.note.result c.note.ensures.notes
    (λ notes. right_noted c.args.first.now c.args.second.now c.args.marks.now c.note.new.marks c.args.met.now.items c.note.new.met.items c.deref.result.now c.requires.right notes)

pub returns-clause-inside : goal.returns-clause-inside
returns-clause-inside c =
    let parts = c.find_parts.new.found.items in
    let is = sym c.in_ok-find_parts.ensures ∙ ap (λ b. verdict b parts) c.if-not-branch.false in
    let inside = subst (AllByRecursion (λ part. part < length c.args.marks.now)) (sym c.deref.ensures.value)
    (parts_in c.args.first.now c.args.second.now (length c.args.marks.now) c.args.place parts c.requires.room is) in
    then_ok _ _ c.note.result c.note.ensures.notes
    (λ notes. inside_noted (λ place. place < length c.args.marks.now) c.args.marks.now c.note.new.marks c.args.met.now.items c.note.new.met.items c.deref.result.now notes c.requires.inside inside)

pub returns-clause-tried : goal.returns-clause-tried
returns-clause-tried c =
    let parts = c.find_parts.new.found.items in
    let is = sym c.in_ok-find_parts.ensures ∙ ap (λ b. verdict b parts) c.if-not-branch.false ∙ ap Some (sym c.deref.ensures.value) in
    on_ok _ _ _ c.note.result c.note.ensures.notes c.note.ensures.noted
    (tried_of c.args.first.now c.args.second.now c.args.marks.now c.note.new.marks c.args.met.now.items c.note.new.met.items c.deref.result.now c.args.place c.requires.right (omega (arith, c.requires.room)) is)
