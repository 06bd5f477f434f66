use Rattle.std.proofs.Common.{◌<◌, Some, true, length, sym, ◌∙◌, ap, subst, arith}
use Rattle.std.specs.List.{AllByRecursion}
use Rattle.cd_sub.specs.Parts.{verdict}
use Rattle.cd_sub.proofs.SearchLemmas.{no_rule, part_fails, parts_in, some_failed}
use Rattle.cd_sub.proofs.search.settled.Goals as goal

pub returns-then-not-branch : goal.returns-then-not-branch
returns-then-not-branch c =
    no_rule c.args.first.now c.args.second.now c.args.place c.find_parts.new.found.items (omega (arith, c.requires.room))
    (ap (λ b. verdict b c.find_parts.new.found.items) (sym c.if-not-branch.true) ∙ c.in_ok-find_parts.ensures)

pub has_failed-requires : goal.has_failed-requires
has_failed-requires c =
    let parts = c.find_parts.new.found.items in
    let is = sym c.in_ok-find_parts.ensures ∙ ap (λ b. verdict b parts) c.if-not-branch.false in
    subst (AllByRecursion (λ part. part < length c.args.marks.now)) (sym c.deref.ensures.value)
    (parts_in c.args.first.now c.args.second.now (length c.args.marks.now) c.args.place parts c.requires.room is)

pub returns-then-has_failed : goal.returns-then-has_failed
returns-then-has_failed c =
    let parts = c.deref.result.now in
    let is = sym c.in_ok-find_parts.ensures ∙ ap (λ b. verdict b c.find_parts.new.found.items) c.if-not-branch.false ∙ ap Some (sym c.deref.ensures.value) in
    let failed = some_failed c.args.marks.now parts (sym c.has_failed.ensures ∙ c.if-has_failed.true) in
    part_fails c.args.first.now c.args.second.now c.args.marks.now c.args.place failed.0 parts true c.requires.fails (omega (arith, c.requires.room)) (sym is) failed.1 failed.2
