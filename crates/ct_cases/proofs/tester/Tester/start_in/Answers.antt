use Rattle.std.proofs.Common.{◌≡◌, refl, ◌∙◌}
use Rattle.ct_worlds.specs.declared.worlds.NamedWorld.{NamedWorld}
use Rattle.ct_cases.specs.declared.case.Tables.{Tables}
use Rattle.ct_cases.proofs.Starting.{grows_all, started_in}
use Rattle.ct_cases.proofs.tester.Tester.start_in.Goals as goal

pub returns-clause-grows : goal.returns-clause-grows
returns-clause-grows g c =
    let new : Tables = record { alloc = c.keep.new.self.alloc; keeper = c.keep.new.self.keeper; meanings = c.number.new.self } in
    grows_all c.args.self.now.setting c.args.tables.now c.world.new.self c.keep.new.self new c.args.case.now c.requires c.in_ok-world.ensures.grows
    c.in_ok-kept.ensures.grows c.in_ok-names-2.ensures.extends refl

pub returns-clause-started : goal.returns-clause-started
returns-clause-started g c =
    let new : Tables = record { alloc = c.keep.new.self.alloc; keeper = c.keep.new.self.keeper; meanings = c.number.new.self } in
    let start : NamedWorld = record { names = c.in_ok-names-2.names; kept = c.in_ok-kept.kept } in
    let same : c.deref.result.now ≡ c.in_ok-names.names = c.deref.ensures.value ∙ c.names-2.view_is in
    started_in c.args.self.now.setting c.args.tables.now c.world.new.self c.keep.new.self new c.args.case.now c.requires c.in_ok-world.ensures.grows
    c.in_ok-kept.ensures.grows c.in_ok-names-2.ensures.extends refl c.args.moves.now c.in_ok-world.world c.in_ok-world-2.field-0.world c.in_ok-names.names
    c.in_ok-world-2.field-0.accepted.items start c.in_ok-world-2.field-0.unsent c.in_ok-world.ensures.world c.in_ok-names.ensures (rw same at c.in_ok-world-2.ensures)
    c.in_ok-kept.ensures.state c.in_ok-names-2.ensures.known c.in_ok-names-2.ensures.meaning
