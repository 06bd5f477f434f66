use Rattle.std.proofs.Common.{List, map, sym, subst}
use Rattle.ct_worlds.specs.Worlds.{named_at}
use Rattle.ct_cases.specs.Meanings.{Meaning}
use Rattle.ct_cases.specs.Cases.{AreBegun, all_reached}
use Rattle.ct_cases.proofs.Stays.{grows_further}
use Rattle.ct_cases.proofs.Reaching.{met_behind}
use Rattle.ct_cases.proofs.Ending.{interleaved}
use Rattle.ct_cases.proofs.tester.Tester.explored.Goals as goal

pub judge-requires-after_bounds : goal.judge-requires-after_bounds
judge-requires-after_bounds g c κs known =
    let old = c.args.tables.now in
    let t = c.search.new.tables in
    let starts = map (named_at old.keeper) c.args.starts.items in
    let begun =
    subst (λ (ms : List Meaning). AreBegun c.args.self.now.setting c.args.moves.now ms (all_reached old c.args.cases.now) starts) (sym c.in_ok-met.ensures.meanings) c.requires.begun in
    met_behind c.args.self.now.setting c.args.moves.now old t c.args.cases.now starts begun c.in_ok-met.field-0.cases.items c.in_ok-met.ensures.held c.in_ok-met.ensures.sound

pub returns-clause-grows : goal.returns-clause-grows
returns-clause-grows g c = grows_further c.args.tables.now c.search.new.tables c.judge.new.tables c.in_ok-met.ensures.grows c.in_ok-ends.ensures.grows

pub returns-clause-interleaved : goal.returns-clause-interleaved
returns-clause-interleaved g c =
    let old = c.args.tables.now in
    interleaved c.args.self.now.setting c.args.self.now.most c.args.moves.now c.args.cases.now c.one_meeting.ensures old c.search.new.tables c.judge.new.tables old.meanings c.in_ok-met.ensures.meanings
    (map (named_at old.keeper) c.args.starts.items) c.in_ok-met.field-0.cases.items c.in_ok-ends.field-0.ends.items c.requires.begun c.are_apart.ensures c.in_ok-met.ensures.sound
    c.in_ok-ends.field-0.failing c.in_ok-met.field-0.all c.in_ok-ends.ensures.found c.in_ok-met.ensures.complete c.in_ok-met.ensures.more
