use Rattle.std.proofs.Common.{◌<◌, length, get_or, sym, ap, ◌∙◌, subst, arith}
use Rattle.ct_search.specs.declared.case.Case.{Case}
use Rattle.ct_search.specs.Meaning.{May}
use Rattle.ct_search.specs.Search.{all_seen, AreKeyed}
use Rattle.ct_search.proofs.Keeping.{all_seen_stay, held_at, held_stay}
use Rattle.ct_search.proofs.Downward.{down_none, down_more, last_within, last_may}
use Rattle.ct_search.proofs.diving.find_new.Goals as goal

pub loop-case-init : goal.loop-case-init
loop-case-init g c = (
  down_none g.M.Machine.Holds g.M.Machine.state (g.M.Machine.meaning c.args.machine.now) c.args.most c.args.keeper.now c.args.met.now.cases.items c.requires.held c.requires.keyed c.requires.few,
  c.requires.moves,
  c.requires.indexed,
)

pub index-requires : goal.index-requires
index-requires g c =
    let within : c.in-Some.case < length c.loop-case.met.cases.items = last_within g.M.Machine.Holds g.M.Machine.state (g.M.Machine.meaning c.args.machine.now) c.args.most c.loop-case.keeper c.loop-case.met.cases.items c.loop-case.moves.items c.pop.new.self.items c.in-Some.case c.in-Some.place c.loop-case.invariant.1 c.in-Some.ensures.items in
    omega (arith, within, c.loop-case.met.cases.ok.0)

pub case_after-requires-clause-held : goal.case_after-requires-clause-held
case_after-requires-clause-held g c =
    let within : c.in-Some.case < length c.loop-case.met.cases.items = last_within g.M.Machine.Holds g.M.Machine.state (g.M.Machine.meaning c.args.machine.now) c.args.most c.loop-case.keeper c.loop-case.met.cases.items c.loop-case.moves.items c.pop.new.self.items c.in-Some.case c.in-Some.place c.loop-case.invariant.1 c.in-Some.ensures.items in
    subst (λ (x : Case _). g.M.Machine.Holds c.loop-case.keeper x.kept) (sym c.index.ensures)
    (held_at g.M.Machine.Holds g.M.Machine.state c.loop-case.keeper c.loop-case.met.cases.items c.loop-case.invariant.0.held c.in-Some.case c.index.result.now within)

pub case_after-requires-clause-may : goal.case_after-requires-clause-may
case_after-requires-clause-may g c =
    subst (λ (x : Case _). May (g.M.Machine.meaning c.args.machine.now) (g.M.Machine.state c.loop-case.keeper x.kept) c.in-Some.place) (sym c.index.ensures)
    (last_may g.M.Machine.Holds g.M.Machine.state (g.M.Machine.meaning c.args.machine.now) c.args.most c.loop-case.keeper c.loop-case.met.cases.items c.loop-case.moves.items c.pop.new.self.items c.in-Some.case c.in-Some.place c.loop-case.invariant.1 c.in-Some.ensures.items c.index.result.now)

pub visit-requires-clause-all_held : goal.visit-requires-clause-all_held
visit-requires-clause-all_held g c =
    held_stay g.M.Machine.Holds g.M.Machine.state c.loop-case.keeper c.case_after.new.keeper c.case_after.ensures.stays c.loop-case.met.cases.items c.loop-case.invariant.0.held

pub visit-requires-clause-keyed : goal.visit-requires-clause-keyed
visit-requires-clause-keyed g c =
    subst (AreKeyed (g.M.Machine.meaning c.args.machine.now))
    (sym (all_seen_stay g.M.Machine.Holds g.M.Machine.state c.loop-case.keeper c.case_after.new.keeper c.case_after.ensures.stays c.loop-case.met.cases.items c.loop-case.invariant.0.held))
    c.loop-case.invariant.0.keyed

pub returns-then-not-branch-clause-down : goal.returns-then-not-branch-clause-down
returns-then-not-branch-clause-down g c =
    let within : c.in-Some.case < length c.loop-case.met.cases.items = last_within g.M.Machine.Holds g.M.Machine.state (g.M.Machine.meaning c.args.machine.now) c.args.most c.loop-case.keeper c.loop-case.met.cases.items c.loop-case.moves.items c.pop.new.self.items c.in-Some.case c.in-Some.place c.loop-case.invariant.1 c.in-Some.ensures.items in
    let more =
    down_more g.M.Machine.Holds g.M.Machine.state (g.M.Machine.meaning c.args.machine.now) c.args.most c.args.keeper.now c.loop-case.keeper c.case_after.new.keeper c.args.met.now.cases.items c.loop-case.met.cases.items c.visit.new.met.cases.items
    c.loop-case.moves.items c.pop.new.self.items c.in-Some.case c.in-Some.place c.index.result.now c.in_ok-after.after c.in_ok-visit.field-0 c.loop-case.invariant.0 c.loop-case.invariant.1 c.in-Some.ensures.items within c.index.ensures
    c.case_after.ensures.stays c.in_ok-after.ensures.after c.in_ok-visit.ensures.visited c.in_ok-visit.ensures.held in
    more.0

pub returns-then-not-branch-clause-moves : goal.returns-then-not-branch-clause-moves
returns-then-not-branch-clause-moves g c =
    let within : c.in-Some.case < length c.loop-case.met.cases.items = last_within g.M.Machine.Holds g.M.Machine.state (g.M.Machine.meaning c.args.machine.now) c.args.most c.loop-case.keeper c.loop-case.met.cases.items c.loop-case.moves.items c.pop.new.self.items c.in-Some.case c.in-Some.place c.loop-case.invariant.1 c.in-Some.ensures.items in
    let more =
    down_more g.M.Machine.Holds g.M.Machine.state (g.M.Machine.meaning c.args.machine.now) c.args.most c.args.keeper.now c.loop-case.keeper c.case_after.new.keeper c.args.met.now.cases.items c.loop-case.met.cases.items c.visit.new.met.cases.items
    c.loop-case.moves.items c.pop.new.self.items c.in-Some.case c.in-Some.place c.index.result.now c.in_ok-after.after c.in_ok-visit.field-0 c.loop-case.invariant.0 c.loop-case.invariant.1 c.in-Some.ensures.items within c.index.ensures
    c.case_after.ensures.stays c.in_ok-after.ensures.after c.in_ok-visit.ensures.visited c.in_ok-visit.ensures.held in
    more.1

pub returns-then-len-count-clause-down : goal.returns-then-len-count-clause-down
returns-then-len-count-clause-down g c =
    let within : c.in-Some.case < length c.loop-case.met.cases.items = last_within g.M.Machine.Holds g.M.Machine.state (g.M.Machine.meaning c.args.machine.now) c.args.most c.loop-case.keeper c.loop-case.met.cases.items c.loop-case.moves.items c.pop.new.self.items c.in-Some.case c.in-Some.place c.loop-case.invariant.1 c.in-Some.ensures.items in
    let more =
    down_more g.M.Machine.Holds g.M.Machine.state (g.M.Machine.meaning c.args.machine.now) c.args.most c.args.keeper.now c.loop-case.keeper c.case_after.new.keeper c.args.met.now.cases.items c.loop-case.met.cases.items c.visit.new.met.cases.items
    c.loop-case.moves.items c.pop.new.self.items c.in-Some.case c.in-Some.place c.index.result.now c.in_ok-after.after c.in_ok-visit.field-0 c.loop-case.invariant.0 c.loop-case.invariant.1 c.in-Some.ensures.items within c.index.ensures
    c.case_after.ensures.stays c.in_ok-after.ensures.after c.in_ok-visit.ensures.visited c.in_ok-visit.ensures.held in
    more.0

pub returns-then-len-count-clause-moves : goal.returns-then-len-count-clause-moves
returns-then-len-count-clause-moves g c =
    let within : c.in-Some.case < length c.loop-case.met.cases.items = last_within g.M.Machine.Holds g.M.Machine.state (g.M.Machine.meaning c.args.machine.now) c.args.most c.loop-case.keeper c.loop-case.met.cases.items c.loop-case.moves.items c.pop.new.self.items c.in-Some.case c.in-Some.place c.loop-case.invariant.1 c.in-Some.ensures.items in
    let more =
    down_more g.M.Machine.Holds g.M.Machine.state (g.M.Machine.meaning c.args.machine.now) c.args.most c.args.keeper.now c.loop-case.keeper c.case_after.new.keeper c.args.met.now.cases.items c.loop-case.met.cases.items c.visit.new.met.cases.items
    c.loop-case.moves.items c.pop.new.self.items c.in-Some.case c.in-Some.place c.index.result.now c.in_ok-after.after c.in_ok-visit.field-0 c.loop-case.invariant.0 c.loop-case.invariant.1 c.in-Some.ensures.items within c.index.ensures
    c.case_after.ensures.stays c.in_ok-after.ensures.after c.in_ok-visit.ensures.visited c.in_ok-visit.ensures.held in
    more.1

pub loop-case-preserved : goal.loop-case-preserved
loop-case-preserved g c =
    let within : c.in-Some.case < length c.loop-case.met.cases.items = last_within g.M.Machine.Holds g.M.Machine.state (g.M.Machine.meaning c.args.machine.now) c.args.most c.loop-case.keeper c.loop-case.met.cases.items c.loop-case.moves.items c.pop.new.self.items c.in-Some.case c.in-Some.place c.loop-case.invariant.1 c.in-Some.ensures.items in
    let more =
    down_more g.M.Machine.Holds g.M.Machine.state (g.M.Machine.meaning c.args.machine.now) c.args.most c.args.keeper.now c.loop-case.keeper c.case_after.new.keeper c.args.met.now.cases.items c.loop-case.met.cases.items c.visit.new.met.cases.items
    c.loop-case.moves.items c.pop.new.self.items c.in-Some.case c.in-Some.place c.index.result.now c.in_ok-after.after c.in_ok-visit.field-0 c.loop-case.invariant.0 c.loop-case.invariant.1 c.in-Some.ensures.items within c.index.ensures
    c.case_after.ensures.stays c.in_ok-after.ensures.after c.in_ok-visit.ensures.visited c.in_ok-visit.ensures.held in
    (more.0, more.1, c.in_ok-visit.ensures.indexed)
