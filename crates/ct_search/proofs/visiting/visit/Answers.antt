use Rattle.std.proofs.Common.{◌≡◌, ◌<◌, ◌≤◌, ◌++◌, [], ◌∷◌, true, length, sym, ap, ◌∙◌, subst, arith}
use Rattle.std.proofs.lemmas.List.{length-map, map-append}
use Rattle.ct_search.specs.Search.{seen, all_seen, HasVisited}
use Rattle.ct_search.proofs.Further.{visited_same, visited_full, visited_new}
use Rattle.ct_search.proofs.visiting.visit.Goals as goal

pub returns-then-has_same-clause-visited : goal.returns-then-has_same-clause-visited
returns-then-has_same-clause-visited g c =
    let state = g.M.Machine.state in
    let m = g.M.Machine.meaning c.args.machine.now in
    let q = c.args.keeper.now in
    let old = c.args.met.now.cases.items in
    visited_same m c.args.most (all_seen state q old) (seen state q c.args.case) c.requires.keyed c.requires.key
    c.if-has_same.ensures.yes
    (omega (arith, c.requires.few, length-map old (seen state q)))

pub returns-then-len-most-clause-visited : goal.returns-then-len-most-clause-visited
returns-then-len-most-clause-visited g c =
    let state = g.M.Machine.state in
    let m = g.M.Machine.meaning c.args.machine.now in
    let q = c.args.keeper.now in
    let old = c.args.met.now.cases.items in
    let full : c.args.most ≤ length old = omega (arith, c.args.met.now.cases.ok.0) in
    visited_full m c.args.most (all_seen state q old) (seen state q c.args.case) c.requires.keyed c.requires.key
    c.if-has_same.ensures.no
    (omega (arith, c.requires.few, length-map old (seen state q)))
    (omega (arith, full, length-map old (seen state q)))

pub returns-clause-visited : goal.returns-clause-visited
returns-clause-visited g c =
    let state = g.M.Machine.state in
    let m = g.M.Machine.meaning c.args.machine.now in
    let q = c.args.keeper.now in
    let old = c.args.met.now.cases.items in
    let room : length old < c.args.most = omega (arith, c.args.met.now.cases.ok.0) in
    let whole : all_seen state q c.push.new.self.cases.items ≡ all_seen state q old ++ seen state q c.args.case ∷ [] =
    ap (all_seen state q) c.in_ok-push.ensures.pushed ∙ map-append (seen state q) old (c.args.case ∷ []) in
    subst (HasVisited m c.args.most (all_seen state q old) (seen state q c.args.case) true) (sym whole)
    (visited_new m c.args.most (all_seen state q old) (seen state q c.args.case) c.requires.keyed c.requires.key
    c.if-has_same.ensures.no
    ((g.met.M.Machine.lawful c.args.machine.now).reflexive (state q c.args.case.kept))
    (omega (arith, room, length-map old (seen state q))))
