use Rattle.std.proofs.Common.{◌≡◌, ◌+◌, ◌++◌, [], ◌∷◌, suc, get_or, take, sym, ap, ◌∙◌, subst, arith}
use Rattle.std.proofs.Math.Seq.{take-suc}
use Rattle.std.proofs.lemmas.List.{take_all}
use Rattle.ct_search.specs.Search.{all_seen, HaveMoves}
use Rattle.ct_search.proofs.Keeping.{FoundSoFar, found_more}
use Rattle.ct_search.proofs.moving.cases_after.Goals as goal

pub loop-place-preserved : goal.loop-place-preserved
loop-place-preserved g c =
    let Holds = g.M.Machine.Holds in
    let state = g.M.Machine.state in
    let m = g.M.Machine.meaning c.args.machine.now in
    let places = c.deref-place-items.result.now in
    let i = c.loop-place.place-index in
    let first = c.args.keeper.now in
    let new = c.case_after.new.keeper in
    let more =
    found_more Holds state m first c.loop-place.keeper new c.args.case.now c.in_ok-case_after.field-0 (get_or places i 0) (take i places) c.loop-place.found.items
    c.requires c.loop-place.invariant c.case_after.ensures.stays c.in_ok-case_after.ensures.held c.in_ok-case_after.ensures.after in
    let whole : take i places ++ get_or places i 0 ∷ [] ≡ take (i + 1) places =
    sym (take-suc places i 0 c.loop-place-test.true) ∙ ap (λ n. take n places) (let next : suc i ≡ i + 1 = omega arith in next) in
    subst (λ ps. FoundSoFar Holds state m first new c.args.case.now ps c.push.new.self.items) whole
    (subst (FoundSoFar Holds state m first new c.args.case.now (take i places ++ get_or places i 0 ∷ [])) (sym c.in_ok-push.ensures.items) more)

pub returns-clause-moves : goal.returns-clause-moves
returns-clause-moves g c =
    let state = g.M.Machine.state in
    let m = g.M.Machine.meaning c.args.machine.now in
    let places = c.deref-place-items.result.now in
    let all = take_all c.loop-place.place-index places c.loop-place-test.false ∙ c.deref-place-items.ensures.value ∙ c.in_ok-places.ensures in
    subst (λ ps. HaveMoves m (state c.args.keeper.now c.args.case.now.kept) ps (all_seen state c.loop-place.keeper c.loop-place.found.items)) all c.loop-place.invariant.moves
