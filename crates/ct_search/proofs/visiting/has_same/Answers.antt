use Rattle.std.proofs.Common.{◌≡◌, ◌<◌, length, get_or, sym, ap, ◌∙◌, subst, arith, below_more}
use Rattle.std.specs.List.{Contains}
use Rattle.std.proofs.lemmas.List.{get_or_default}
use Rattle.ct_search.specs.declared.case.Case.{Case}
use Rattle.ct_search.specs.Visits.{AreOne}
use Rattle.ct_search.specs.Search.{seen}
use Rattle.ct_search.proofs.Lists.{any_of_map, none_of_map, all_of_map}
use Rattle.ct_search.proofs.Ranges.{listed_within, found_under}
use Rattle.ct_search.proofs.Keeping.{held_at}
use Rattle.ct_search.proofs.visiting.has_same.Goals as goal

pub index-requires : goal.index-requires
index-requires g c =
    let cases = c.args.met.now.cases.items in
    let list = c.under-place-items.result.now in
    let i = c.loop-place.place-index in
    let within : get_or list i 0 < length cases =
    listed_within c.args.met.now.index.places cases c.args.case.now.key c.requires.indexed list c.under-place-items.ensures i c.loop-place-test.true in
    omega (arith, within, c.args.met.now.cases.ok.0)

pub are_one-requires-clause-other_held : goal.are_one-requires-clause-other_held
are_one-requires-clause-other_held g c =
    let cases = c.args.met.now.cases.items in
    let k = get_or c.under-place-items.result.now c.loop-place.place-index 0 in
    let within : k < length cases = listed_within c.args.met.now.index.places cases c.args.case.now.key c.requires.indexed c.under-place-items.result.now c.under-place-items.ensures c.loop-place.place-index c.loop-place-test.true in
    subst (λ (x : Case _). g.M.Machine.Holds c.args.keeper.now x.kept) (sym c.index.ensures)
    (held_at g.M.Machine.Holds g.M.Machine.state c.args.keeper.now cases c.requires.all_held k c.index.result.now within)

pub are_one-requires-clause-other_key : goal.are_one-requires-clause-other_key
are_one-requires-clause-other_key g c =
    let state = g.M.Machine.state in
    let m = g.M.Machine.meaning c.args.machine.now in
    let q = c.args.keeper.now in
    let cases = c.args.met.now.cases.items in
    let k = get_or c.under-place-items.result.now c.loop-place.place-index 0 in
    let within : k < length cases = listed_within c.args.met.now.index.places cases c.args.case.now.key c.requires.indexed c.under-place-items.result.now c.under-place-items.ensures c.loop-place.place-index c.loop-place-test.true in
    subst (λ (x : Case _). x.key ≡ m.key (state q x.kept)) (sym c.index.ensures)
    (all_of_map (λ x. x.key ≡ m.key x.kept) (seen state q) cases c.requires.keyed k c.index.result.now within)

pub returns-then-are_one-clause-yes : goal.returns-then-are_one-clause-yes
returns-then-are_one-clause-yes g c =
    let state = g.M.Machine.state in
    let m = g.M.Machine.meaning c.args.machine.now in
    let q = c.args.keeper.now in
    let cases = c.args.met.now.cases.items in
    let k = get_or c.under-place-items.result.now c.loop-place.place-index 0 in
    let within : k < length cases = listed_within c.args.met.now.index.places cases c.args.case.now.key c.requires.indexed c.under-place-items.result.now c.under-place-items.ensures c.loop-place.place-index c.loop-place-test.true in
    any_of_map (AreOne m (seen state q c.args.case.now)) (seen state q) cases k c.index.result.now within
    (subst (λ x. AreOne m (seen state q c.args.case.now) (seen state q x)) c.index.ensures c.if-are_one.ensures.yes)

pub loop-place-preserved : goal.loop-place-preserved
loop-place-preserved g c =
    let state = g.M.Machine.state in
    let m = g.M.Machine.meaning c.args.machine.now in
    let q = c.args.keeper.now in
    let cases = c.args.met.now.cases.items in
    let list = c.under-place-items.result.now in
    let i = c.loop-place.place-index in
    let k = get_or list i 0 in
    let it = seen state q c.args.case.now in
    let within : k < length cases = listed_within c.args.met.now.index.places cases c.args.case.now.key c.requires.indexed c.under-place-items.result.now c.under-place-items.ensures c.loop-place.place-index c.loop-place-test.true in
    λ j e d lt.
    let here : get_or cases (get_or list i e) d ≡ c.index.result.now =
    ap (λ n. get_or cases n d) (get_or_default list i e 0 c.loop-place-test.true) ∙ get_or_default cases k d c.index.result.now within ∙ sym c.index.ensures in
    below_more (λ n. ¬ AreOne m it (seen state q (get_or cases (get_or list n e) d))) i (λ n less. c.loop-place.invariant n e d less)
    (subst (λ (x : Case _). ¬ AreOne m it (seen state q x)) (sym here) c.if-are_one.ensures.no) j lt

pub returns-clause-no : goal.returns-clause-no
returns-clause-no g c =
    let state = g.M.Machine.state in
    let m = g.M.Machine.meaning c.args.machine.now in
    let q = c.args.keeper.now in
    let cases = c.args.met.now.cases.items in
    let list = c.under-place-items.result.now in
    let it = seen state q c.args.case.now in
    let laws = g.met.M.Machine.lawful c.args.machine.now in
    none_of_map (AreOne m it) (seen state q) cases
    (λ k d lt one.
    let key : (get_or cases k d).key ≡ c.args.case.now.key =
    all_of_map (λ x. x.key ≡ m.key x.kept) (seen state q) cases c.requires.keyed k d lt ∙ sym (laws.keyed (state q c.args.case.now.kept) (state q (get_or cases k d).kept) one.1) ∙ sym c.requires.key in
    let there = subst (λ l. Contains l k) (sym c.under-place-items.ensures) (found_under c.args.met.now.index.places cases c.args.case.now.key c.requires.indexed k d lt key) in
    let below : there.0 < length list = there.1 in
    c.loop-place.invariant there.0 k d (omega (arith, below, c.loop-place-test.false)) (subst (λ n. AreOne m it (seen state q (get_or cases n d))) (sym there.2) one))
