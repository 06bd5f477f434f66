use Rattle.std.proofs.Common.{[], map, sym, ap, ◌∙◌}
use Rattle.std.proofs.lemmas.List.{map-id}
use Rattle.std.proofs.lemmas.Iterator.{YieldsList-from_zip}
use Rattle.std.proofs.lemmas.Iterator.Consumers.{YieldsList-at, YieldsList-from_rest, YieldsList-end}
use Rattle.std.proofs.lemmas.Iterator.Adapters.{YieldsList-from_vec}
use Rattle.ic_rounds.proofs.Deals.{slot_from, deals_all}
use Rattle.ic_rounds.proofs.dealt.all_dealt.Goals as goal

pub returns : goal.returns
returns c =
    let es = c.args.canisters.entries in
    let fs = c.args.firsts.items in
    let gives = c.zip-canister-items.ensures.second in
    let both = YieldsList-from_zip (YieldsList-at c.zip-canister-items.ensures.first (YieldsList-from_rest es c.into_iter.ensures.into_iter_gives.0)) (YieldsList-from_vec fs gives.0 (gives.1 ∙ c.args.firsts.ok.0)) in
    let road = YieldsList-at c.into_iter-canister-iterator.ensures.into_iter_gives both in
    let all = YieldsList-end road c.loop-canister.yielded c.loop-canister.canister-iterator c.loop-canister.yielded_by c.next.result c.next.new.self c.in-None.is c.next.ensures.steps in
    let none = c.new.ensures.empty in
    let slots = c.loop-canister.invariant.0 ∙ ap (map slot_from) (sym (map-id c.loop-canister.yielded) ∙ all.0) in
    (λ i. record { canisters = none i; slots = slots i }) ∙ sym (deals_all es fs [] c.requires.all)
