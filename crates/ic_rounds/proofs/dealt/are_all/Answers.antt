use Rattle.std.proofs.Common.{rules, tests, sym, ◌∙◌}
use Rattle.std.specs.Prelude.{nat_eq}
use Rattle.std.specs.Cmp.Lexicographic.{pointwise}
use Rattle.std.specs.Map.{keys_of}
use Rattle.std.proofs.lemmas.Iterator.{YieldsList-from_slice, YieldsList-from_zip}
use Rattle.std.proofs.lemmas.Iterator.Consumers.{YieldsList-at, YieldsList-from_rest}
use Rattle.std.proofs.lemmas.Iterator.Search.{all_from_yields_List}
use Rattle.ic_rounds.proofs.Deals.{same_keys}
use Rattle.ic_rounds.proofs.dealt.are_all.Goals as goal

pub returns-then-len-firsts : goal.returns-then-len-firsts
returns-then-len-firsts c = λ all.
    let es = c.args.canisters.now.entries in
    let fs = c.args.firsts.now in
    let road = YieldsList-from_zip (YieldsList-at c.zip.ensures.first (YieldsList-from_rest (keys_of es) c.keys.ensures.rest)) (YieldsList-from_slice fs cc) in
    let each = all_from_yields_List (λ p. pointwise nat_eq p.0 p.1.0) c.all.new.self _ c.all.result c.all.ensures.ran road (λ x b q k. search (rules, tests)) in
    same_keys es fs (sym c.len.ensures.len ∙ c.if-len-firsts.true) (sym each ∙ all)
