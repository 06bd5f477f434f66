use Rattle.std.proofs.Common.{rules, tests, sym, ◌∙◌}
use Rattle.std.specs.Prelude.{nat_eq}
use Rattle.std.specs.Cmp.Lexicographic.{pointwise}
use Rattle.std.specs.Map.{keys_of}
use Rattle.std.proofs.lemmas.Iterator.{YieldsList-from_zip}
use Rattle.std.proofs.lemmas.Iterator.Consumers.{YieldsList-at, YieldsList-from_rest}
use Rattle.std.proofs.lemmas.Iterator.Search.{all_from_yields_List}
use Rattle.ic_queues.proofs.Queueing.{same_keys}
use Rattle.ic_queues.proofs.queues.have_queues.Goals as goal

pub returns-then-len : goal.returns-then-len
returns-then-len c = λ all.
    let ws = c.args.waiting.now.entries in
    let es = c.args.canisters.now.entries in
    let road = YieldsList-from_zip (YieldsList-at c.zip.ensures.first (YieldsList-from_rest (keys_of ws) c.keys.ensures.rest)) (YieldsList-at c.zip.ensures.second (YieldsList-from_rest (keys_of es) c.keys-then-len.ensures.rest)) in
    let each = all_from_yields_List (λ p. pointwise nat_eq p.0 p.1) c.all.new.self _ c.all.result c.all.ensures.ran road (λ x b q k. search (rules, tests)) in
    same_keys ws es (sym c.len.ensures.len ∙ c.if-len.true ∙ c.len-2.ensures.len) (sym each ∙ all)
