use Rattle.std.proofs.Common.{◌≡◌, true, false, refl, sym, ap, ◌∙◌, arith}
use Rattle.std.proofs.lemmas.List.{drop_all}
use Rattle.wm_typing.proofs.NestingTree.{within, too_deep, nests_to, nests_from}
use Rattle.wm_typing.proofs.nesting.nests_within.Goals as goal

pub returns-in-Opens : goal.returns-in-Opens
returns-in-Opens c =
    let none : within c.args.most 0 c.args.body.now ≡ false =
    sym c.loop-instr.invariant.0 ∙ too_deep c.args.body.now c.args.most c.loop-instr.open c.loop-instr.instr-index c.instr-item.result c.in-Opens.shape c.in-Opens.result (omega arith) c.instr-item.is c.in-Opens.ensures c.if-open-most.true in
    (λ e. absurd cc, λ low. absurd (nests_from c.args.body.now c.args.most c.requires none low))

pub returns : goal.returns
returns c =
    let all : within c.args.most 0 c.args.body.now ≡ true =
    sym c.loop-instr.invariant.0 ∙ ap (within c.args.most c.loop-instr.open) (drop_all c.loop-instr.instr-index c.args.body.now (omega arith)) in
    (λ _. nests_to c.args.body.now c.args.most c.requires all, λ _. refl)
