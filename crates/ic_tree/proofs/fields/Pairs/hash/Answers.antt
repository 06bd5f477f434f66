use Rattle.std.proofs.Common.{◌≡◌, ◌∙◌, ◌+◌, ◌++◌, ap, subst, sym, take}
use Rattle.std.specs.List.{concat}
use Rattle.std.proofs.lemmas.List.{append-nil, take_all, take_more}
use Rattle.std.proofs.lemmas.List.Folds.{concat-append}
use Rattle.sha2.specs.Hashers.{Holds256}
use Rattle.sha2.specs.Sha256.{sha256}
use Rattle.ic_tree.proofs.fields.Pairs.hash.Goals as goal

pub loop-pair-preserved : goal.loop-pair-preserved
loop-pair-preserved c =
    let i = c.loop-pair.pair-index in
    let pairs = c.deref-pair-items.result.now in
    let pair = c.pair-item.result in
    let more : concat (take (i + 1) pairs) ≡ concat (take i pairs) ++ pair =
    ap concat (take_more pairs i pair c.loop-pair-test.true)
    ∙ (concat-append (take i pairs) _ ∙ ap (λ p. concat (take i pairs) ++ p) (append-nil _ ∙ sym c.pair-item.is)) in
    let piece : c.as_slice.result.now ≡ pair = c.as_slice.ensures.value ∙ c.pair.view_is in
    subst (Holds256 c.update.new.self) (ap (λ p. concat (take i pairs) ++ p) piece ∙ sym more) (c.update.ensures (concat (take i pairs)) c.loop-pair.invariant)

pub returns : goal.returns
returns c =
    let i = c.loop-pair.pair-index in
    let pairs = c.deref-pair-items.result.now in
    let all : take i pairs ≡ c.args.self.now =
    take_all i pairs c.loop-pair-test.false ∙ (c.deref-pair-items.ensures.value ∙ c.self.view_is) in
    c.finalize.ensures (concat (take i pairs)) c.loop-pair.invariant ∙ ap (λ l. sha256 (concat l)) all
