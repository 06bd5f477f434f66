use Rattle.std.proofs.Common.{◌≡◌, ◌∙◌, ◌++◌, ap, arith, sym}
use Rattle.std.proofs.lemmas.List.{append-nil}
use Rattle.ic_generate.specs.Script.{create_line, create_lines}
use Rattle.ic_generate.proofs.Lines.{create_more}
use Rattle.ic_generate.proofs.canisters.push_creates.Goals as goal

pub loop-made-init : goal.loop-made-init
unfolding create_lines
loop-made-init c = sym (append-nil c.args.text.now.items)

pub loop-made-preserved : goal.loop-made-preserved
loop-made-preserved c =
    c.in_ok-push_create.ensures ∙ (ap (λ l. l ++ create_line) c.loop-made.invariant ∙ create_more _ c.loop-made._made)

pub returns : goal.returns
returns c =
    let end : c.loop-made._made ≡ c.args.count = omega arith in
    c.loop-made.invariant ∙ ap (λ n. c.args.text.now.items ++ create_lines n) end
