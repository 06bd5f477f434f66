use Rattle.std.proofs.Common.{◌≡◌, ◌∙◌, ◌++◌, ap, arith, sym}
use Rattle.std.proofs.lemmas.List.{append-nil}
use Rattle.ic_generate.specs.Script.{install_line, install_lines}
use Rattle.ic_generate.proofs.Lines.{install_more}
use Rattle.ic_generate.proofs.canisters.push_installs.Goals as goal

pub loop-counter-init : goal.loop-counter-init
unfolding install_lines
loop-counter-init c = sym (append-nil c.args.text.now.items)

pub loop-counter-preserved : goal.loop-counter-preserved
loop-counter-preserved c =
    c.in_ok-push_install.ensures
    ∙ (ap (λ l. l ++ install_line c.args.code.now c.loop-counter.counter) c.loop-counter.invariant ∙ install_more _ c.args.code.now c.loop-counter.counter)

pub returns : goal.returns
returns c =
    let end : c.loop-counter.counter ≡ c.args.count = omega arith in
    c.loop-counter.invariant ∙ ap (λ n. c.args.text.now.items ++ install_lines c.args.code.now n) end
