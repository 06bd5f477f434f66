use Rattle.std.proofs.Common.{None, Some, arith, sym, ◌∙◌, ap}
use Rattle.std.specs.Prelude.{Ok}
use Rattle.ic_leb.proofs.Sizes.{size_by}
use Rattle.ic_leb.proofs.reading.size_of.Goals as goal

pub returns-in-Some-clause-exact : goal.returns-in-Some-clause-exact
returns-in-Some-clause-exact c =
    let by = size_by c.args.most c.args.bytes.now (Some c.in-Some.last) (sym c.in-Some.is ∙ c.last_of.ensures.exact) in
    ap Ok (omega (arith, by.2)) ∙ sym by.1

pub returns-in-None-clause-exact : goal.returns-in-None-clause-exact
returns-in-None-clause-exact c = sym ((size_by c.args.most c.args.bytes.now None (sym c.in-None.is ∙ c.last_of.ensures.exact)).0 c.if-bytes-most.true)

pub returns-in-None-2-clause-exact : goal.returns-in-None-2-clause-exact
returns-in-None-2-clause-exact c = sym ((size_by c.args.most c.args.bytes.now None (sym c.in-None.is ∙ c.last_of.ensures.exact)).1 c.if-bytes-most.false)
