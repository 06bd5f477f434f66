use Rattle.std.proofs.Common.{sym, ◌∙◌}
use Rattle.std.specs.Ordering.{nat_cmp}
use Rattle.std.specs.Cmp.{Equal-is}
use Rattle.std.specs.Cmp.Lexicographic.{slice_cmp, texts_ties}
use Rattle.ic_principal.proofs.OrderLaws.{decided}
use Rattle.ic_principal.proofs.impls.PrincipalOrd.cmp.Goals as goal

pub returns-then-head-others : goal.returns-then-head-others
returns-then-head-others c =
    c.cmp.ensures ∙ decided c.args.self.now c.args.other.now _ _ c.front.ensures.principal c.front-2.ensures.principal c.front.ensures.front.0 c.front-2.ensures.front.0 c.if-head-others.true

pub returns-then-eq : goal.returns-then-eq
returns-then-eq c =
    let p = c.args.self.now in let q = c.args.other.now in
    sym ((Equal-is (slice_cmp nat_cmp p q)).0 (sym (texts_ties p q) ∙ sym c.if-eq.ensures))
