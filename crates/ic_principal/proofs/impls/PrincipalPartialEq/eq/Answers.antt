use Rattle.std.proofs.Common.{◌≡◌, drop, length, ap, sym, ◌∙◌, arith}
use Rattle.std.specs.Int.{w64, from_be_bytes}
use Rattle.std.specs.Cmp.Lexicographic.{bytes_decides}
use Rattle.std.proofs.lemmas.Bool.Decides.{nat_tests}
use Rattle.ic_principal.proofs.OrderLaws.{alike, other}
use Rattle.ic_principal.proofs.impls.PrincipalPartialEq.eq.Goals.{then-a-b-via-then-a-b, then-a-b-via-else-a-b+then-a-b-2, then-a-b-via-else-a-b+else-a-b-2+then-len}
use Rattle.ic_principal.proofs.impls.PrincipalPartialEq.eq.Goals as goal

pub returns-then-a-b : goal.returns-then-a-b
returns-then-a-b c =
    let p = c.args.self.now in let q = c.args.other.now in
    other p q (λ e. elim c.then-a-b.branch [
      | then-a-b-via-then-a-b w ↦ w.if-a-b.true (c.front-a.ensures.front.0 ∙ ap (from_be_bytes w64) e ∙ sym c.front-b.ensures.front.0)
      | then-a-b-via-else-a-b+then-a-b-2 w ↦ w.if-a-b-2.true (c.front-a.ensures.front.1 ∙ ap (λ l. from_be_bytes w64 (drop 8 l)) e ∙ sym c.front-b.ensures.front.1)
      | then-a-b-via-else-a-b+else-a-b-2+then-len w ↦ w.if-len.true (w.len.ensures ∙ ap length e ∙ sym w.len-else-a-b-2.ensures)
    ])

pub returns-then-len-le16 : goal.returns-then-len-le16
returns-then-len-le16 c =
    let p = c.args.self.now in let q = c.args.other.now in
    let a = c.front-a.ensures in let b = c.front-b.ensures in
    let long : length p ≡ length q = sym c.len.ensures ∙ c.if-len.false ∙ c.len-else-a-b-2.ensures in
    let same = alike p q a.principal b.principal long (omega (arith, c.len-2.ensures, c.if-len-le16.true)) (sym a.front.0 ∙ c.if-a-b.false ∙ b.front.0) (sym a.front.1 ∙ c.if-a-b-2.false ∙ b.front.1) in
    let e = sym ((bytes_decides p q).1 same) in
    grind (arith, nat_tests) ∙ e
