use Rattle.std.proofs.Common.{◌≡◌, ℕ, ◌+◌, drop, get_or, ap, sym, ◌∙◌, arith}
use Rattle.std.proofs.lemmas.List.{get_or-drop}
use Rattle.ic_principal.proofs.OrderLaws.{kept}
use Rattle.ic_principal.proofs.principal.Principal.front.Goals as goal

pub returns-clause-front : goal.returns-clause-front
returns-clause-front c =
    let p = c.args.self.now in
    let all = c.self.inside.bytes in
    let at : (i : ℕ) → get_or p i 0 ≡ get_or all i 0 = λ i. ap (λ l. get_or l i 0) (sym c.self.view_is) ∙ kept all c.self.inside.len i c.self.invariant in
    let behind : (i : ℕ) → get_or (drop 8 p) i 0 ≡ get_or all (8 + i) 0 = λ i. get_or-drop 8 p i 0 ∙ at (8 + i) in (
      omega (arith, c.from_be_bytes.ensures, at 0, at 1, at 2, at 3, at 4, at 5, at 6, at 7),
      omega (arith, c.from_be_bytes-2.ensures, behind 0, behind 1, behind 2, behind 3, behind 4, behind 5, behind 6, behind 7),
    )
