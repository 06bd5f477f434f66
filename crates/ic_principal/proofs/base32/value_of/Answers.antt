use Rattle.std.proofs.Common.{◌≡◌, get_or, sym, ap, ◌∙◌, arith}
use Rattle.ic_principal.specs.declared.base32.TheConstants.{PLACES}
use Rattle.ic_principal.proofs.PlaceLaws.{character-place, place-character}
use Rattle.ic_principal.proofs.base32.value_of.Goals as goal

pub returns-then-value-lt32-clause-some : goal.returns-then-value-lt32-clause-some
returns-then-value-lt32-clause-some c =
    (c.if-value-lt32.true, character-place c.args.letter (omega arith) c.if-value-lt32.true)

pub returns-else-value-lt32-clause-none : goal.returns-else-value-lt32-clause-none
returns-else-value-lt32-clause-none c = λ v small is.
    let place : get_or PLACES c.args.letter 0 ≡ v = ap (λ k. get_or PLACES k 0) (sym is) ∙ place-character v small in
    omega (arith, c.if-value-lt32.false)
